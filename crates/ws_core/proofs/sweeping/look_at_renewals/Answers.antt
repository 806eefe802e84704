use Rattle.std.proofs.Common.{◌≡◌, ◌++◌, false, sym, subst, true}
use Rattle.std.specs.Prelude.{reverse, ◌==◌}
use mathlib.Core.Bool.{Bool-set}
use mathlib.Core.Logic.{∥∥₁_elim, ∥∥₁_map}
use Rattle.ws_model.specs.Keep.{kept_leases, member}
use Rattle.ws_tries.specs.Rows.{tries_at}
use Rattle.ws_kept.specs.Part.{IsPart}
use Rattle.ws_kept.specs.Stands.{renewals}
use Rattle.ws_core.proofs.Freed.{among, lease_leaves, not_needed, stays_gone, without_first}
use Rattle.ws_core.proofs.sweeping.look_at_renewals.Goals as goal

pub returns-in-Some : goal.returns-in-Some
returns-in-Some c =
    record {
      renewals = λ h held renewed.
          ∥∥₁_map renewed
          (λ part.
          let free = c.is_free_renewal.ensures c.if-is_free_renewal.true h held (among c.args.renewals.now.looked c.args.renewals.now.left c.in-Some.renewal.now c.in-Some.ensures part) in
          subst (λ xs. IsPart (λ r. member r.replaced.n (kept_leases h c.args.t) ≡ true) xs (reverse (renewals h))) (λ j. sym c.take_next.ensures.looked j ++ sym c.take_next.ensures.left j)
          (without_first (λ r. member r.replaced.n (kept_leases h c.args.t) ≡ true) c.args.renewals.now.looked c.args.renewals.now.left c.in-Some.renewal.now c.in-Some.ensures
          (not_needed (member c.in-Some.renewal.now.replaced.n (kept_leases h c.args.t)) free) part));
      leaves = λ h held renewed.
          lease_leaves (λ n. member n (kept_leases h c.args.t) ≡ false) c.in-Some.renewal.now.replaced.n c.args.tries.now c.give_back_lease.new.self
          (∥∥₁_elim renewed (Bool-set _ _)
          (λ part. c.is_free_renewal.ensures c.if-is_free_renewal.true h held (among c.args.renewals.now.looked c.args.renewals.now.left c.in-Some.renewal.now c.in-Some.ensures part)))
          c.give_back_lease.ensures.look;
      none = λ v n k. stays_gone (c.in-Some.renewal.now.replaced.n == n) (tries_at v n c.args.tries.now) (tries_at v n c.give_back_lease.new.self) (c.give_back_lease.ensures.look v n) k;
    }
