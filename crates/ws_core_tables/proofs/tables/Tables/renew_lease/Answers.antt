use Rattle.std.proofs.Common.{◌≡◌, true, false, ap, sym, ◌∙◌, subst, refl, ℕ, Bool, None, cond}
use Rattle.std.specs.Prelude.{Option, ◌==◌}
use Rattle.std.proofs.lemmas.Bool.{eqb-true}
use Rattle.ws_lease.specs.Table.{Rows as LeaseRows}
use Rattle.ws_lease.specs.Stands.{StandsFor as LeasesStand}
use Rattle.ws_delivery.specs.declared.open_pair.OpenPair.{OpenPair}
use Rattle.ws_delivery.specs.Table.{Rows as DeliveryRows, pair_at}
use Rattle.ws_delivery.proofs.RowsByKey.{ascends, same_rows}
use Rattle.ws_core_tables.specs.Rows.{Rows}
use Rattle.ws_core_tables.proofs.tables.Tables.renew_lease.Goals as goal

pub open_again-requires-clause-none : goal.open_again-requires-clause-none
open_again-requires-clause-none c v = ap (λ (r : Rows). pair_at v c.args.lease.intent.n r.deliveries) c.self.view_is ∙ c.requires.none v

pub returns-in-Ok-clause-leases : goal.returns-in-Ok-clause-leases
returns-in-Ok-clause-leases c h e since s k l m = c.in-Ok.ensures.stands h e since (subst (λ (r : Rows). LeasesStand h since r.leases) (sym c.self.view_is) s) k l m

-- what was opened again and is closed again is as it was
undone : (n q : ℕ) (taken old : Option OpenPair) → ((n ≡ q) → old ≡ None) → cond (n == q) None (cond (n == q) taken old) ≡ old
undone n q taken old k = by (n == q) refl
  where
    by : (b : Bool) → (n == q) ≡ b → cond b None (cond b taken old) ≡ old
    by true e = sym (k (eqb-true n q e))
    by false e = refl

pub returns-in-Err-clause-err : goal.returns-in-Err-clause-err
returns-in-Err-clause-err c =
    let same = same_rows c.close_lease.new.self c.self.inside.deliveries (ascends c.close_lease.new.self c.close_lease.ensures.ordered) (ascends c.self.inside.deliveries c.count.ensures.ordered)
    (λ v q.
    c.close_lease.ensures.look v q
    ∙ ap (λ o. cond (c.args.lease.intent.n == q) None o) (c.in_ok-open_again.ensures.look v q)
    ∙ undone c.args.lease.intent.n q _ (pair_at v q c.self.inside.deliveries)
    (λ k. ap (λ m. pair_at v m c.self.inside.deliveries) (sym k) ∙ ap (λ (r : Rows). pair_at v c.args.lease.intent.n r.deliveries) c.self.view_is ∙ c.requires.none v)) in
    ap (λ (ls : LeaseRows). record { intents = c.self.inside.intents; leases = ls; topics = c.self.inside.topics; deliveries = c.close_lease.new.self; numbers = c.self.inside.numbers }) c.in-Err.ensures.err
    ∙ ap (λ (ds : DeliveryRows). record { intents = c.self.inside.intents; leases = c.self.inside.leases; topics = c.self.inside.topics; deliveries = ds; numbers = c.self.inside.numbers }) same
    ∙ c.self.view_is
