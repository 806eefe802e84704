use Rattle.std.proofs.Common.{◌≡◌, ◌≤◌, ℕ, ap, arith, sym, true, ◌∙◌, ◌&&◌, ◌||◌}
use Rattle.std.specs.Prelude.{nat_lt, reverse, ◌==◌}
use Rattle.std.specs.BTreeSet.{contains}
use Rattle.std.specs.List.{list_any}
use Rattle.std.specs.Ordering.{nat_cmp}
use Rattle.std.proofs.Math.Bool.{or_comm}
use mathlib.Core.Bool.{Bool-set}
use mathlib.Core.Logic.{∥∥₁_elim}
use Rattle.ws_model.specs.Keep.{first_kept, kept_leases, member}
use Rattle.ws_model.specs.Legal.{number_limit}
use Rattle.ws_model.specs.Moment.{last_time}
use Rattle.ws_model.specs.Pairs.{owed}
use Rattle.ws_model.specs.Verdict.{is_kept_version}
use Rattle.ws_sweep.specs.Rows.{members}
use Rattle.ws_kept.specs.Finding.{goes_on, goes_on_in, is_latest, went_over, with_old_ones}
use Rattle.ws_kept.specs.Stands.{renewals}
use Rattle.ws_kept.proofs.Fewer.{fewer_walked, renewed_at}
use Rattle.ws_kept.proofs.GoneOver.{found_by_pairs, there_by_rooms}
use Rattle.ws_kept.proofs.Lists.{contains_member}
use Rattle.ws_kept.proofs.Needed.{first_held, latest_held}
use Rattle.ws_kept.proofs.Renewed.{passed}
use Rattle.ws_kept.proofs.WentOver.{went, went_is}
use Rattle.ws_kept.proofs.kept.Kept.of.Goals as goal

pub returns : goal.returns
returns c =
    record {
      stands = λ h since s shown rooms logged renewed l k.
          let begun : last_time h ≤ since = s.leases.begun in
          let later : last_time h ≤ c.args.t = omega arith in
          let fates = c.args.fates.now in
          let tries = c.args.tries.now in
          let versions = is_kept_version h c.args.t in
          let kept : (v : ℕ) → contains nat_cmp c.in_ok-versions.versions v ≡ is_kept_version h c.args.t v = λ v.
          c.in_ok-versions.ensures.stands h since s l v
          ∙ (λ i. c.in_ok-owed.ensures.stands h since s rooms l k v i || latest_held h since c.args.t l k (members c.args.log.now) v logged i)
          ∙ or_comm (list_any (λ p. p.version.ver == v) (owed h c.args.t)) (is_latest h v) in
          let first : (n : ℕ) → member n c.in_ok-first.first.keys ≡ member n (first_kept h c.args.t) = λ n.
          sym (contains_member c.in_ok-first.first n)
          ∙ c.in_ok-first.ensures.stands h since s l k n
          ∙ first_held h since c.args.t l k (members c.args.log.now) n later logged in
          let goes : (n : ℕ) → nat_lt n number_limit ≡ true → goes_on versions fates.pairs n ≡ went h c.args.t versions n = λ n low.
          ap (λ b. b && went_over versions n fates.pairs) low
          ∙ went_is h c.args.t versions n l fates c.count.ensures.ordered (λ w m. shown c.args.t w m k) in
          let all : (n : ℕ) → member n (with_old_ones (goes_on versions fates.pairs) c.in_ok-first.first.keys (reverse (renewals h))) ≡ member n (kept_leases h c.args.t) = λ n.
          sym (passed h c.args.t versions (goes_on versions fates.pairs) l later goes (first_kept h c.args.t) c.in_ok-first.first.keys (λ m. sym (first m)) n) in
          record {
            versions = λ v. sym (contains_member c.in_ok-versions.versions v) ∙ kept v;
            leases = λ n.
                sym (contains_member c.in_ok-leases.leases n)
                ∙ c.in_ok-leases.ensures n
                ∙ (λ i. member n (with_old_ones (goes_on_in (λ v. kept v i) fates tries) c.in_ok-first.first.keys (members c.args.renewals.now)))
                ∙ ∥∥₁_elim (renewed_at h since c.args.t (members c.args.renewals.now) l k renewed) (Bool-set _ _)
                (λ part. fewer_walked (goes_on versions fates.pairs) (goes_on_in versions fates tries) (λ m. member m (kept_leases h c.args.t) ≡ true) c.in_ok-first.first.keys
                (found_by_pairs versions fates tries) (there_by_rooms h c.args.t fates tries l c.count.ensures.ordered (λ w m. shown c.args.t w m k) rooms)
                part (λ m a. sym (all m) ∙ a) n)
                ∙ all n;
          };
    }
