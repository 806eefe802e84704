-- What tells of a version or of a lease that is kept isn't missing from the log.
use Rattle.std.proofs.Common.{◌≡◌, ℕ, ◌≤◌, Bool, true, ◌||◌, List, sym, ◌∙◌, subst}
use Rattle.std.specs.Prelude.{◌==◌}
use Rattle.std.specs.List.{list_any}
use Rattle.std.proofs.lemmas.Bool.{and_parts, eqb-true, false≢true, or_left, or_right}
use mathlib.Core.Bool.{Bool-set}
use mathlib.Core.Logic.{∥∥₁_elim}
use Rattle.ws_model.specs.declared.event.Event.{Event}
use Rattle.ws_model.specs.declared.event.What.{What}
use Rattle.ws_model.specs.declared.event.What.TheVariants.{Asked, Confirmed, Declined, Unheard, Barred, Noticed, Pinged, Fetched, Same, Unfetched, Pushed, Tally, Revoked}
use Rattle.ws_model.specs.Intents.{notices, pending}
use Rattle.ws_model.specs.Keep.{first_kept, is_among, keeps, kept_leases, member}
use Rattle.ws_model.specs.Legal.{Legal}
use Rattle.ws_model.specs.Moment.{last_time}
use Rattle.ws_model.specs.Verdict.{is_kept_version}
use Rattle.ws_laws.proofs.ListLaws.{all_from, all_weaker}
use Rattle.ws_compaction.proofs.Replaced.{kept_more}
use Rattle.ws_compaction.proofs.DroppedEvents.{drops_event_later}
use Rattle.ws_kept.specs.Finding.{gives_latest, gives_lease, is_latest}
use Rattle.ws_kept.specs.Stands.{IsLogged, is_needed, is_tally, log_of}
use Rattle.ws_kept.proofs.First.{first_logged}
use Rattle.ws_kept.proofs.Latest.{latest_logged}
use Rattle.ws_kept.proofs.Lists.{each_any}
use Rattle.ws_kept.proofs.Part.{part_any}

module _ (h : List Event) (since t : ℕ) (l : Legal h) (le : since ≤ t) where
  -- what a compaction at t keeps is needed before
  needed_before : (e : Event) → keeps h t e e.what ≡ true → is_needed h since e ≡ true
  needed_before e k = or_right (is_tally e.what) _ (drops_event_later h since t e l le k)

  -- ---- versions

  latest_kept : (v : ℕ) (e : Event) (w : What) → gives_latest h v w ≡ true → keeps h t e w ≡ true
  latest_kept v e (Fetched x) k = or_left _ _ (and_parts (x.ver == v) (is_latest h x.ver) k).1
  latest_kept v e (Asked i) k = absurd (false≢true k)
  latest_kept v e (Confirmed n sent) k = absurd (false≢true k)
  latest_kept v e (Declined n code) k = absurd (false≢true k)
  latest_kept v e (Unheard n) k = absurd (false≢true k)
  latest_kept v e (Barred n reason) k = absurd (false≢true k)
  latest_kept v e (Noticed n heard) k = absurd (false≢true k)
  latest_kept v e (Pinged topic) k = absurd (false≢true k)
  latest_kept v e (Same topic upto) k = absurd (false≢true k)
  latest_kept v e (Unfetched topic upto why) k = absurd (false≢true k)
  latest_kept v e (Pushed x n how) k = absurd (false≢true k)
  latest_kept v e (Tally c) k = absurd (false≢true k)
  latest_kept v e (Revoked n reason) k = absurd (false≢true k)

  pub latest_held : (log : List Event) (v : ℕ) → IsLogged h since log → list_any (λ e. gives_latest h v e.what) log ≡ is_latest h v
  latest_held log v logged =
      ∥∥₁_elim logged (Bool-set _ _) (part_any (λ e. is_needed h since e ≡ true) (λ e. gives_latest h v e.what) (all_from (λ e. gives_latest h v e.what ≡ true → is_needed h since e ≡ true) (λ e k. needed_before e (latest_kept v e e.what k)) (log_of h)))
      ∙ latest_logged h v

  -- ---- leases

  lease_kept : (n : ℕ) (e : Event) (w : What) → member n (kept_leases h t) ≡ true → gives_lease h t n w ≡ true → keeps h t e w ≡ true
  lease_kept n e (Asked i) m k =
      or_right (is_among (pending h) i.n || is_among (notices h) i.n) _ (subst (λ x. member x (kept_leases h t) ≡ true) (sym (eqb-true i.n n (and_parts (i.n == n) _ k).0)) m)
  lease_kept n e (Confirmed x sent) m k = subst (λ y. member y (kept_leases h t) ≡ true) (sym (eqb-true x n (and_parts (x == n) _ k).0)) m
  lease_kept n e (Declined x code) m k = absurd (false≢true k)
  lease_kept n e (Unheard x) m k = absurd (false≢true k)
  lease_kept n e (Barred x reason) m k = absurd (false≢true k)
  lease_kept n e (Noticed x heard) m k = absurd (false≢true k)
  lease_kept n e (Pinged topic) m k = absurd (false≢true k)
  lease_kept n e (Fetched x) m k = absurd (false≢true k)
  lease_kept n e (Same topic upto) m k = absurd (false≢true k)
  lease_kept n e (Unfetched topic upto why) m k = absurd (false≢true k)
  lease_kept n e (Pushed x y how) m k = absurd (false≢true k)
  lease_kept n e (Tally c) m k = absurd (false≢true k)
  lease_kept n e (Revoked x reason) m k = absurd (false≢true k)

  -- what tells of the lease makes it a kept one
  first_is_kept : (n : ℕ) → last_time h ≤ t → list_any (λ e. gives_lease h t n e.what) (log_of h) ≡ true → member n (kept_leases h t) ≡ true
  first_is_kept n later k = kept_more (is_kept_version h t) h (first_kept h t) n (sym (first_logged h t n l later) ∙ k)

  pub first_held : (log : List Event) (n : ℕ) → last_time h ≤ t → IsLogged h since log → list_any (λ e. gives_lease h t n e.what) log ≡ member n (first_kept h t)
  first_held log n later logged =
      ∥∥₁_elim logged (Bool-set _ _)
      (part_any (λ e. is_needed h since e ≡ true) (λ e. gives_lease h t n e.what)
      (all_weaker (λ e. (q : Event → Bool) → q e ≡ true → list_any q (log_of h) ≡ true) (λ e. gives_lease h t n e.what ≡ true → is_needed h since e ≡ true)
      (λ e f k. needed_before e (lease_kept n e e.what (first_is_kept n later (f (λ x. gives_lease h t n x.what) k)) k)) (log_of h) (each_any (log_of h))))
      ∙ first_logged h t n l later
