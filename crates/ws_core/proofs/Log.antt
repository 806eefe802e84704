-- The log and the renewals of a history, over an event.
use Rattle.std.proofs.Common.{◌≡◌, ℕ, ◌≤◌, true, false, cond, not, List, [], ◌∷◌, ◌++◌, refl, ap, sym, ◌∙◌, subst}
use Rattle.std.specs.Prelude.{filter, map, reverse, Option, Some, None}
use Rattle.std.proofs.lemmas.List.{append-nil, map-append, reverse-append}
use Rattle.std.proofs.lemmas.Bool.{false≢true}
use mathlib.Core.Logic.{∥∥₁_map}
use Rattle.ws_model.specs.declared.event.Event.{Event}
use Rattle.ws_model.specs.declared.event.How.{How}
use Rattle.ws_model.specs.declared.event.What.{What}
use Rattle.ws_model.specs.declared.event.What.TheVariants.{Asked, Confirmed, Declined, Unheard, Barred, Noticed, Pinged, Fetched, Same, Unfetched, Pushed, Tally, Revoked}
use Rattle.ws_model.specs.Keep.{kept_leases, member}
use Rattle.ws_model.specs.Leases.{confirmed_intent, lease_of, live}
use Rattle.ws_model.specs.Legal.{Legal}
use Rattle.ws_tries.specs.Stands.{is_any_push}
use Rattle.ws_fate.specs.Stands.{is_quiet}
use Rattle.ws_kept.specs.declared.renewal.Renewal.{Renewal}
use Rattle.ws_kept.specs.Part.{IsPart}
use Rattle.ws_kept.specs.Stands.{AreRenewed, IsLogged, is_needed, light_event, log_of, renewals, replaces}
use Rattle.ws_kept.proofs.Part.{part_append, part_of_fewer}
use Rattle.ws_core.specs.Renewed.{listed}
use Rattle.ws_core.proofs.Fewer.{needed_before, renewed_before}

-- ---- the log

-- a push isn't there
log_pushed : (e : Event) (h : List Event) → is_any_push e.what ≡ true → log_of (e ∷ h) ≡ log_of h
log_pushed e h push = ap (λ b. map light_event (reverse (cond (not b) (e ∷ others) others))) push
  where
    others : List Event
    others = filter (λ e. not (is_any_push e.what)) h

-- each other event stands at the end
log_other : (e : Event) (h : List Event) → is_any_push e.what ≡ false → log_of (e ∷ h) ≡ log_of h ++ light_event e ∷ []
log_other e h other =
    ap (λ b. map light_event (reverse (cond (not b) (e ∷ others) others))) other
    ∙ ap (map light_event) (reverse-append (e ∷ []) others)
    ∙ map-append light_event (reverse others) (e ∷ [])
  where
    others : List Event
    others = filter (λ e. not (is_any_push e.what)) h

module _ (e : Event) (h : List Event) (since : ℕ) (log : List Event) (l : Legal (e ∷ h)) (le : since ≤ e.t) (logged : IsLogged h since log) where
  still_logged : ∥ IsPart (λ x. is_needed (e ∷ h) e.t x ≡ true) log (log_of h) ∥₁
  still_logged = ∥∥₁_map logged (part_of_fewer (λ x. is_needed h since x ≡ true) (λ x. is_needed (e ∷ h) e.t x ≡ true) (needed_before e h since l le))

  pub logged_pushed : is_any_push e.what ≡ true → IsLogged (e ∷ h) e.t log
  logged_pushed push = subst (λ all. ∥ IsPart (λ x. is_needed (e ∷ h) e.t x ≡ true) log all ∥₁) (sym (log_pushed e h push)) still_logged

  pub logged_other : is_any_push e.what ≡ false → IsLogged (e ∷ h) e.t (log ++ light_event e ∷ [])
  logged_other other =
      subst (λ all. ∥ IsPart (λ x. is_needed (e ∷ h) e.t x ≡ true) (log ++ light_event e ∷ []) all ∥₁) (sym (log_other e h other))
      (∥∥₁_map still_logged (part_append (λ x. is_needed (e ∷ h) e.t x ≡ true) (light_event e)))

-- ---- the renewals

turned : {X : Type 0} (o : Option X) → reverse (listed o) ≡ listed o
turned None = refl
turned (Some x) = refl

renewals_after : (e : Event) (h : List Event) (found : Option Renewal) → listed found ≡ replaces (live h e.t) (lease_of e.what (confirmed_intent e.what h)) → reverse (renewals (e ∷ h)) ≡ reverse (renewals h) ++ listed found
renewals_after e h found is =
    reverse-append (replaces (live h e.t) (lease_of e.what (confirmed_intent e.what h))) (renewals h)
    ∙ ap (λ rs. reverse (renewals h) ++ reverse rs) (sym is)
    ∙ ap (λ rs. reverse (renewals h) ++ rs) (turned found)

-- a push renews nothing
renewals_pushed : (e : Event) (h : List Event) (v n : ℕ) (how : How) → e.what ≡ Pushed v n how → renewals (e ∷ h) ≡ renewals h
renewals_pushed e h v n how kind = ap (λ w. replaces (live h e.t) (lease_of w (confirmed_intent w h)) ++ renewals h) kind

module _ (e : Event) (h : List Event) (since : ℕ) (rows : List Renewal) (l : Legal (e ∷ h)) (le : since ≤ e.t) (renewed : AreRenewed h since rows) where
  still_renewed : ∥ IsPart (λ r. member r.replaced.n (kept_leases (e ∷ h) e.t) ≡ true) rows (reverse (renewals h)) ∥₁
  still_renewed = ∥∥₁_map renewed (part_of_fewer (λ r. member r.replaced.n (kept_leases h since) ≡ true) (λ r. member r.replaced.n (kept_leases (e ∷ h) e.t) ≡ true) (renewed_before e h since l le))

  -- where the event makes no lease
  pub renewed_same : renewals (e ∷ h) ≡ renewals h → AreRenewed (e ∷ h) e.t rows
  renewed_same same = subst (λ rs. ∥ IsPart (λ r. member r.replaced.n (kept_leases (e ∷ h) e.t) ≡ true) rows (reverse rs) ∥₁) (sym same) still_renewed

  pub renewed_after : (found : Option Renewal) → listed found ≡ replaces (live h e.t) (lease_of e.what (confirmed_intent e.what h)) → AreRenewed (e ∷ h) e.t (rows ++ listed found)
  renewed_after found is = subst (λ all. ∥ IsPart (λ r. member r.replaced.n (kept_leases (e ∷ h) e.t) ≡ true) (rows ++ listed found) all ∥₁) (sym (renewals_after e h found is)) (by found)
    where
      by : (o : Option Renewal) → ∥ IsPart (λ r. member r.replaced.n (kept_leases (e ∷ h) e.t) ≡ true) (rows ++ listed o) (reverse (renewals h) ++ listed o) ∥₁
      by None =
          subst (λ all. ∥ IsPart (λ r. member r.replaced.n (kept_leases (e ∷ h) e.t) ≡ true) (rows ++ []) all ∥₁) (sym (append-nil (reverse (renewals h))))
          (subst (λ rs. ∥ IsPart (λ r. member r.replaced.n (kept_leases (e ∷ h) e.t) ≡ true) rs (reverse (renewals h)) ∥₁) (sym (append-nil rows)) still_renewed)
      by (Some r) = ∥∥₁_map still_renewed (part_append (λ r. member r.replaced.n (kept_leases (e ∷ h) e.t) ≡ true) r)

  pub renewed_pushed : (v n : ℕ) (how : How) → e.what ≡ Pushed v n how → AreRenewed (e ∷ h) e.t rows
  renewed_pushed v n how kind = renewed_same (renewals_pushed e h v n how kind)

-- ---- what makes and ends no pair

pub quiet_other : (w : What) → is_quiet w ≡ true → is_any_push w ≡ false
quiet_other (Pushed v n how) q = absurd (false≢true q)
quiet_other (Asked i) q = refl
quiet_other (Confirmed n sent) q = refl
quiet_other (Declined n code) q = refl
quiet_other (Unheard n) q = refl
quiet_other (Barred n reason) q = refl
quiet_other (Noticed n heard) q = refl
quiet_other (Pinged topic) q = refl
quiet_other (Fetched v) q = refl
quiet_other (Same topic upto) q = refl
quiet_other (Unfetched topic upto why) q = refl
quiet_other (Tally c) q = refl
quiet_other (Revoked n reason) q = refl

quiet_leases : (w : What) (h : List Event) → is_quiet w ≡ true → lease_of w (confirmed_intent w h) ≡ []
quiet_leases (Confirmed n sent) h q = absurd (false≢true q)
quiet_leases (Fetched v) h q = refl
quiet_leases (Pushed v n how) h q = refl
quiet_leases (Asked i) h q = refl
quiet_leases (Declined n code) h q = refl
quiet_leases (Unheard n) h q = refl
quiet_leases (Barred n reason) h q = refl
quiet_leases (Noticed n heard) h q = refl
quiet_leases (Pinged topic) h q = refl
quiet_leases (Same topic upto) h q = refl
quiet_leases (Unfetched topic upto why) h q = refl
quiet_leases (Tally c) h q = refl
quiet_leases (Revoked n reason) h q = refl

renewals_quiet : (e : Event) (h : List Event) → is_quiet e.what ≡ true → renewals (e ∷ h) ≡ renewals h
renewals_quiet e h q = ap (λ ls. replaces (live h e.t) ls ++ renewals h) (quiet_leases e.what h q)

-- it stands in the log, and renews nothing
pub logged_quiet : (e : Event) (h : List Event) (since : ℕ) (log : List Event) → Legal (e ∷ h) → since ≤ e.t → is_quiet e.what ≡ true → IsLogged h since log → IsLogged (e ∷ h) e.t (log ++ light_event e ∷ [])
logged_quiet e h since log l le q logged = logged_other e h since log l le logged (quiet_other e.what q)

pub renewed_quiet : (e : Event) (h : List Event) (since : ℕ) (rows : List Renewal) → Legal (e ∷ h) → since ≤ e.t → is_quiet e.what ≡ true → AreRenewed h since rows → AreRenewed (e ∷ h) e.t rows
renewed_quiet e h since rows l le q renewed = renewed_same e h since rows l le renewed (renewals_quiet e h q)
