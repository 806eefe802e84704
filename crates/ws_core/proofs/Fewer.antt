-- What no compaction would keep before an event, none keeps after it: of the log, and of the renewals.
use Rattle.std.proofs.Common.{◌≡◌, ℕ, ◌≤◌, true, not, ◌||◌, List, [], ◌∷◌, ◌++◌, refl, ap, sym, ◌∙◌, subst, inl, inr}
use Rattle.std.specs.Prelude.{filter, find, is_none, reverse, Option, Some, None}
use Rattle.std.specs.List.{AllByRecursion}
use Rattle.std.proofs.lemmas.Bool.{or_cases, or_left, or_right}
use Rattle.std.proofs.lemmas.List.{append_assoc}
use mathlib.Core.Logic.{∥∥₁_map}
use Rattle.ws_model.specs.declared.event.Event.{Event}
use Rattle.ws_model.specs.declared.event.What.{What}
use Rattle.ws_model.specs.declared.event.What.TheVariants.{Asked, Confirmed, Declined, Unheard, Barred, Noticed, Pinged, Fetched, Same, Unfetched, Pushed, Tally, Revoked}
use Rattle.ws_model.specs.declared.lease.Lease.{Lease}
use Rattle.ws_model.specs.History.{has}
use Rattle.ws_model.specs.Intents.{same_pair}
use Rattle.ws_model.specs.Keep.{keeps, kept_leases, member}
use Rattle.ws_model.specs.Leases.{confirmed_intent, is_confirmed, lease_end, lease_of, leases, live}
use Rattle.ws_model.specs.Legal.{Legal}
use Rattle.ws_laws.proofs.Known.{IsOfConfirmed, leases_confirmed}
use Rattle.ws_laws.proofs.ListLaws.{all_append, all_filter, all_find, all_from, all_map, all_weaker}
use Rattle.ws_compaction.proofs.Dropped.{drops_lease, drops_lease_later, either_more}
use Rattle.ws_compaction.proofs.DroppedEvents.{drops_event, drops_event_later}
use Rattle.ws_tries.specs.Stands.{is_any_push}
use Rattle.ws_kept.specs.declared.renewal.Renewal.{Renewal}
use Rattle.ws_kept.specs.Stands.{IsLogged, is_needed, is_tally, light, light_event, log_of, other_events, renewals, replaces, with_old}
use Rattle.ws_kept.proofs.Lists.{all_reverse}
use Rattle.ws_kept.proofs.Part.{part_of_fewer}

-- ---- lists

module _ {X : Type 0} where
  moved : (c : List X) (x : X) (g : List X) → c ++ x ∷ g ≡ (c ++ x ∷ []) ++ g
  moved c x g = sym (append_assoc c (x ∷ []) g)

  -- what holds of a member wherever it stands holds of each
  from_places : (P : X → Type 0) (c g all : List X) → all ≡ c ++ g → ((c g : List X) (x : X) → all ≡ c ++ x ∷ g → P x) → AllByRecursion P g
  from_places P c [] all k f = tt
  from_places P c (x ∷ g) all k f = (f c g x k, from_places P (c ++ x ∷ []) g all (k ∙ moved c x g) f)

-- ---- the log

needed_light : (h : List Event) (t : ℕ) (e : Event) (w : What) → (is_tally (light w) || keeps h t (light_event e) (light w)) ≡ (is_tally w || keeps h t e w)
needed_light h t e (Asked i) = refl
needed_light h t e (Confirmed n sent) = refl
needed_light h t e (Declined n code) = refl
needed_light h t e (Unheard n) = refl
needed_light h t e (Barred n reason) = refl
needed_light h t e (Noticed n heard) = refl
needed_light h t e (Pinged topic) = refl
needed_light h t e (Fetched v) = refl
needed_light h t e (Same topic upto) = refl
needed_light h t e (Unfetched topic upto why) = refl
needed_light h t e (Pushed v n how) = refl
needed_light h t e (Tally c) = refl
needed_light h t e (Revoked n reason) = refl

-- by an event of the log
abbrev pub NeededBefore : Event → List Event → ℕ → Event → Type 0
NeededBefore e h since x = is_needed (e ∷ h) e.t x ≡ true → is_needed h since x ≡ true

whole_before : (e : Event) (h : List Event) (since : ℕ) → Legal (e ∷ h) → since ≤ e.t → AllByRecursion (NeededBefore e h since) h
whole_before e h since l le = from_places (NeededBefore e h since) [] h h refl by
  where
    by : (c g : List Event) (x : Event) → h ≡ c ++ x ∷ g → NeededBefore e h since x
    by c g x k needed =
        elim (or_cases (is_tally x.what) (keeps (e ∷ h) e.t x x.what) needed) [
          | inl a ↦ or_left _ _ a
          | inr a ↦
              or_right (is_tally x.what) _
              (drops_event_later h since e.t x l.0 le
              (ap (λ z. keeps z e.t x x.what) k ∙ drops_event c g x e (subst (λ z. Legal (e ∷ z)) k l) (sym (ap (λ z. keeps (e ∷ z) e.t x x.what) k) ∙ a)))
        ]

pub needed_before : (e : Event) (h : List Event) (since : ℕ) → Legal (e ∷ h) → since ≤ e.t → AllByRecursion (NeededBefore e h since) (log_of h)
needed_before e h since l le =
    all_map (NeededBefore e h since) light_event (other_events h)
    (all_reverse (λ x. NeededBefore e h since (light_event x)) (filter (λ x. not (is_any_push x.what)) h)
    (all_filter (λ x. NeededBefore e h since (light_event x)) (λ x. not (is_any_push x.what)) h
    (all_weaker (NeededBefore e h since) (λ x. NeededBefore e h since (light_event x))
    (λ x f k. needed_light h since x x.what ∙ f (sym (needed_light (e ∷ h) e.t x x.what) ∙ k)) h (whole_before e h since l le))))

-- ---- the renewals

live_confirmed : (h : List Event) (t : ℕ) → AllByRecursion (IsOfConfirmed h) (live h t)
live_confirmed h t = all_filter (IsOfConfirmed h) (λ (l : Lease). is_none (lease_end h l t)) (leases h) (leases_confirmed h)

-- the lease that a new one replaces was confirmed
abbrev OldIsConfirmed : List Event → Renewal → Type 0
OldIsConfirmed h r = has (is_confirmed r.replaced.n) h ≡ true

old_confirmed : (h : List Event) (t : ℕ) (ls : List Lease) → AllByRecursion (OldIsConfirmed h) (replaces (live h t) ls)
old_confirmed h t [] = tt
old_confirmed h t (l ∷ ls) = by (find (λ m. same_pair l.intent m.intent) (live h t)) refl
  where
    by : (o : Option Lease) → find (λ m. same_pair l.intent m.intent) (live h t) ≡ o → AllByRecursion (OldIsConfirmed h) (with_old l.intent.n o)
    by None k = tt
    by (Some m) k = ((all_find (IsOfConfirmed h) (λ m. same_pair l.intent m.intent) m (live h t) (live_confirmed h t) k).0, tt)

all_old_confirmed : (h : List Event) → AllByRecursion (OldIsConfirmed h) (renewals h)
all_old_confirmed [] = tt
all_old_confirmed (e ∷ h) =
    all_weaker (OldIsConfirmed h) (OldIsConfirmed (e ∷ h)) (λ r k. or_right (is_confirmed r.replaced.n e.what) _ k) (replaces (live h e.t) (lease_of e.what (confirmed_intent e.what h)) ++ renewals h)
    (all_append (OldIsConfirmed h) (replaces (live h e.t) (lease_of e.what (confirmed_intent e.what h))) (renewals h) (old_confirmed h e.t (lease_of e.what (confirmed_intent e.what h))) (all_old_confirmed h))

pub renewed_before : (e : Event) (h : List Event) (since : ℕ) → Legal (e ∷ h) → since ≤ e.t
    → AllByRecursion (λ r. member r.replaced.n (kept_leases (e ∷ h) e.t) ≡ true → member r.replaced.n (kept_leases h since) ≡ true) (reverse (renewals h))
renewed_before e h since l le =
    all_reverse (λ r. member r.replaced.n (kept_leases (e ∷ h) e.t) ≡ true → member r.replaced.n (kept_leases h since) ≡ true) (renewals h)
    (all_weaker (OldIsConfirmed h) (λ r. member r.replaced.n (kept_leases (e ∷ h) e.t) ≡ true → member r.replaced.n (kept_leases h since) ≡ true)
    (λ r confirmed k. drops_lease_later h since e.t r.replaced.n l.0 le (drops_lease h e r.replaced.n l confirmed k)) (renewals h) (all_old_confirmed h))

-- ---- at a later moment

pub logged_later : (h : List Event) (since t : ℕ) (log : List Event) → Legal h → since ≤ t → IsLogged h since log → IsLogged h t log
logged_later h since t log l le logged =
    ∥∥₁_map logged
    (part_of_fewer (λ x. is_needed h since x ≡ true) (λ x. is_needed h t x ≡ true)
    (all_from (λ x. is_needed h t x ≡ true → is_needed h since x ≡ true) (λ x k. either_more (is_tally x.what) (keeps h t x x.what) (is_tally x.what) (keeps h since x x.what) (λ a. a) (drops_event_later h since t x l le) k) (log_of h)))
