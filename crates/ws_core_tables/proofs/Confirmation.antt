-- What a confirmation does to the live leases and to what is owed to them.
use Rattle.std.proofs.Common.{◌≡◌, ℕ, ◌≤◌, Bool, true, false, not, cond, List, [], ◌∷◌, refl, ap, sym, ◌∙◌}
use Rattle.std.specs.Prelude.{is_none, is_some, Option, Some, None, IfSome, IsSomeAnd, MatchOption, find, ◌==◌}
use Rattle.std.specs.Option.{option_map}
use Rattle.std.proofs.lemmas.Bool.{eqb-true, false_from_ne_true}
use Rattle.ws_model.specs.declared.event.Event.{Event}
use Rattle.ws_model.specs.declared.event.Intent.{Intent}
use Rattle.ws_model.specs.declared.event.What.TheVariants.{Confirmed}
use Rattle.ws_model.specs.declared.fate.Cause.TheVariants.{Unsubscribed}
use Rattle.ws_model.specs.declared.lease.Lease.{Lease}
use Rattle.ws_model.specs.Fate.{fate, is_owed}
use Rattle.ws_model.specs.Intents.{asked, is_pending_number, same_pair}
use Rattle.ws_model.specs.Leases.{confirmed_intent, end_by_mode, is_on, live}
use Rattle.ws_model.specs.Legal.{Legal, pending_of}
use Rattle.ws_model.specs.Moment.{last_time}
use Rattle.ws_model.specs.Pairs.{owed, pairs}
use Rattle.ws_model.specs.Revocation.{is_lease_of, live_lease_of}
use Rattle.ws_model.specs.View.{OwedPush, owed_push, view}
use Rattle.ws_laws.specs.Steps.{after_miss, new_pushes, owed_afresh, stays_owed}
use Rattle.ws_laws.proofs.Apart.{one_live}
use Rattle.ws_laws.proofs.Ended.{IsToldPair, pairs_told}
use Rattle.ws_laws.proofs.Known.{in_time}
use Rattle.ws_laws.proofs.ListLaws.{all_filter_with, all_find, all_from, all_map, all_weaker}
use Rattle.ws_laws.proofs.Paired.{owed_lives}
use Rattle.ws_laws.proofs.Step.{find_pending}
use Rattle.ws_lease.specs.Table.{Rows as LeaseRows, live_at}
use Rattle.ws_lease.specs.Stands.{StandsFor as LeasesStand, EndsLease, LeavesLeases, is_numbered}
use Rattle.ws_lease.proofs.Standing.{found_by_number, live_apart, none_passes, not_same_pair, pair_turned}
use Rattle.ws_lease.proofs.WhichEvents.{unsubscription_ends, unsubscription_leaves}
use Rattle.ws_delivery.specs.Table.{Rows, pair_at}
use Rattle.ws_delivery.specs.Stands.{StandsFor, is_pair, shown}
use Rattle.ws_core_tables.specs.Stands.{is_number}
use Rattle.ws_core_tables.proofs.Stepped.{closed_stands, pushes}

-- the intent that is confirmed
pub confirmed_is : (e : Event) (h : List Event) (n sent : ℕ) (i : Intent) → e.what ≡ Confirmed n sent → Some i ≡ pending_of h n → confirmed_intent e.what h ≡ Some i
confirmed_is e h n sent i kind k = ap (λ w. confirmed_intent w h) kind ∙ by (is_pending_number h n) (k ∙ find_pending h n)
  where
    by : (b : Bool) → Some i ≡ cond b (find (λ i. i.n == n) (asked h)) None → find (λ i. i.n == n) (asked h) ≡ Some i
    by true k = sym k
    by false k = absurd (cc)

-- ---- the lease of a topic and a callback

-- whether a live lease is of these, by the number that is found of them
pub pair_by_number :
    (h : List Event) (t : ℕ) (i : Intent) (n : ℕ) (x : Lease) → Legal h → last_time h ≤ t → find (is_numbered n) (live h t) ≡ Some x
    → same_pair i x.intent ≡ is_number (option_map (λ l. l.intent.n) (live_lease_of h t i.topic i.callback)) n
pair_by_number h t i n x l k found = by (live_lease_of h t i.topic i.callback) refl
  where
    passes : (y : Lease) → live_lease_of h t i.topic i.callback ≡ Some y → same_pair i y.intent ≡ true
    passes y m = sym (pair_turned i y) ∙ (all_find (λ _. Unit {0}) (is_lease_of i.topic i.callback) y (live h t) (all_from (λ _. Unit {0}) (λ _. tt) (live h t)) m).1

    one : (y : Lease) → live_lease_of h t i.topic i.callback ≡ Some y → (b : Bool) → (y.intent.n == n) ≡ b → same_pair i x.intent ≡ b
    one y m true e =
        let same : Some x ≡ Some y = sym found ∙ ap (λ z. find (is_numbered z) (live h t)) (sym (eqb-true y.intent.n n e)) ∙ found_by_number (is_lease_of i.topic i.callback) y (live h t) (live_apart h l t) m in
        let is : x ≡ y = cc in
        ap (λ (z : Lease). same_pair i z.intent) is ∙ passes y m
    one y m false e = not_same_pair y x y.intent.n n (live h t) (one_live h t l k) (found_by_number (is_lease_of i.topic i.callback) y (live h t) (live_apart h l t) m) found e i (passes y m)

    by : (o : Option Lease) → live_lease_of h t i.topic i.callback ≡ o → same_pair i x.intent ≡ is_number (option_map (λ l. l.intent.n) o) n
    by None m = sym (pair_turned i x) ∙ false_from_ne_true _ (none_passes (is_lease_of i.topic i.callback) n x (live h t) m found)
    by (Some y) m = one y m (y.intent.n == n) refl

-- the lease of an owed pair is live
pub push_lives : (h : List Event) (t v n : ℕ) (x : OwedPush) → Legal h → find (is_pair v n) (pushes h t) ≡ Some x → find (is_numbered x.lease.intent.n) (live h t) ≡ Some x.lease
push_lives h t v n x l k =
    (all_find (λ y. find (is_numbered y.lease.intent.n) (live h t) ≡ Some y.lease) (is_pair v n) x (pushes h t)
    (all_map (λ y. find (is_numbered y.lease.intent.n) (live h t) ≡ Some y.lease) (owed_push h) (owed h t)
    (all_weaker (λ p. IsToldPair h p × (is_owed (fate h p t) ≡ true)) (λ p. find (is_numbered p.lease.intent.n) (live h t) ≡ Some p.lease) (λ p q. owed_lives h t p q.0 q.1) (owed h t)
    (all_filter_with (IsToldPair h) (λ p. is_owed (fate h p t)) (pairs h) (pairs_told h l)))) k).0

-- ---- a confirmed unsubscription

-- what it does to the leases
pub unsubscription_does :
    (h : List Event) (e : Event) (n sent : ℕ) (i : Intent) → Legal (e ∷ h) → e.what ≡ Confirmed n sent → confirmed_intent e.what h ≡ Some i → is_on i.mode ≡ false
    → MatchOption (option_map (λ l. l.intent.n) (live_lease_of h e.t i.topic i.callback)) (LeavesLeases e h) (λ m. EndsLease e h m Unsubscribed)
unsubscription_does h e n sent i l kind is off = by (live_lease_of h e.t i.topic i.callback) refl
  where
    by : (o : Option Lease) → live_lease_of h e.t i.topic i.callback ≡ o → MatchOption (option_map (λ l. l.intent.n) o) (LeavesLeases e h) (λ m. EndsLease e h m Unsubscribed)
    by None m = unsubscription_leaves h e n sent i kind is off m
    by (Some y) m = unsubscription_ends h e n sent i y l kind is off m

-- which owed pairs it leaves
pub stays_confirmed : (e : Event) (h : List Event) (n sent : ℕ) (i : Intent) (x : OwedPush) → e.what ≡ Confirmed n sent → confirmed_intent e.what h ≡ Some i → stays_owed e.what (confirmed_intent e.what h) x ≡ not (same_pair i x.lease.intent)
stays_confirmed e h n sent i x kind is = ap (λ o. stays_owed e.what o x) is ∙ ap (λ w. stays_owed w (Some i) x) kind ∙ by (same_pair i x.lease.intent)
  where
    by : (b : Bool) → is_none (cond b (Some (end_by_mode i.mode)) None) ≡ not b
    by true = refl
    by false = refl

pub unsubscription_stands :
    (e : Event) (h : List Event) (since : ℕ) (old new : Rows) (n sent : ℕ) (i : Intent) → e.what ≡ Confirmed n sent → confirmed_intent e.what h ≡ Some i → is_on i.mode ≡ false
    → Legal (e ∷ h) → StandsFor h since old → since ≤ e.t
    → ((w m : ℕ) → pair_at w m new ≡ cond (is_number (option_map (λ l. l.intent.n) (live_lease_of h e.t i.topic i.callback)) m) None (pair_at w m old)) → StandsFor (e ∷ h) e.t new
unsubscription_stands e h since old new n sent i kind is off l s k look =
    closed_stands e h since old new (λ w m. is_number (option_map (λ l. l.intent.n) (live_lease_of h e.t i.topic i.callback)) m) l s k
    (ap (λ o. new_pushes e.t e.what o (view h e.t)) is ∙ ap (λ w. new_pushes e.t w (Some i) (view h e.t)) kind ∙ none)
    look
    (λ w m x f a. (
      stays_confirmed e h n sent i x kind is
          ∙ ap not (pair_by_number h e.t i x.lease.intent.n x.lease l.0 (in_time h e l.1) (push_lives h e.t w m x l.0 f)
          ∙ ap (is_number (option_map (λ l. l.intent.n) (live_lease_of h e.t i.topic i.callback))) a.lease),
      ap (λ z. shown (after_miss e.t z x)) kind,
    ))
  where
    made : Lease
    made = record { intent = i; sent = sent }

    none : new_pushes e.t (Confirmed n sent) (Some i) (view h e.t) ≡ []
    none = ap (λ b. owed_afresh e.t (view h e.t).owed (cond b (made ∷ []) [])) off

-- ---- by the tables

-- what a look-up that gives something gives
pub record IsThere {X : Type 0} (P : X → Type 0) (o : Option X) : Type 0 where
  pub it : X
  pub is : Some it ≡ o
  pub has : P it

pub there : {X : Type 0} (P : X → Type 0) (o : Option X) → IsSomeAnd o P → IsThere P o
there P None k = absurd k
there P (Some x) k = record { it = x; is = refl; has = k }

-- the lease that is found is live in the table
pub found_lives :
    (h : List Event) (since t : ℕ) (i : Intent) (rows : LeaseRows) → Legal h → LeasesStand h since rows → since ≤ t
    → IfSome (option_map (λ l. l.intent.n) (live_lease_of h t i.topic i.callback)) (λ m. is_some (live_at m t rows) ≡ true)
found_lives h since t i rows l s k = by (live_lease_of h t i.topic i.callback) refl
  where
    by : (o : Option Lease) → live_lease_of h t i.topic i.callback ≡ o → IfSome (option_map (λ l. l.intent.n) o) (λ m. is_some (live_at m t rows) ≡ true)
    by None m = tt
    by (Some y) m = ap is_some (s.shows t y.intent.n k ∙ found_by_number (is_lease_of i.topic i.callback) y (live h t) (live_apart h l t) m)
