-- From one moment to all later ones, and over one event.
use Rattle.std.proofs.Common.{◌≡◌, ℕ, suc, ◌+◌, ◌-◌, ◌≤◌, Bool, true, false, not, cond, ◌&&◌, List, [], ◌∷◌, refl, ap, sym, ◌∙◌, subst, length, arith}
use Rattle.std.specs.Prelude.{nat_lt, nat_le, min, ◌==◌, Option, Some, None, map, filter, find}
use Rattle.std.specs.List.{list_any}
use Rattle.std.specs.Option.{option_map}
use Rattle.std.proofs.lemmas.Bool.{and_parts, eqb-true}
use Rattle.std.proofs.lemmas.List.{length-map, length-append}
use Rattle.ws_model.specs.declared.event.Event.{Event}
use Rattle.ws_model.specs.declared.event.Intent.{Intent}
use Rattle.ws_model.specs.declared.event.What.{What}
use Rattle.ws_model.specs.declared.event.What.TheVariants.{Asked, Confirmed, Declined, Unheard, Barred, Noticed, Pinged, Fetched, Same, Unfetched, Pushed, Tally, Revoked}
use Rattle.ws_model.specs.declared.event.How.TheVariants.{Done, Gone, Missed}
use Rattle.ws_model.specs.declared.event.Mode.{Mode}
use Rattle.ws_model.specs.declared.event.Mode.TheVariants.{Off, On}
use Rattle.ws_model.specs.declared.lease.Lease.{Lease}
use Rattle.ws_model.specs.declared.fate.Cause.{Cause}
use Rattle.ws_model.specs.declared.fate.Cause.TheVariants.{Expired, Unsubscribed, Replaced, Gone as LeaseGone, Spent, Revoked as LeaseRevoked}
use Rattle.ws_model.specs.declared.fate.Fate.{Fate}
use Rattle.ws_model.specs.declared.fate.Fate.TheVariants.{Owed, Answered as IsAnswered, Ended as HasEnded}
use Rattle.ws_model.specs.Account.{account, is_answered, is_ended, most, tallies_of}
use Rattle.ws_model.specs.Fate.{Pair, delay, fate, fate_by, is_done, is_owed, is_push}
use Rattle.ws_model.specs.Intents.{same_pair}
use Rattle.ws_model.specs.Leases.{confirmed_intent, end_by, end_by_mode, expiry}
use Rattle.ws_model.specs.Legal.{Legal}
use Rattle.ws_model.specs.Pairs.{owed, pairs}
use Rattle.ws_model.specs.Verdict.{fate_of, pair_of}
use Rattle.ws_model.specs.View.{OwedPush, owed_push, view}
use Rattle.ws_laws.specs.Steps.{after_miss, expiring, is_missed, more, new_pushes, stays_owed, turn, turned}
use Rattle.ws_laws.proofs.Accounts.{fate_expired, fate_kept}
use Rattle.ws_laws.proofs.Advance.{owed_later, owed_later_at}
use Rattle.ws_laws.proofs.Ended.{IsToldPair}
use Rattle.ws_laws.proofs.Known.{IsKnown}
use Rattle.ws_laws.proofs.ListLaws.{all_filter_with, all_find, all_weaker, filter-map, filter_same, find-map}
use Rattle.ws_laws.proofs.Paired.{pairs_only}
use Rattle.ws_laws.proofs.Step.{owed_step}
use Rattle.ws_fate.specs.declared.totals.Standing.{Standing}
use Rattle.ws_fate.specs.declared.totals.Standing.TheVariants.{Open, Answered, Ended}
use Rattle.ws_fate.specs.declared.totals.Totals.{Totals}
use Rattle.ws_fate.specs.Rows.{standing_at}
use Rattle.ws_fate.specs.Stands.{by_event, is_pair, is_quiet, standing_after, totals_after, with_expired}
use Rattle.ws_fate.specs.Totals.{of_account, standing}
use Rattle.ws_fate.proofs.Passing.{is_it, open_one, totals_later}
use Rattle.ws_fate.proofs.Stepping.{known_and_told, quiet_fate, quiet_shows, quiet_totals, same_pairs, shows_after, totals_are}
use Rattle.ws_core_tables.specs.Rows.{Rows as TableRows}
use Rattle.ws_core_tables.specs.Stands.{StandsFor as TablesStand}
use Rattle.ws_core_tables.proofs.Stepped.{pushes}
use Rattle.ws_ledger.specs.Rows.{Rows}
use Rattle.ws_ledger.specs.Stands.{StandsFor, kept}

-- ---- to later moments

-- what is kept of a pair stays
kept_later : (h : List Event) (t u : ℕ) (p : Pair) → t ≤ u → kept (standing (fate h p t)) ≡ kept (standing (fate h p u))
kept_later h t u p le = by (is_owed (fate h p t)) refl (is_owed (fate h p u)) refl
  where
    by : (b : Bool) → is_owed (fate h p t) ≡ b → (c : Bool) → is_owed (fate h p u) ≡ c → kept (standing (fate h p t)) ≡ kept (standing (fate h p u))
    by false k c l = ap (λ f. kept (standing f)) (sym (fate_kept h p t u le k))
    by true k true l = ap kept (open_one (fate h p t) k ∙ sym (open_one (fate h p u) l))
    by true k false l =
        let expired : nat_lt u (expiry p.lease) ≡ false = ap (λ b. b && nat_lt u (expiry p.lease)) (sym k) ∙ sym (owed_later_at h p t u le) ∙ l in
        ap kept (open_one (fate h p t) k) ∙ ap (λ f. kept (standing f)) (sym (fate_expired h p t u k expired))

shown_later : (h : List Event) (t u v n : ℕ) → t ≤ u → option_map kept (option_map standing (fate_of h v n t)) ≡ option_map kept (option_map standing (fate_of h v n u))
shown_later h t u v n le = by (pair_of h v n)
  where
    by : (o : Option Pair) → option_map kept (option_map standing (option_map (λ p. fate h p t) o)) ≡ option_map kept (option_map standing (option_map (λ p. fate h p u) o))
    by None = refl
    by (Some p) = ap (λ s. Some s) (kept_later h t u p le)

-- what passes a test, and what doesn't
pub parted : {X : Type 0} (p : X → Bool) (xs : List X) → length (filter p xs) + length (filter (λ x. not (p x)) xs) ≡ length xs
parted p [] = refl
parted p (x ∷ xs) = one (p x) (parted p xs)
  where
    one : (b : Bool) → length (filter p xs) + length (filter (λ y. not (p y)) xs) ≡ length xs
        → length (cond b (x ∷ filter p xs) (filter p xs)) + length (cond (not b) (x ∷ filter (λ y. not (p y)) xs) (filter (λ y. not (p y)) xs)) ≡ length (x ∷ xs)
    one true r = omega arith
    one false r = omega arith

number_later : (h : List Event) (t u : ℕ) → t ≤ u → length (owed h u) + expiring (view h t) u ≡ length (owed h t)
number_later h t u le =
    (λ j. length (owed_later h t u le j) + (ap length (filter-map (owed_push h) (λ w. not (nat_lt u (expiry w.lease))) (owed h t)) ∙ length-map (filter (λ p. not (nat_lt u (expiry p.lease))) (owed h t)) (owed_push h)) j)
    ∙ parted (λ p. nat_lt u (expiry p.lease)) (owed h t)

-- ---- counts

counted_twice : (c k m n : ℕ) → min (min (c + k) n + m) n ≡ min (c + (k + m)) n
counted_twice c k m n = omega arith

counted_in_turn : (c k m n : ℕ) → min (min (c + k) n + m) n ≡ min (min (c + m) n + k) n
counted_in_turn c k m n = omega arith

expired_twice : (k m : ℕ) (c : Totals) → with_expired m (with_expired k c) ≡ with_expired (k + m) c
expired_twice k m c = λ j.
    record {
      answered = c.answered;
      expired = counted_twice c.expired k m most j;
      unsubscribed = c.unsubscribed;
      replaced = c.replaced;
      gone = c.gone;
      spent = c.spent;
      revoked = c.revoked;
    }

-- ---- what stands at one moment

-- what became of pairs, at one moment
pub record PairsAt (h : List Event) (t : ℕ) (rows : Rows) : Type 0 where
  pub shows : (v n : ℕ) → standing_at v n rows.fates ≡ option_map kept (option_map standing (fate_of h v n t))
  pub enough : length (owed h t) ≤ rows.open_pairs
  pub totals : with_expired (rows.open_pairs - length (owed h t)) rows.fates.totals ≡ of_account (account h t)

-- and from it on
pub record PairsFor (h : List Event) (since : ℕ) (rows : Rows) : Type 0 where
  pub shows : (t v n : ℕ) → since ≤ t → standing_at v n rows.fates ≡ option_map kept (option_map standing (fate_of h v n t))
  pub enough : (t : ℕ) → since ≤ t → length (owed h t) ≤ rows.open_pairs
  pub totals : (t : ℕ) → since ≤ t → with_expired (rows.open_pairs - length (owed h t)) rows.fates.totals ≡ of_account (account h t)

pub record StandsAt (h : List Event) (t : ℕ) (rows : Rows) : Type 0 where
  pub tables : TablesStand h t rows.tables
  pub shows : (v n : ℕ) → standing_at v n rows.fates ≡ option_map kept (option_map standing (fate_of h v n t))
  pub enough : length (owed h t) ≤ rows.open_pairs
  pub totals : with_expired (rows.open_pairs - length (owed h t)) rows.fates.totals ≡ of_account (account h t)

no_more : (a b k number : ℕ) → a + k ≡ b → b ≤ number → a ≤ number
no_more a b k number e l = omega arith

the_rest : (a b k number : ℕ) → a + k ≡ b → b ≤ number → (number - b) + k ≡ number - a
the_rest a b k number e l = omega arith

pub pairs_from_then_on : (h : List Event) (t : ℕ) (rows : Rows) → PairsAt h t rows → PairsFor h t rows
pairs_from_then_on h t rows s =
    record {
      shows = λ u v n le. s.shows v n ∙ shown_later h t u v n le;
      enough = λ u le. no_more (length (owed h u)) (length (owed h t)) (expiring (view h t) u) rows.open_pairs (number_later h t u le) s.enough;
      totals = λ u le.
          ap (λ k. with_expired k rows.fates.totals) (sym (the_rest (length (owed h u)) (length (owed h t)) (expiring (view h t) u) rows.open_pairs (number_later h t u le) s.enough))
          ∙ sym (expired_twice (rows.open_pairs - length (owed h t)) (expiring (view h t) u) rows.fates.totals)
          ∙ ap (with_expired (expiring (view h t) u)) s.totals
          ∙ totals_later h t u le;
    }

-- stands from it on
pub from_then_on : (h : List Event) (t : ℕ) (rows : Rows) → StandsAt h t rows → StandsFor h t rows
from_then_on h t rows s =
    let pairs = pairs_from_then_on h t rows (record { shows = s.shows; enough = s.enough; totals = s.totals }) in
    record { tables = s.tables; shows = pairs.shows; enough = pairs.enough; totals = pairs.totals }

-- ---- what an event makes of an owed pair

-- no event says that a lease has expired
abbrev IsUnexpired : Option Cause → Type 0
IsUnexpired None = Unit {0}
IsUnexpired (Some Expired) = ⊥
IsUnexpired (Some c) = Unit {0}

chosen : (b : Bool) (c : Cause) → IsUnexpired (Some c) → IsUnexpired (cond b (Some c) None)
chosen true c u = u
chosen false c u = tt

ends_unexpired : (w : What) (o : Option Intent) (l : Lease) → IsUnexpired (end_by w o l)
ends_unexpired (Confirmed n sent) None l = tt
ends_unexpired (Confirmed n sent) (Some i) l = chosen (same_pair i l.intent) (end_by_mode i.mode) (by i.mode)
  where
    by : (m : Mode) → IsUnexpired (Some (end_by_mode m))
    by On = tt
    by Off = tt
ends_unexpired (Pushed v n Done) o l = tt
ends_unexpired (Pushed v n Gone) o l = chosen (n == l.intent.n) LeaseGone tt
ends_unexpired (Pushed v n (Missed code)) o l = tt
ends_unexpired (Revoked n reason) o l = chosen (n == l.intent.n) LeaseRevoked tt
ends_unexpired (Asked i) o l = tt
ends_unexpired (Declined n code) o l = tt
ends_unexpired (Unheard n) o l = tt
ends_unexpired (Barred n reason) o l = tt
ends_unexpired (Noticed n heard) o l = tt
ends_unexpired (Pinged topic) o l = tt
ends_unexpired (Fetched v) o l = tt
ends_unexpired (Same topic upto) o l = tt
ends_unexpired (Unfetched topic upto why) o l = tt
ends_unexpired (Tally c) o l = tt

kept_fate : (done : Bool) (m next : ℕ) (c : Option Cause) → IsUnexpired c → kept (standing (fate_by done m c next)) ≡ standing (fate_by done m c next)
kept_fate true m next c u = refl
kept_fate false m next None u = by (nat_le 8 m)
  where
    by : (b : Bool) → kept (standing (cond b (HasEnded Spent) (Owed m next))) ≡ standing (cond b (HasEnded Spent) (Owed m next))
    by true = refl
    by false = refl
kept_fate false m next (Some c) u = by (nat_le 8 m) c u
  where
    by : (b : Bool) (c : Cause) → IsUnexpired (Some c) → kept (standing (cond b (HasEnded Spent) (HasEnded c))) ≡ standing (cond b (HasEnded Spent) (HasEnded c))
    by true c u = refl
    by false Expired u = absurd u
    by false Unsubscribed u = refl
    by false Replaced u = refl
    by false LeaseGone u = refl
    by false Spent u = refl
    by false LeaseRevoked u = refl

kept_turn : (t : ℕ) (w : What) (o : Option Intent) (x : OwedPush) → kept (standing (turn t w o x)) ≡ standing (turn t w o x)
kept_turn t w o x = kept_fate (is_push is_done x.version.ver x.lease.intent.n w) (cond (is_missed w x) (suc x.tries) x.tries) (cond (is_missed w x) (t + delay (suc x.tries)) x.next) (end_by w o x.lease) (ends_unexpired w o x.lease)

unexpired_one : (f : Fate) → kept (standing f) ≡ standing f → is_ended Expired f ≡ false
unexpired_one IsAnswered k = refl
unexpired_one (Owed m n) k = refl
unexpired_one (HasEnded Expired) k = absurd (cc)
unexpired_one (HasEnded Unsubscribed) k = refl
unexpired_one (HasEnded Replaced) k = refl
unexpired_one (HasEnded LeaseGone) k = refl
unexpired_one (HasEnded Spent) k = refl
unexpired_one (HasEnded LeaseRevoked) k = refl

none_expires : (t : ℕ) (w : What) (o : Option Intent) (xs : List OwedPush) → length (filter (λ x. is_ended Expired (turn t w o x)) xs) ≡ 0
none_expires t w o [] = refl
none_expires t w o (x ∷ xs) = ap (λ b. length (cond b (x ∷ filter (λ x. is_ended Expired (turn t w o x)) xs) (filter (λ x. is_ended Expired (turn t w o x)) xs))) (unexpired_one (turn t w o x) (kept_turn t w o x)) ∙ none_expires t w o xs

-- an owed pair stands open
pub found_open : (h : List Event) (t v n : ℕ) (x : OwedPush) → Legal h → find (is_pair v n) (pushes h t) ≡ Some x → option_map standing (fate_of h v n t) ≡ Some Open
found_open h t v n x l k = by (find (is_it v n) (owed h t)) refl (sym (find-map (owed_push h) (is_pair v n) (owed h t)) ∙ k)
  where
    by : (o : Option Pair) → find (is_it v n) (owed h t) ≡ o → option_map (owed_push h) o ≡ Some x → option_map standing (fate_of h v n t) ≡ Some Open
    by None e m = absurd (cc)
    by (Some p) e m =
        let a = all_find (λ q. (pair_of h q.version.ver q.lease.intent.n ≡ Some q) × (is_owed (fate h q t) ≡ true)) (is_it v n) p (owed h t)
        (all_filter_with (λ q. pair_of h q.version.ver q.lease.intent.n ≡ Some q) (λ q. is_owed (fate h q t)) (pairs h) (pairs_only h l)) e in
        let q = and_parts (p.version.ver == v) (p.lease.intent.n == n) a.1 in
        let at : pair_of h v n ≡ Some p = sym (λ j. pair_of h (eqb-true p.version.ver v q.0 j) (eqb-true p.lease.intent.n n q.1 j)) ∙ a.0.0 in
        ap (λ o. option_map standing (option_map (λ q. fate h q t) o)) at ∙ ap (λ s. Some s) (open_one (fate h p t) a.0.1)

-- what is kept of a pair after an event
kept_by : (t : ℕ) (w : What) (o : Option Intent) (z : Option OwedPush) (s : Standing) → ((x : OwedPush) → z ≡ Some x → Some s ≡ Some Open) → by_event t w o z (kept s) ≡ kept (by_event t w o z s)
kept_by t w o None Open f = refl
kept_by t w o None Answered f = refl
kept_by t w o None (Ended Expired) f = refl
kept_by t w o None (Ended Unsubscribed) f = refl
kept_by t w o None (Ended Replaced) f = refl
kept_by t w o None (Ended LeaseGone) f = refl
kept_by t w o None (Ended Spent) f = refl
kept_by t w o None (Ended LeaseRevoked) f = refl
kept_by t w o (Some x) Open f = sym (kept_turn t w o x)
kept_by t w o (Some x) Answered f = absurd (other (f x refl))
  where
    other : Some Answered ≡ Some Open → ⊥
    other k = cc
kept_by t w o (Some x) (Ended c) f = absurd (other (f x refl))
  where
    other : Some (Ended c) ≡ Some Open → ⊥
    other k = cc

kept_after : (t : ℕ) (w : What) (i : Option Intent) (b : Bool) (z : Option OwedPush) (o : Option Standing) → ((x : OwedPush) → z ≡ Some x → o ≡ Some Open)
    → cond b (Some Open) (option_map (by_event t w i z) (option_map kept o)) ≡ option_map kept (cond b (Some Open) (option_map (by_event t w i z) o))
kept_after t w i true z o f = refl
kept_after t w i false z None f = refl
kept_after t w i false z (Some s) f = ap (λ s. Some s) (kept_by t w i z s f)

-- ---- over one event

-- the numbers after an event: what has expired isn't counted here
abbrev pub ended_after : Event → List Event → Totals → Totals
ended_after e h c =
    record {
      answered = more c.answered (turned is_answered e.t e.what (confirmed_intent e.what h) (view h e.t));
      expired = c.expired;
      unsubscribed = more c.unsubscribed (turned (is_ended Unsubscribed) e.t e.what (confirmed_intent e.what h) (view h e.t));
      replaced = more c.replaced (turned (is_ended Replaced) e.t e.what (confirmed_intent e.what h) (view h e.t));
      gone = more c.gone (turned (is_ended LeaseGone) e.t e.what (confirmed_intent e.what h) (view h e.t));
      spent = more c.spent (turned (is_ended Spent) e.t e.what (confirmed_intent e.what h) (view h e.t));
      revoked = more c.revoked (turned (is_ended LeaseRevoked) e.t e.what (confirmed_intent e.what h) (view h e.t));
    }

-- how many pairs an event ends, and how many it makes
abbrev pub number_ended : Event → List Event → ℕ
number_ended e h = length (filter (λ x. not (stays_owed e.what (confirmed_intent e.what h) x)) (pushes h e.t))

abbrev pub number_made : Event → List Event → ℕ
number_made e h = length (new_pushes e.t e.what (confirmed_intent e.what h) (view h e.t))

-- the rows go over an event: the tables stand after it, pairs that it makes are open, owed ones are as it turns them, and counted
pub record IsStep (e : Event) (h : List Event) (old new : Rows) : Type 0 where
  pub tables : TablesStand (e ∷ h) e.t new.tables
  pub pairs : (v n : ℕ) → standing_at v n new.fates ≡ standing_after e.t e.what (confirmed_intent e.what h) (view h e.t) v n (standing_at v n old.fates)
  pub totals : new.fates.totals ≡ ended_after e h old.fates.totals
  pub number : new.open_pairs + number_ended e h ≡ old.open_pairs + number_made e h

counted_none : (a k n : ℕ) → min (a + k) n ≡ min (min (a + k) n + 0) n
counted_none a k n = omega arith

expired_after : (e : Event) (h : List Event) (k : ℕ) (c : Totals) → with_expired k (ended_after e h c) ≡ totals_after e.t e.what (confirmed_intent e.what h) (view h e.t) (with_expired k c)
expired_after e h k c = λ j.
    record {
      answered = more c.answered (turned is_answered e.t e.what (confirmed_intent e.what h) (view h e.t));
      expired = (counted_none c.expired k most ∙ ap (more (more c.expired k)) (sym (none_expires e.t e.what (confirmed_intent e.what h) (pushes h e.t)))) j;
      unsubscribed = more c.unsubscribed (turned (is_ended Unsubscribed) e.t e.what (confirmed_intent e.what h) (view h e.t));
      replaced = more c.replaced (turned (is_ended Replaced) e.t e.what (confirmed_intent e.what h) (view h e.t));
      gone = more c.gone (turned (is_ended LeaseGone) e.t e.what (confirmed_intent e.what h) (view h e.t));
      spent = more c.spent (turned (is_ended Spent) e.t e.what (confirmed_intent e.what h) (view h e.t));
      revoked = more c.revoked (turned (is_ended LeaseRevoked) e.t e.what (confirmed_intent e.what h) (view h e.t));
    }

-- how many pairs are owed after it
owed_after_number : (e : Event) (h : List Event) → Legal (e ∷ h) → length (owed (e ∷ h) e.t) ≡ number_made e h + length (filter (stays_owed e.what (confirmed_intent e.what h)) (pushes h e.t))
owed_after_number e h l =
    sym (length-map (owed (e ∷ h) e.t) (owed_push (e ∷ h)))
    ∙ ap length (owed_step e h l.0 l.1)
    ∙ length-append (new_pushes e.t e.what (confirmed_intent e.what h) (view h e.t)) (map (after_miss e.t e.what) (filter (stays_owed e.what (confirmed_intent e.what h)) (pushes h e.t)))
    ∙ ap (λ k. number_made e h + k) (length-map (filter (stays_owed e.what (confirmed_intent e.what h)) (pushes h e.t)) (after_miss e.t e.what))

owed_before_number : (e : Event) (h : List Event) → length (filter (stays_owed e.what (confirmed_intent e.what h)) (pushes h e.t)) + number_ended e h ≡ length (owed h e.t)
owed_before_number e h = parted (stays_owed e.what (confirmed_intent e.what h)) (pushes h e.t) ∙ length-map (owed h e.t) (owed_push h)

-- a are owed after it and b before, of which c stay owed; m and n stand open
still_enough : (a b c made ended m n : ℕ) → a ≡ made + c → c + ended ≡ b → b ≤ m → n + ended ≡ m + made → a ≤ n
still_enough a b c made ended m n p q r s = omega arith

same_rest : (a b c made ended m n : ℕ) → a ≡ made + c → c + ended ≡ b → b ≤ m → n + ended ≡ m + made → n - a ≡ m - b
same_rest a b c made ended m n p q r s = omega arith

-- such rows stand for the history with the event
pub goes_on_by : (e : Event) (h : List Event) (since : ℕ) (old new : Rows) → StandsFor h since old → Legal (e ∷ h) → since ≤ e.t → tallies_of e.what ≡ [] → IsStep e h old new → StandsFor (e ∷ h) e.t new
goes_on_by e h since old new s l le none step =
    from_then_on (e ∷ h) e.t new (record {
      tables = step.tables;
      shows = λ v n.
          step.pairs v n
          ∙ ap (standing_after e.t e.what (confirmed_intent e.what h) (view h e.t) v n) (s.shows e.t v n le)
          ∙ kept_after e.t e.what (confirmed_intent e.what h) (list_any (is_pair v n) (new_pushes e.t e.what (confirmed_intent e.what h) (view h e.t))) (find (is_pair v n) (pushes h e.t)) (option_map standing (fate_of h v n e.t)) (λ x k. found_open h e.t v n x l.0 k)
          ∙ ap (option_map kept) (shows_after e h l v n);
      enough =
          still_enough (length (owed (e ∷ h) e.t)) (length (owed h e.t)) (length (filter (stays_owed e.what (confirmed_intent e.what h)) (pushes h e.t))) (number_made e h) (number_ended e h) old.open_pairs new.open_pairs
          (owed_after_number e h l) (owed_before_number e h) (s.enough e.t le) step.number;
      totals =
          (λ j. with_expired (same_rest (length (owed (e ∷ h) e.t)) (length (owed h e.t)) (length (filter (stays_owed e.what (confirmed_intent e.what h)) (pushes h e.t))) (number_made e h) (number_ended e h) old.open_pairs new.open_pairs
          (owed_after_number e h l) (owed_before_number e h) (s.enough e.t le) step.number j) (step.totals j))
          ∙ expired_after e h (old.open_pairs - length (owed h e.t)) old.fates.totals
          ∙ ap (totals_after e.t e.what (confirmed_intent e.what h) (view h e.t)) (s.totals e.t le)
          ∙ totals_are e h l none;
    })

-- ---- over an event that makes and ends no pair

quiet_owed : (e : Event) (h : List Event) → Legal (e ∷ h) → is_quiet e.what ≡ true → owed (e ∷ h) e.t ≡ owed h e.t
quiet_owed e h l quiet =
    ap (filter (λ p. is_owed (fate (e ∷ h) p e.t))) (same_pairs e h l quiet)
    ∙ filter_same (λ p. is_owed (fate (e ∷ h) p e.t)) (λ p. is_owed (fate h p e.t)) (pairs h)
    (all_weaker (λ p. IsKnown h p × IsToldPair h p) (λ p. is_owed (fate (e ∷ h) p e.t) ≡ is_owed (fate h p e.t)) (λ p known. ap is_owed (quiet_fate e h l quiet p known)) (pairs h) (known_and_told e h l))

pub pairs_quiet : (e : Event) (h : List Event) (since : ℕ) (rows : Rows) → PairsFor h since rows → Legal (e ∷ h) → since ≤ e.t → is_quiet e.what ≡ true → PairsFor (e ∷ h) e.t rows
pairs_quiet e h since rows s l le quiet =
    pairs_from_then_on (e ∷ h) e.t rows (record {
      shows = λ v n. s.shows e.t v n le ∙ ap (λ o. option_map kept (option_map standing o)) (quiet_shows e h l quiet v n);
      enough = subst (λ k. k ≤ rows.open_pairs) (ap length (sym (quiet_owed e h l quiet))) (s.enough e.t le);
      totals = ap (λ ps. with_expired (rows.open_pairs - length ps) rows.fates.totals) (quiet_owed e h l quiet) ∙ s.totals e.t le ∙ quiet_totals e h l quiet;
    })

pub goes_on_quiet : (e : Event) (h : List Event) (since : ℕ) (old : Rows) (tables : TableRows) → StandsFor h since old → Legal (e ∷ h) → since ≤ e.t → is_quiet e.what ≡ true → TablesStand (e ∷ h) e.t tables
    → StandsFor (e ∷ h) e.t (record { tables = tables; fates = old.fates; open_pairs = old.open_pairs })
goes_on_quiet e h since old tables s l le quiet stand =
    let pairs = pairs_quiet e h since old (record { shows = s.shows; enough = s.enough; totals = s.totals }) l le quiet in
    record { tables = stand; shows = pairs.shows; enough = pairs.enough; totals = pairs.totals }
