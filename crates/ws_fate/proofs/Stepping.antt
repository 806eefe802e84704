-- The table after one event.
use Rattle.std.proofs.Common.{◌≡◌, ℕ, ◌≤◌, Bool, true, false, cond, not, ◌&&◌, ◌||◌, List, [], ◌∷◌, ◌++◌, refl, ap, sym, ◌+◌, ◌∙◌, Option, Some, None, arith, length}
use Rattle.std.specs.Prelude.{find, filter, map, min, nat_le, is_none}
use Rattle.std.specs.List.{AllByRecursion, list_any}
use Rattle.std.specs.Option.{option_map}
use Rattle.std.proofs.lemmas.Bool.{false≢true, and_parts, not-true}
use Rattle.ws_model.specs.declared.event.Event.{Event}
use Rattle.ws_model.specs.declared.event.Intent.{Intent}
use Rattle.ws_model.specs.declared.event.Tally.{Tally as TallyFields}
use Rattle.ws_model.specs.declared.event.What.{What}
use Rattle.ws_model.specs.declared.lease.Lease.{Lease}
use Rattle.ws_model.specs.declared.event.What.TheVariants.{Asked, Confirmed, Declined, Unheard, Barred, Noticed, Pinged, Fetched, Same, Unfetched, Pushed, Tally, Revoked}
use Rattle.ws_model.specs.declared.fate.Fate.{Fate}
use Rattle.ws_model.specs.declared.fate.Fate.TheVariants.{Owed, Answered as IsAnswered, Ended as HasEnded}
use Rattle.ws_model.specs.declared.fate.Cause.TheVariants.{Expired, Unsubscribed, Replaced, Gone, Spent, Revoked as LeaseRevoked}
use Rattle.ws_model.specs.Account.{account, first_or_zero, is_answered, is_ended, most, tallies, tallies_of, total}
use Rattle.ws_model.specs.Fate.{Pair, fate, fate_by, is_done, is_owed, is_push, misses, next}
use Rattle.ws_model.specs.History.{has}
use Rattle.ws_model.specs.Leases.{confirmed_intent, lease_end, live}
use Rattle.ws_model.specs.Legal.{Legal}
use Rattle.ws_model.specs.Moment.{last_time}
use Rattle.ws_model.specs.Pairs.{births, owed, pairs}
use Rattle.ws_model.specs.Verdict.{fate_of, pair_of}
use Rattle.ws_model.specs.View.{OwedPush, owed_push, view}
use Rattle.ws_laws.specs.Steps.{new_push, new_pushes, turn}
use Rattle.ws_laws.proofs.Accounts.{total_after}
use Rattle.ws_laws.proofs.Advance.{is_owed_parts}
use Rattle.ws_laws.proofs.Counts.{none_is, turned_at}
use Rattle.ws_laws.proofs.Ended.{IsToldPair, both_true, one_more, pairs_told}
use Rattle.ws_laws.proofs.Known.{IsKnown, allowed, in_time, pairs_known}
use Rattle.ws_laws.proofs.ListLaws.{all_find, all_weaker, filter_same, find-map}
use Rattle.ws_laws.proofs.Paired.{found_kept, same_numbers}
use Rattle.ws_laws.proofs.Step.{IsUntried, births_in, births_untried}
use Rattle.ws_fate.specs.declared.totals.Standing.TheVariants.{Open}
use Rattle.ws_fate.specs.Totals.{of_account, standing}
use Rattle.ws_fate.specs.Stands.{StandsAfter, StandsOn, by_event, is_pair, is_quiet, standing_after, totals_after, turned_to}
use Rattle.ws_fate.proofs.Passing.{is_it, open_one}

-- ---- pairs that the event makes

any_made : (t v n : ℕ) (ps : List Pair) → list_any (is_pair v n) (map (λ p. new_push t p.version p.lease) ps) ≡ list_any (is_it v n) ps
any_made t v n [] = refl
any_made t v n (p ∷ ps) = ap (λ b. is_it v n p || b) (any_made t v n ps)

record IsFoundWith (P : Pair → Type 0) (v n : ℕ) (ps more : List Pair) : Type 0 where
  pair : Pair
  found : find (is_it v n) (ps ++ more) ≡ Some pair
  holds : P pair

made_found : (P : Pair → Type 0) (v n : ℕ) (ps more : List Pair) → AllByRecursion P ps → list_any (is_it v n) ps ≡ true → IsFoundWith P v n ps more
made_found P v n [] more a k = absurd (false≢true k)
made_found P v n (p ∷ ps) more a k = one (is_it v n p) refl k (made_found P v n ps more a.1)
  where
    one : (b : Bool) → is_it v n p ≡ b → (b || list_any (is_it v n) ps) ≡ true → (list_any (is_it v n) ps ≡ true → IsFoundWith P v n ps more) → IsFoundWith P v n (p ∷ ps) more
    one true e k f = record { pair = p; found = ap (λ b. cond b (Some p) (find (is_it v n) (ps ++ more))) e; holds = a.0 }
    one false e k f =
        let r = f k in
        record { pair = r.pair; found = ap (λ b. cond b (Some p) (find (is_it v n) (ps ++ more))) e ∙ r.found; holds = r.holds }

not_made : (v n : ℕ) (ps more : List Pair) → list_any (is_it v n) ps ≡ false → find (is_it v n) (ps ++ more) ≡ find (is_it v n) more
not_made v n [] more k = refl
not_made v n (p ∷ ps) more k = one (is_it v n p) refl k (not_made v n ps more)
  where
    one : (b : Bool) → is_it v n p ≡ b → (b || list_any (is_it v n) ps) ≡ false → (list_any (is_it v n) ps ≡ false → find (is_it v n) (ps ++ more) ≡ find (is_it v n) more) → find (is_it v n) ((p ∷ ps) ++ more) ≡ find (is_it v n) more
    one true e k f = absurd (false≢true (sym k))
    one false e k f = ap (λ b. cond b (Some p) (find (is_it v n) (ps ++ more))) e ∙ f k

-- ---- pairs that were there

ended_stays_so : (t : ℕ) (w : What) (o : Option Intent) (x : Option OwedPush) (f : Fate) → is_owed f ≡ false → by_event t w o x (standing f) ≡ standing f
ended_stays_so t w o x IsAnswered k = refl
ended_stays_so t w o x (Owed m n) k = absurd (false≢true (sym k))
ended_stays_so t w o x (HasEnded c) k = refl

module _ (e : Event) (h : List Event) (legal : Legal (e ∷ h)) where
  pub known_and_told : AllByRecursion (λ p. IsKnown h p × IsToldPair h p) (pairs h)
  known_and_told = both_true (IsKnown h) (IsToldPair h) (pairs h) (pairs_known h) (pairs_told h legal.0)

  pub stepped_at : (v n : ℕ) (p : Pair) → pair_of h v n ≡ Some p
      → by_event e.t e.what (confirmed_intent e.what h) (find (is_pair v n) (view h e.t).owed) (standing (fate h p e.t)) ≡ standing (fate (e ∷ h) p e.t)
  stepped_at v n p found = by (is_owed (fate h p e.t)) refl
    where
      known : IsKnown h p × IsToldPair h p
      known = (all_find (λ q. IsKnown h q × IsToldPair h q) (is_it v n) p (pairs h) known_and_told found).0

      in_owed : is_owed (fate h p e.t) ≡ true → find (is_pair v n) (map (owed_push h) (owed h e.t)) ≡ Some (owed_push h p)
      in_owed k = find-map (owed_push h) (is_pair v n) (owed h e.t) ∙ ap (option_map (owed_push h)) (found_kept same_numbers (is_it v n) (λ q. is_owed (fate h q e.t)) p (pairs h) found k)

      by : (b : Bool) → is_owed (fate h p e.t) ≡ b → by_event e.t e.what (confirmed_intent e.what h) (find (is_pair v n) (map (owed_push h) (owed h e.t))) (standing (fate h p e.t)) ≡ standing (fate (e ∷ h) p e.t)
      by true k =
          ap (by_event e.t e.what (confirmed_intent e.what h) (find (is_pair v n) (map (owed_push h) (owed h e.t)))) (open_one (fate h p e.t) k)
          ∙ ap (turned_to e.t e.what (confirmed_intent e.what h)) (in_owed k)
          ∙ ap standing (sym (turned_at e h p (in_time h e legal.1) known.0 k))
      by false k =
          ended_stays_so e.t e.what (confirmed_intent e.what h) (find (is_pair v n) (map (owed_push h) (owed h e.t))) (fate h p e.t) k
          ∙ ap standing (sym (one_more e h p e.t e.t legal (omega arith) (omega arith) known.1 k))

  abbrev made : List Pair
  made = births e.t e.what (confirmed_intent e.what h) (live h e.t) (owed h e.t)

  is_made : (v n : ℕ) → list_any (is_pair v n) (new_pushes e.t e.what (confirmed_intent e.what h) (view h e.t)) ≡ list_any (is_it v n) made
  is_made v n = ap (list_any (is_pair v n)) (sym (births_in e.what e.t (confirmed_intent e.what h) h)) ∙ any_made e.t v n made

  pub shows_after : (v n : ℕ) → standing_after e.t e.what (confirmed_intent e.what h) (view h e.t) v n (option_map standing (fate_of h v n e.t)) ≡ option_map standing (fate_of (e ∷ h) v n e.t)
  shows_after v n =
      ap (λ b. cond b (Some Open) (option_map (by_event e.t e.what (confirmed_intent e.what h) (find (is_pair v n) (view h e.t).owed)) (option_map standing (fate_of h v n e.t)))) (is_made v n)
      ∙ by (list_any (is_it v n) made) refl
    where
      there : find (is_it v n) (made ++ pairs h) ≡ pair_of h v n → (o : Option Pair) → pair_of h v n ≡ o
          → option_map (by_event e.t e.what (confirmed_intent e.what h) (find (is_pair v n) (view h e.t).owed)) (option_map standing (option_map (λ p. fate h p e.t) o)) ≡ option_map standing (option_map (λ p. fate (e ∷ h) p e.t) o)
      there k None q = refl
      there k (Some p) q = ap (λ s. Some s) (stepped_at v n p q)

      by : (b : Bool) → list_any (is_it v n) made ≡ b
          → cond b (Some Open) (option_map (by_event e.t e.what (confirmed_intent e.what h) (find (is_pair v n) (view h e.t).owed)) (option_map standing (fate_of h v n e.t))) ≡ option_map standing (fate_of (e ∷ h) v n e.t)
      by true k =
          let r = made_found (IsUntried e h) v n made (pairs h) (births_untried e.what e.serial e.t h legal.0 (in_time h e legal.1) (allowed h e legal.1)) k in
          ap (λ s. Some s) (sym (open_one (fate (e ∷ h) r.pair e.t) r.holds.owed)) ∙ ap (λ o. option_map standing (option_map (λ p. fate (e ∷ h) p e.t) o)) (sym r.found)
      by false k =
          let r = not_made v n made (pairs h) k in
          there r (pair_of h v n) refl ∙ ap (λ o. option_map standing (option_map (λ p. fate (e ∷ h) p e.t) o)) (sym r)

  pub totals_are : tallies_of e.what ≡ [] → totals_after e.t e.what (confirmed_intent e.what h) (view h e.t) (of_account (account h e.t)) ≡ of_account (account (e ∷ h) e.t)
  totals_are none = λ i.
      record {
        answered = sym (total_after is_answered (λ m n. refl) (λ c. c.answered) h e legal none) i;
        expired = sym (total_after (is_ended Expired) (λ m n. refl) (λ c. c.expired) h e legal none) i;
        unsubscribed = sym (total_after (is_ended Unsubscribed) (λ m n. refl) (λ c. c.unsubscribed) h e legal none) i;
        replaced = sym (total_after (is_ended Replaced) (λ m n. refl) (λ c. c.replaced) h e legal none) i;
        gone = sym (total_after (is_ended Gone) (λ m n. refl) (λ c. c.gone) h e legal none) i;
        spent = sym (total_after (is_ended Spent) (λ m n. refl) (λ c. c.spent) h e legal none) i;
        revoked = sym (total_after (is_ended LeaseRevoked) (λ m n. refl) (λ c. c.revoked) h e legal none) i;
      }

itself : (t : ℕ) → t ≤ t
itself t = omega arith

last_is : (e : Event) (h : List Event) → Legal (e ∷ h) → last_time (e ∷ h) ≤ e.t
last_is e h legal = let le : last_time h ≤ e.t = in_time h e legal.1 in omega arith

pub stands_after : StandsAfter
stands_after h e old new legal none stands follows =
    record {
      begun = last_is e h legal;
      shows = λ v n. follows.pairs v n ∙ ap (standing_after e.t e.what (confirmed_intent e.what h) (view h e.t) v n) (stands.shows v n) ∙ shows_after e h legal v n;
      totals = follows.totals ∙ ap (totals_after e.t e.what (confirmed_intent e.what h) (view h e.t)) stands.totals ∙ totals_are e h legal none;
    }

-- ---- events that make and end no pair

-- what such an event turns an owed pair into: nothing else
quiet_turn : (w : What) → is_quiet w ≡ true → (t : ℕ) (o : Option Intent) (x : OwedPush) → turn t w o x ≡ fate_by false x.tries None x.next
quiet_turn (Asked i) k t o x = refl
quiet_turn (Confirmed n sent) k t o x = absurd (false≢true k)
quiet_turn (Declined n code) k t o x = refl
quiet_turn (Unheard n) k t o x = refl
quiet_turn (Barred n reason) k t o x = refl
quiet_turn (Noticed n heard) k t o x = refl
quiet_turn (Pinged topic) k t o x = refl
quiet_turn (Fetched v) k t o x = absurd (false≢true k)
quiet_turn (Same topic upto) k t o x = refl
quiet_turn (Unfetched topic upto why) k t o x = refl
quiet_turn (Pushed v n how) k t o x = absurd (false≢true k)
quiet_turn (Tally c) k t o x = absurd (false≢true k)
quiet_turn (Revoked n reason) k t o x = absurd (false≢true k)

quiet_births : (w : What) → is_quiet w ≡ true → (t : ℕ) (o : Option Intent) (ls : List Lease) (ps : List Pair) → births t w o ls ps ≡ []
quiet_births (Asked i) k t o ls ps = refl
quiet_births (Confirmed n sent) k t o ls ps = absurd (false≢true k)
quiet_births (Declined n code) k t o ls ps = refl
quiet_births (Unheard n) k t o ls ps = refl
quiet_births (Barred n reason) k t o ls ps = refl
quiet_births (Noticed n heard) k t o ls ps = refl
quiet_births (Pinged topic) k t o ls ps = refl
quiet_births (Fetched v) k t o ls ps = absurd (false≢true k)
quiet_births (Same topic upto) k t o ls ps = refl
quiet_births (Unfetched topic upto why) k t o ls ps = refl
quiet_births (Pushed v n how) k t o ls ps = absurd (false≢true k)
quiet_births (Tally c) k t o ls ps = absurd (false≢true k)
quiet_births (Revoked n reason) k t o ls ps = absurd (false≢true k)

quiet_tallies : (w : What) → is_quiet w ≡ true → tallies_of w ≡ []
quiet_tallies (Tally c) k = absurd (false≢true k)
quiet_tallies _ k = refl

-- an owed pair, by its misses
owed_fate : (h : List Event) (p : Pair) (t : ℕ) → is_owed (fate h p t) ≡ true → fate h p t ≡ fate_by false (misses h p) None (next h p)
owed_fate h p t k =
    let parts = and_parts (not (has (is_push is_done p.version.ver p.lease.intent.n) h) && not (nat_le 8 (misses h p))) (is_none (lease_end h p.lease t)) (sym (is_owed_parts _ _ (lease_end h p.lease t) _) ∙ k) in
    let undone : has (is_push is_done p.version.ver p.lease.intent.n) h ≡ false = not-true _ (and_parts (not (has (is_push is_done p.version.ver p.lease.intent.n) h)) _ parts.0).0 in
    let alive : lease_end h p.lease t ≡ None = none_is _ parts.1 in
    λ i. fate_by (undone i) (misses h p) (alive i) (next h p)

module _ (e : Event) (h : List Event) (legal : Legal (e ∷ h)) (quiet : is_quiet e.what ≡ true) where
  pub quiet_fate : (p : Pair) → IsKnown h p × IsToldPair h p → fate (e ∷ h) p e.t ≡ fate h p e.t
  quiet_fate p known = by (is_owed (fate h p e.t)) refl
    where
      by : (b : Bool) → is_owed (fate h p e.t) ≡ b → fate (e ∷ h) p e.t ≡ fate h p e.t
      by true k = turned_at e h p (in_time h e legal.1) known.0 k ∙ quiet_turn e.what quiet e.t (confirmed_intent e.what h) (owed_push h p) ∙ sym (owed_fate h p e.t k)
      by false k = one_more e h p e.t e.t legal (itself e.t) (itself e.t) known.1 k

  pub same_pairs : pairs (e ∷ h) ≡ pairs h
  same_pairs = ap (λ ps. ps ++ pairs h) (quiet_births e.what quiet e.t (confirmed_intent e.what h) (live h e.t) (owed h e.t))

  pub quiet_shows : (v n : ℕ) → fate_of h v n e.t ≡ fate_of (e ∷ h) v n e.t
  quiet_shows v n = by (pair_of h v n) refl ∙ sym (ap (λ ps. option_map (λ p. fate (e ∷ h) p e.t) (find (is_it v n) ps)) same_pairs)
    where
      by : (o : Option Pair) → pair_of h v n ≡ o → option_map (λ p. fate h p e.t) (pair_of h v n) ≡ option_map (λ p. fate (e ∷ h) p e.t) (pair_of h v n)
      by None k = ap (option_map (λ p. fate h p e.t)) k ∙ sym (ap (option_map (λ p. fate (e ∷ h) p e.t)) k)
      by (Some p) k =
          ap (option_map (λ q. fate h q e.t)) k
          ∙ ap (λ f. Some f) (sym (quiet_fate p (all_find (λ q. IsKnown h q × IsToldPair h q) (is_it v n) p (pairs h) (known_and_told e h legal) k).0))
          ∙ sym (ap (option_map (λ q. fate (e ∷ h) q e.t)) k)

  quiet_total : (test : Fate → Bool) (field : TallyFields → ℕ) → total test field h e.t ≡ total test field (e ∷ h) e.t
  quiet_total test field = λ i. min (length (passing i) + first_or_zero (map field (sym (quiet_tallies e.what quiet) i ++ tallies h))) most
    where
      passing : filter (λ p. test (fate h p e.t)) (pairs h) ≡ filter (λ p. test (fate (e ∷ h) p e.t)) (pairs (e ∷ h))
      passing =
          filter_same (λ p. test (fate h p e.t)) (λ p. test (fate (e ∷ h) p e.t)) (pairs h)
          (all_weaker (λ p. IsKnown h p × IsToldPair h p) (λ p. test (fate h p e.t) ≡ test (fate (e ∷ h) p e.t)) (λ p known. ap test (sym (quiet_fate p known))) (pairs h) (known_and_told e h legal))
          ∙ ap (filter (λ p. test (fate (e ∷ h) p e.t))) (sym same_pairs)

  pub quiet_totals : of_account (account h e.t) ≡ of_account (account (e ∷ h) e.t)
  quiet_totals = λ i.
      record {
        answered = quiet_total is_answered (λ c. c.answered) i;
        expired = quiet_total (is_ended Expired) (λ c. c.expired) i;
        unsubscribed = quiet_total (is_ended Unsubscribed) (λ c. c.unsubscribed) i;
        replaced = quiet_total (is_ended Replaced) (λ c. c.replaced) i;
        gone = quiet_total (is_ended Gone) (λ c. c.gone) i;
        spent = quiet_total (is_ended Spent) (λ c. c.spent) i;
        revoked = quiet_total (is_ended LeaseRevoked) (λ c. c.revoked) i;
      }

pub stands_on : StandsOn
stands_on h e rows legal quiet stands =
    record {
      begun = last_is e h legal;
      shows = λ v n. stands.shows v n ∙ ap (option_map standing) (quiet_shows e h legal quiet v n);
      totals = stands.totals ∙ quiet_totals e h legal quiet;
    }
