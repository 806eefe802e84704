-- Events that end pairs and make none: pushes that ended, ends of subscriptions, revocations.
use Rattle.std.proofs.Common.{◌≡◌, ℕ, suc, ◌+◌, ◌≤◌, Bool, true, false, cond, ◌&&◌, ◌||◌, List, [], ◌∷◌, refl, ap, sym, ◌∙◌, subst, length, arith}
use Rattle.std.specs.Prelude.{nat_lt, nat_le, ◌==◌, Option, Some, None, find}
use Rattle.std.specs.List.{AllByRecursion, list_any}
use Rattle.std.specs.Option.{option_map}
use Rattle.std.proofs.lemmas.Bool.{and_parts, eqb-true, false≢true}
use Rattle.std.proofs.lemmas.Bool.Decides.{nat_tests}
use Rattle.ws_model.specs.declared.event.Event.{Event}
use Rattle.ws_model.specs.declared.event.How.{How}
use Rattle.ws_model.specs.declared.event.How.TheVariants.{Done, Gone, Missed}
use Rattle.ws_model.specs.declared.event.Intent.{Intent}
use Rattle.ws_model.specs.declared.event.What.{What}
use Rattle.ws_model.specs.declared.event.What.TheVariants.{Pushed, Revoked}
use Rattle.ws_model.specs.declared.fate.Cause.TheVariants.{Expired, Gone as LeaseGone, Spent, Revoked as LeaseRevoked}
use Rattle.ws_model.specs.declared.fate.Fate.TheVariants.{Owed, Ended as HasEnded}
use Rattle.ws_model.specs.Account.{tallies_of}
use Rattle.ws_model.specs.Fate.{delay, fate_by}
use Rattle.ws_model.specs.Leases.{confirmed_intent}
use Rattle.ws_model.specs.Legal.{Legal, is_allowed}
use Rattle.ws_model.specs.Pairs.{owed}
use Rattle.ws_model.specs.View.{OwedPush, owed_push, view}
use Rattle.ws_laws.specs.Steps.{new_pushes, turn}
use Rattle.ws_laws.proofs.Ended.{both_true}
use Rattle.ws_laws.proofs.Follow.{any_map}
use Rattle.ws_laws.proofs.Known.{allowed}
use Rattle.ws_laws.proofs.ListLaws.{all_weaker}
use Rattle.ws_laws.proofs.Paired.{AreUnlike}
use Rattle.ws_delivery.specs.declared.open_pair.OpenPair.{OpenPair}
use Rattle.ws_delivery.specs.Stands.{StandsFor as DeliveriesStand, shown}
use Rattle.ws_delivery.specs.Table.{Rows as DeliveryRows, fate_at, pair_at, unexpired}
use Rattle.ws_delivery.proofs.Standing.{owed_apart, same_push}
use Rattle.ws_fate.specs.declared.totals.Standing.{Standing}
use Rattle.ws_fate.specs.declared.totals.Standing.TheVariants.{Open, Answered, Ended}
use Rattle.ws_fate.specs.Rows.{standing_at}
use Rattle.ws_fate.specs.Stands.{is_pair}
use Rattle.ws_fate.specs.Totals.{standing}
use Rattle.ws_core_tables.specs.Stands.{StandsFor as TablesStand, is_number}
use Rattle.ws_core_tables.proofs.Stepped.{pushes}
use Rattle.ws_ledger.specs.Pairs.{AreApart, is_listed, with_many}
use Rattle.ws_ledger.specs.Rows.{Rows}
use Rattle.ws_ledger.specs.Spent.{is_last}
use Rattle.ws_ledger.specs.Stands.{StandsFor}
use Rattle.ws_ledger.proofs.Counted.{IsEnd}
use Rattle.ws_ledger.proofs.Ending.{few_tries, goes_on_ending}
use Rattle.ws_ledger.proofs.OwedPairs.{listed_lease, still_owed, turned_cause}

-- what the rows say after an event that ended these pairs so
pub record AreClosed (how : Standing) (ends : List (ℕ × ℕ)) (old new : Rows) : Type 0 where
  pub look : (v n : ℕ) → standing_at v n new.fates ≡ cond (is_listed v n ends) (Some how) (standing_at v n old.fates)
  pub totals : new.fates.totals ≡ with_many (length ends) how old.fates.totals
  pub number : new.open_pairs + length ends ≡ old.open_pairs

no_births : (a b c : ℕ) → a + b ≡ c → a + b ≡ c + 0
no_births a b c k = omega arith

pub goes_on_closing :
    (e : Event) (h : List Event) (since : ℕ) (w : What) (i : Option Intent) (how : Standing) (ends : List (ℕ × ℕ)) (old new : Rows) → StandsFor h since old → Legal (e ∷ h) → since ≤ e.t
    → e.what ≡ w → confirmed_intent e.what h ≡ i → tallies_of w ≡ [] → new_pushes e.t w i (view h e.t) ≡ []
    → IsEnd how → AreApart ends → ((v n : ℕ) → is_listed v n ends ≡ true → list_any (is_pair v n) (pushes h e.t) ≡ true)
    → AllByRecursion (λ x. standing (turn e.t w i x) ≡ cond (is_listed x.version.ver x.lease.intent.n ends) how Open) (pushes h e.t)
    → TablesStand (e ∷ h) e.t new.tables → AreClosed how ends old new → StandsFor (e ∷ h) e.t new
goes_on_closing e h since w i how ends old new s l le kind is tally none end apart there turns tables closed =
    goes_on_ending e h since how ends [] old new s l le (ap tallies_of kind ∙ tally)
    (record {
      tables = tables;
      is_end = end;
      apart = apart;
      there = there;
      turns =
          all_weaker (λ x. standing (turn e.t w i x) ≡ cond (is_listed x.version.ver x.lease.intent.n ends) how Open) (λ x. standing (turn e.t e.what (confirmed_intent e.what h) x) ≡ cond (is_listed x.version.ver x.lease.intent.n ends) how Open)
          (λ x k. (λ j. standing (turn e.t (kind j) (is j) x)) ∙ k) (pushes h e.t) turns;
      made = λ v n. ap (list_any (is_pair v n)) ((λ j. new_pushes e.t (kind j) (is j) (view h e.t)) ∙ none);
      made_number = ap length ((λ j. new_pushes e.t (kind j) (is j) (view h e.t)) ∙ none);
      look = closed.look;
      totals = closed.totals;
      number = no_births new.open_pairs (length ends) old.open_pairs closed.number;
    })

-- ---- a push

pub pushed_there : (e : Event) (h : List Event) (v n : ℕ) (how : How) → Legal (e ∷ h) → e.what ≡ Pushed v n how → list_any (is_pair v n) (pushes h e.t) ≡ true
pushed_there e h v n how l kind = any_map (is_pair v n) (owed_push h) (owed h e.t) ∙ subst (λ w. is_allowed w e.t h ≡ true) kind (allowed h e l.1)

or_false : (b : Bool) → (b || false) ≡ b
or_false true = refl
or_false false = refl

pub one_there : (h : List Event) (t v n : ℕ) → list_any (is_pair v n) (pushes h t) ≡ true → (w m : ℕ) → is_listed w m ((v, n) ∷ []) ≡ true → list_any (is_pair w m) (pushes h t) ≡ true
one_there h t v n k w m q =
    let r = and_parts (v == w) (n == m) (sym (or_false ((v == w) && (n == m))) ∙ q) in
    (λ j. list_any (is_pair (sym (eqb-true v w r.0) j) (sym (eqb-true n m r.1) j)) (pushes h t)) ∙ k

done_turn : (t v n : ℕ) (x : OwedPush) → nat_le 8 x.tries ≡ false → standing (turn t (Pushed v n Done) None x) ≡ cond (is_listed x.version.ver x.lease.intent.n ((v, n) ∷ [])) Answered Open
done_turn t v n x k = by (v == x.version.ver) (n == x.lease.intent.n)
  where
    by : (a b : Bool) → standing (fate_by (a && b && true) (cond (a && b && false) (suc x.tries) x.tries) None (cond (a && b && false) (t + delay (suc x.tries)) x.next)) ≡ cond ((a && b) || false) Answered Open
    by true true = refl
    by true false = still_owed x.tries x.next k
    by false b = still_owed x.tries x.next k

pub done_goes :
    (e : Event) (h : List Event) (since v n : ℕ) (old new : Rows) → StandsFor h since old → Legal (e ∷ h) → since ≤ e.t → e.what ≡ Pushed v n Done
    → TablesStand (e ∷ h) e.t new.tables → AreClosed Answered ((v, n) ∷ []) old new → StandsFor (e ∷ h) e.t new
done_goes e h since v n old new s l le kind tables closed =
    goes_on_closing e h since (Pushed v n Done) None Answered ((v, n) ∷ []) old new s l le kind (ap (λ w. confirmed_intent w h) kind) refl refl tt (refl, tt)
    (one_there h e.t v n (pushed_there e h v n Done l kind))
    (all_weaker (λ x. nat_le 8 x.tries ≡ false) (λ x. standing (turn e.t (Pushed v n Done) None x) ≡ cond (is_listed x.version.ver x.lease.intent.n ((v, n) ∷ [])) Answered Open) (done_turn e.t v n) (pushes h e.t) (few_tries h e.t))
    tables closed

-- ---- a miss

-- each owed pair is the one of its numbers
only_found : (xs : List OwedPush) → AreUnlike same_push xs → AllByRecursion (λ x. find (is_pair x.version.ver x.lease.intent.n) xs ≡ Some x) xs
only_found [] a = tt
only_found (x ∷ xs) a = (
  ap (λ b. cond b (Some x) (find (is_pair x.version.ver x.lease.intent.n) xs)) (itself x.version.ver x.lease.intent.n),
  all_weaker (λ y. (same_push x y ≡ false) × (find (is_pair y.version.ver y.lease.intent.n) xs ≡ Some y)) (λ y. find (is_pair y.version.ver y.lease.intent.n) (x ∷ xs) ≡ Some y)
      (λ y k. ap (λ b. cond b (Some x) (find (is_pair y.version.ver y.lease.intent.n) xs)) k.0 ∙ k.1) xs
      (both_true (λ y. same_push x y ≡ false) (λ y. find (is_pair y.version.ver y.lease.intent.n) xs ≡ Some y) xs a.0 (only_found xs a.1)),
)
  where
    itself : (v n : ℕ) → ((v == v) && (n == n)) ≡ true
    itself v n = grind (arith, nat_tests)

last_of : (t : ℕ) (o : Option OpenPair) (p : OpenPair) → unexpired t o ≡ Some p → is_last (option_map (fate_at t) o) ≡ nat_le 7 p.tries
last_of t None p k = absurd (cc)
last_of t (Some q) p k = by (nat_lt t q.exp) refl k
  where
    by : (b : Bool) → nat_lt t q.exp ≡ b → cond b (Some q) None ≡ Some p → is_last (Some (fate_at t q)) ≡ nat_le 7 p.tries
    by true m k = let e : q ≡ p = cc in ap (λ b. is_last (Some (cond b (Owed q.tries q.next) (HasEnded Expired)))) m ∙ ap (λ (z : OpenPair). nat_le 7 z.tries) e
    by false m k = absurd (cc)

-- the table says of a missed pair whether its next miss is its last one
pub last_is :
    (h : List Event) (since t v n : ℕ) (rows : DeliveryRows) → Legal h → DeliveriesStand h since rows → since ≤ t
    → AllByRecursion (λ x. is_pair v n x ≡ true → nat_le 7 x.tries ≡ is_last (option_map (fate_at t) (pair_at v n rows))) (pushes h t)
last_is h since t v n rows l s le =
    all_weaker (λ x. find (is_pair x.version.ver x.lease.intent.n) (pushes h t) ≡ Some x) (λ x. is_pair v n x ≡ true → nat_le 7 x.tries ≡ is_last (option_map (fate_at t) (pair_at v n rows)))
    (λ x k m.
    let q = and_parts (x.version.ver == v) (x.lease.intent.n == n) m in
    let found : find (is_pair v n) (pushes h t) ≡ Some x = (λ j. find (is_pair (sym (eqb-true x.version.ver v q.0) j) (sym (eqb-true x.lease.intent.n n q.1) j)) (pushes h t)) ∙ k in
    sym (last_of t (pair_at v n rows) (shown x) (s.shows t v n le ∙ ap (option_map shown) found))) (pushes h t) (only_found (pushes h t) (owed_apart h t l))

abbrev pub missed_ends : Bool → ℕ → ℕ → List (ℕ × ℕ)
missed_ends last v n = cond last ((v, n) ∷ []) []

missed_turn : (t v n code : ℕ) (last : Bool) (x : OwedPush) → nat_le 8 x.tries ≡ false → (is_pair v n x ≡ true → nat_le 7 x.tries ≡ last)
    → standing (turn t (Pushed v n (Missed code)) None x) ≡ cond (is_listed x.version.ver x.lease.intent.n (missed_ends last v n)) (Ended Spent) Open
missed_turn t v n code last x k f = by (v == x.version.ver) refl (n == x.lease.intent.n) refl last f
  where
    eighth : (m : ℕ) → nat_le 8 (suc m) ≡ nat_le 7 m
    eighth m = grind (arith, nat_tests)

    turned : (a b c d : ℕ) → (a == b) ≡ true → (c == d) ≡ true → ((b == a) && (d == c)) ≡ true
    turned a b c d p q = grind (arith, nat_tests)

    at : Bool → Bool → Standing
    at a b = standing (fate_by (a && b && false) (cond (a && b && true) (suc x.tries) x.tries) None (cond (a && b && true) (t + delay (suc x.tries)) x.next))

    none : (last : Bool) → ((v == x.version.ver) && (n == x.lease.intent.n)) ≡ false → Open ≡ cond (is_listed x.version.ver x.lease.intent.n (missed_ends last v n)) (Ended Spent) Open
    none true p = ap (λ b. cond (b || false) (Ended Spent) Open) (sym p)
    none false p = refl

    hit : (last : Bool) → nat_le 7 x.tries ≡ last → ((v == x.version.ver) && (n == x.lease.intent.n)) ≡ true → standing (cond (nat_le 8 (suc x.tries)) (HasEnded Spent) (Owed (suc x.tries) (t + delay (suc x.tries)))) ≡ cond (is_listed x.version.ver x.lease.intent.n (missed_ends last v n)) (Ended Spent) Open
    hit true p q = ap (λ b. standing (cond b (HasEnded Spent) (Owed (suc x.tries) (t + delay (suc x.tries))))) (eighth x.tries ∙ p) ∙ ap (λ b. cond (b || false) (Ended Spent) Open) (sym q)
    hit false p q = ap (λ b. standing (cond b (HasEnded Spent) (Owed (suc x.tries) (t + delay (suc x.tries))))) (eighth x.tries ∙ p)

    by : (a : Bool) → (v == x.version.ver) ≡ a → (b : Bool) → (n == x.lease.intent.n) ≡ b → (last : Bool) → (is_pair v n x ≡ true → nat_le 7 x.tries ≡ last) → at (v == x.version.ver) (n == x.lease.intent.n) ≡ cond (is_listed x.version.ver x.lease.intent.n (missed_ends last v n)) (Ended Spent) Open
    by true p true q last f = (λ j. at (p j) (q j)) ∙ hit last (f (turned v x.version.ver n x.lease.intent.n p q)) (λ j. p j && q j)
    by true p false q last f = (λ j. at (p j) (q j)) ∙ still_owed x.tries x.next k ∙ none last (λ j. p j && q j)
    by false p b q last f = (λ j. at (p j) (q j)) ∙ still_owed x.tries x.next k ∙ none last (λ j. p j && q j)

missed_apart : (last : Bool) (v n : ℕ) → AreApart (missed_ends last v n)
missed_apart true v n = (refl, tt)
missed_apart false v n = tt

missed_there : (h : List Event) (t v n : ℕ) (last : Bool) → list_any (is_pair v n) (pushes h t) ≡ true → (w m : ℕ) → is_listed w m (missed_ends last v n) ≡ true → list_any (is_pair w m) (pushes h t) ≡ true
missed_there h t v n true k w m q = one_there h t v n k w m q
missed_there h t v n false k w m q = absurd (false≢true q)

pub missed_goes :
    (e : Event) (h : List Event) (since v n code : ℕ) (last : Bool) (old new : Rows) → StandsFor h since old → Legal (e ∷ h) → since ≤ e.t → e.what ≡ Pushed v n (Missed code)
    → last ≡ is_last (option_map (fate_at e.t) (pair_at v n old.tables.deliveries))
    → TablesStand (e ∷ h) e.t new.tables → AreClosed (Ended Spent) (missed_ends last v n) old new → StandsFor (e ∷ h) e.t new
missed_goes e h since v n code last old new s l le kind is tables closed =
    goes_on_closing e h since (Pushed v n (Missed code)) None (Ended Spent) (missed_ends last v n) old new s l le kind (ap (λ w. confirmed_intent w h) kind) refl refl tt (missed_apart last v n)
    (missed_there h e.t v n last (pushed_there e h v n (Missed code) l kind))
    (all_weaker (λ x. (nat_le 8 x.tries ≡ false) × (is_pair v n x ≡ true → nat_le 7 x.tries ≡ is_last (option_map (fate_at e.t) (pair_at v n old.tables.deliveries)))) (λ x. standing (turn e.t (Pushed v n (Missed code)) None x) ≡ cond (is_listed x.version.ver x.lease.intent.n (missed_ends last v n)) (Ended Spent) Open)
    (λ x k. missed_turn e.t v n code last x k.0 (λ m. k.1 m ∙ sym is)) (pushes h e.t)
    (both_true (λ x. nat_le 8 x.tries ≡ false) (λ x. is_pair v n x ≡ true → nat_le 7 x.tries ≡ is_last (option_map (fate_at e.t) (pair_at v n old.tables.deliveries))) (pushes h e.t) (few_tries h e.t) (last_is h since e.t v n old.tables.deliveries l.0 s.tables.deliveries le)))
    tables closed

-- ---- the end of a lease

never : (a b : Bool) → (a && b && false) ≡ false
never true true = refl
never true false = refl
never false b = refl

pub listed_there : (h : List Event) (t : ℕ) (o : Option ℕ) (ends : List (ℕ × ℕ)) → ((v m : ℕ) → is_listed v m ends ≡ (is_number o m && list_any (is_pair v m) (pushes h t))) → (v m : ℕ) → is_listed v m ends ≡ true → list_any (is_pair v m) (pushes h t) ≡ true
listed_there h t o ends listed v m k = (and_parts (is_number o m) (list_any (is_pair v m) (pushes h t)) (sym (listed v m) ∙ k)).1

pub gone_goes :
    (e : Event) (h : List Event) (since v n : ℕ) (ends : List (ℕ × ℕ)) (old new : Rows) → StandsFor h since old → Legal (e ∷ h) → since ≤ e.t → e.what ≡ Pushed v n Gone
    → AreApart ends → ((w m : ℕ) → is_listed w m ends ≡ (is_number (Some n) m && list_any (is_pair w m) (pushes h e.t)))
    → TablesStand (e ∷ h) e.t new.tables → AreClosed (Ended LeaseGone) ends old new → StandsFor (e ∷ h) e.t new
gone_goes e h since v n ends old new s l le kind apart listed tables closed =
    goes_on_closing e h since (Pushed v n Gone) None (Ended LeaseGone) ends old new s l le kind (ap (λ w. confirmed_intent w h) kind) refl refl tt apart (listed_there h e.t (Some n) ends listed)
    (all_weaker (λ x. (nat_le 8 x.tries ≡ false) × (is_listed x.version.ver x.lease.intent.n ends ≡ is_number (Some n) x.lease.intent.n)) (λ x. standing (turn e.t (Pushed v n Gone) None x) ≡ cond (is_listed x.version.ver x.lease.intent.n ends) (Ended LeaseGone) Open)
    (λ x k. turned_cause e.t (Pushed v n Gone) None x LeaseGone (n == x.lease.intent.n) (never (v == x.version.ver) (n == x.lease.intent.n)) (never (v == x.version.ver) (n == x.lease.intent.n)) refl k.0 ∙ ap (λ b. cond b (Ended LeaseGone) Open) (sym k.1)) (pushes h e.t)
    (both_true (λ x. nat_le 8 x.tries ≡ false) (λ x. is_listed x.version.ver x.lease.intent.n ends ≡ is_number (Some n) x.lease.intent.n) (pushes h e.t) (few_tries h e.t) (listed_lease h e.t (Some n) ends listed)))
    tables closed

pub revoked_goes :
    (e : Event) (h : List Event) (since n : ℕ) (reason : List ℕ) (ends : List (ℕ × ℕ)) (old new : Rows) → StandsFor h since old → Legal (e ∷ h) → since ≤ e.t → e.what ≡ Revoked n reason
    → AreApart ends → ((w m : ℕ) → is_listed w m ends ≡ (is_number (Some n) m && list_any (is_pair w m) (pushes h e.t)))
    → TablesStand (e ∷ h) e.t new.tables → AreClosed (Ended LeaseRevoked) ends old new → StandsFor (e ∷ h) e.t new
revoked_goes e h since n reason ends old new s l le kind apart listed tables closed =
    goes_on_closing e h since (Revoked n reason) None (Ended LeaseRevoked) ends old new s l le kind (ap (λ w. confirmed_intent w h) kind) refl refl tt apart (listed_there h e.t (Some n) ends listed)
    (all_weaker (λ x. (nat_le 8 x.tries ≡ false) × (is_listed x.version.ver x.lease.intent.n ends ≡ is_number (Some n) x.lease.intent.n)) (λ x. standing (turn e.t (Revoked n reason) None x) ≡ cond (is_listed x.version.ver x.lease.intent.n ends) (Ended LeaseRevoked) Open)
    (λ x k. turned_cause e.t (Revoked n reason) None x LeaseRevoked (n == x.lease.intent.n) refl refl refl k.0 ∙ ap (λ b. cond b (Ended LeaseRevoked) Open) (sym k.1)) (pushes h e.t)
    (both_true (λ x. nat_le 8 x.tries ≡ false) (λ x. is_listed x.version.ver x.lease.intent.n ends ≡ is_number (Some n) x.lease.intent.n) (pushes h e.t) (few_tries h e.t) (listed_lease h e.t (Some n) ends listed)))
    tables closed
