-- An event that makes the pairs of one list, and ends those of another.
use Rattle.std.proofs.Common.{◌≡◌, ℕ, suc, ◌+◌, ◌≤◌, Bool, true, false, not, cond, ◌&&◌, ◌||◌, List, [], ◌∷◌, refl, ap, sym, ◌∙◌, length, arith}
use Rattle.std.specs.Prelude.{nat_le, is_none, is_some, ◌==◌, Option, Some, None, map, filter, find}
use Rattle.std.specs.List.{AllByRecursion, IsDistinct, list_any}
use Rattle.std.specs.Option.{option_map}
use Rattle.std.specs.Ordering.{eq_by_cmp}
use Rattle.std.proofs.lemmas.Bool.{and_parts, eqb-true, false≢true, not-true}
use Rattle.std.proofs.lemmas.Bool.Decides.{nat_tests}
use Rattle.std.proofs.lemmas.Cmp.{eq_by_cmp_equiv}
use Rattle.std.proofs.lemmas.List.{length-map}
use Rattle.std.proofs.lemmas.Map.Made.{length-from_same_keys}
use Rattle.ws_model.specs.declared.event.Event.{Event}
use Rattle.ws_model.specs.declared.event.Intent.{Intent}
use Rattle.ws_model.specs.declared.event.What.{What}
use Rattle.ws_model.specs.declared.fate.Fate.{Fate}
use Rattle.ws_model.specs.declared.fate.Fate.TheVariants.{Owed, Answered as IsAnswered, Ended as HasEnded}
use Rattle.ws_model.specs.Account.{tallies_of}
use Rattle.ws_model.specs.Fate.{delay, fate, is_done, is_owed, is_push, is_push_of, misses}
use Rattle.ws_model.specs.History.{has}
use Rattle.ws_model.specs.Leases.{confirmed_intent, end_by, lease_end}
use Rattle.ws_model.specs.Legal.{Legal}
use Rattle.ws_model.specs.Pairs.{owed, pairs}
use Rattle.ws_model.specs.View.{OwedPush, owed_push, view}
use Rattle.ws_laws.specs.Steps.{is_missed, new_pushes, stays_owed, turn}
use Rattle.ws_laws.proofs.Advance.{is_owed_parts}
use Rattle.ws_laws.proofs.Ended.{both_true}
use Rattle.ws_laws.proofs.Follow.{some_found}
use Rattle.ws_laws.proofs.ListLaws.{all_filter_with, all_find, all_from, all_map, all_weaker, filter_same}
use Rattle.ws_laws.proofs.Paired.{AreUnlike, unlike_filter}
use Rattle.ws_delivery.specs.Table.{pair_order}
use Rattle.ws_delivery.proofs.Counting.{total_order}
use Rattle.ws_delivery.proofs.Standing.{owed_apart, same_push}
use Rattle.ws_fate.specs.declared.totals.Standing.{Standing}
use Rattle.ws_fate.specs.declared.totals.Standing.TheVariants.{Open, Answered, Ended}
use Rattle.ws_fate.specs.Rows.{standing_at}
use Rattle.ws_fate.specs.Stands.{by_event, is_pair}
use Rattle.ws_fate.specs.Totals.{standing}
use Rattle.ws_core_tables.specs.Stands.{StandsFor as TablesStand}
use Rattle.ws_core_tables.proofs.Stepped.{pushes}
use Rattle.ws_ledger.specs.Pairs.{AreApart, is_listed, with_many}
use Rattle.ws_ledger.specs.Rows.{Rows}
use Rattle.ws_ledger.specs.Stands.{StandsFor, kept}
use Rattle.ws_ledger.proofs.Counted.{IsEnd, counted_after, within}
use Rattle.ws_ledger.proofs.Going.{found_open, goes_on_by, number_ended, number_made}

-- ---- owed pairs that an event leaves owed

-- an owed pair was missed fewer than eight times
pub few_tries : (h : List Event) (t : ℕ) → AllByRecursion (λ x. nat_le 8 x.tries ≡ false) (pushes h t)
few_tries h t =
    all_map (λ x. nat_le 8 x.tries ≡ false) (owed_push h) (owed h t)
    (all_weaker (λ p. Unit {0} × (is_owed (fate h p t) ≡ true)) (λ p. nat_le 8 (misses h p) ≡ false)
    (λ p k.
    let parts = and_parts (not (has (is_push_of is_done p) h) && not (nat_le 8 (misses h p))) (is_none (lease_end h p.lease t)) (sym (is_owed_parts _ _ (lease_end h p.lease t) _) ∙ k.1) in
    not-true _ (and_parts (not (has (is_push_of is_done p) h)) (not (nat_le 8 (misses h p))) parts.0).1) (owed h t)
    (all_filter_with (λ _. Unit {0}) (λ p. is_owed (fate h p t)) (pairs h) (all_from (λ _. Unit {0}) (λ _. tt) (pairs h))))

miss_few : (b : Bool) (m : ℕ) → nat_le 8 m ≡ false → not (nat_le 8 (cond b (suc m) m)) ≡ not (b && nat_le 8 (suc m))
miss_few true m k = refl
miss_few false m k = ap not k

turn_stays : (t : ℕ) (w : What) (o : Option Intent) (x : OwedPush) → nat_le 8 x.tries ≡ false → is_owed (turn t w o x) ≡ stays_owed w o x
turn_stays t w o x k =
    is_owed_parts (is_push is_done x.version.ver x.lease.intent.n w) (cond (is_missed w x) (suc x.tries) x.tries) (end_by w o x.lease) (cond (is_missed w x) (t + delay (suc x.tries)) x.next)
    ∙ ap (λ b. not (is_push is_done x.version.ver x.lease.intent.n w) && b && is_none (end_by w o x.lease)) (miss_few (is_missed w x) x.tries k)

abbrev is_open : Standing → Bool
is_open Open = true
is_open _ = false

owed_so : (f : Fate) → is_owed f ≡ is_open (standing f)
owed_so IsAnswered = refl
owed_so (Owed m n) = refl
owed_so (HasEnded c) = refl

closed_end : (how : Standing) → IsEnd how → is_open how ≡ false
closed_end Open e = absurd e
closed_end Answered e = refl
closed_end (Ended c) e = refl

twice_not : (b : Bool) → not (not b) ≡ b
twice_not true = refl
twice_not false = refl

-- it is ended exactly where it is hit
ended_at : (t : ℕ) (w : What) (o : Option Intent) (x : OwedPush) (b : Bool) (how : Standing) → IsEnd how → nat_le 8 x.tries ≡ false → standing (turn t w o x) ≡ cond b how Open → not (stays_owed w o x) ≡ b
ended_at t w o x b how e k s = ap not (sym (turn_stays t w o x k) ∙ owed_so (turn t w o x) ∙ ap is_open s ∙ by b) ∙ twice_not b
  where
    by : (b : Bool) → is_open (cond b how Open) ≡ not b
    by true = closed_end how e
    by false = refl

-- ---- how many are of a list

abbrev same_key : ℕ × ℕ → ℕ × ℕ → Bool
same_key = eq_by_cmp pair_order

abbrev key_of : OwedPush → ℕ × ℕ
key_of x = (x.version.ver, x.lease.intent.n)

key_test : (v n w m : ℕ) → ((w == v) && (m == n)) ≡ same_key (v, n) (w, m)
key_test v n w m = grind (arith, nat_tests)

as_keys : (v n : ℕ) (ps : List (ℕ × ℕ)) → is_listed v n ps ≡ list_any (same_key (v, n)) ps
as_keys v n [] = refl
as_keys v n (p ∷ ps) = (λ j. key_test v n p.0 p.1 j || as_keys v n ps j)

other_way : (v n w m : ℕ) → ((w == v) && (m == n)) ≡ false → same_key (v, n) (w, m) ≡ false
other_way v n w m k = sym (key_test v n w m) ∙ k

distinct_list : (ps : List (ℕ × ℕ)) → AreApart ps → IsDistinct same_key ps
unfolding IsDistinct
distinct_list [] a = tt
distinct_list (p ∷ ps) a = (others ps a.0, distinct_list ps a.1)
  where
    or_parts : (a b : Bool) → (a || b) ≡ false → (a ≡ false) × (b ≡ false)
    or_parts true b k = absurd (false≢true (sym k))
    or_parts false b k = (refl, k)

    others : (qs : List (ℕ × ℕ)) → is_listed p.0 p.1 qs ≡ false → AllByRecursion (λ q. same_key p q ≡ false) qs
    others [] k = tt
    others (q ∷ qs) k = let r = or_parts ((q.0 == p.0) && (q.1 == p.1)) (is_listed p.0 p.1 qs) k in (other_way p.0 p.1 q.0 q.1 r.0, others qs r.1)

distinct_owed : (xs : List OwedPush) → AreUnlike same_push xs → IsDistinct same_key (map key_of xs)
unfolding IsDistinct
distinct_owed [] a = tt
distinct_owed (x ∷ xs) a = (all_map (λ k. same_key (key_of x) k ≡ false) key_of xs (all_weaker (λ y. same_push x y ≡ false) (λ y. same_key (key_of x) (key_of y) ≡ false) (λ y k. turned x.version.ver x.lease.intent.n y.version.ver y.lease.intent.n k) xs a.0), distinct_owed xs a.1)
  where
    turned : (v n w m : ℕ) → ((v == w) && (n == m)) ≡ false → same_key (v, n) (w, m) ≡ false
    turned v n w m k = grind (arith, nat_tests)

-- a pair is one of those that are hit
member_hit : (g : ℕ → ℕ → Bool) (v n : ℕ) (xs : List OwedPush) → list_any (same_key (v, n)) (map key_of (filter (λ x. g x.version.ver x.lease.intent.n) xs)) ≡ (g v n && list_any (is_pair v n) xs)
member_hit g v n [] = by (g v n)
  where
    by : (b : Bool) → false ≡ (b && false)
    by true = refl
    by false = refl
member_hit g v n (x ∷ xs) = one (is_pair v n x) refl (g x.version.ver x.lease.intent.n) refl (member_hit g v n xs)
  where
    others : List (ℕ × ℕ)
    others = map key_of (filter (λ y. g y.version.ver y.lease.intent.n) xs)

    at : is_pair v n x ≡ true → g x.version.ver x.lease.intent.n ≡ g v n
    at k = let q = and_parts (x.version.ver == v) (x.lease.intent.n == n) k in (λ j. g (eqb-true x.version.ver v q.0 j) (eqb-true x.lease.intent.n n q.1 j))

    and_true : (b : Bool) → (b && true) ≡ b
    and_true true = refl
    and_true false = refl

    one : (b : Bool) → is_pair v n x ≡ b → (d : Bool) → g x.version.ver x.lease.intent.n ≡ d → list_any (same_key (v, n)) others ≡ (g v n && list_any (is_pair v n) xs)
        → list_any (same_key (v, n)) (map key_of (cond d (x ∷ filter (λ y. g y.version.ver y.lease.intent.n) xs) (filter (λ y. g y.version.ver y.lease.intent.n) xs))) ≡ (g v n && (b || list_any (is_pair v n) xs))
    one true k true l r = ap (λ b. b || list_any (same_key (v, n)) others) (sym (key_test v n x.version.ver x.lease.intent.n) ∙ k) ∙ sym (ap (λ b. b && true) (sym (at k) ∙ l))
    one true k false l r = r ∙ ap (λ b. b && list_any (is_pair v n) xs) (sym (at k) ∙ l) ∙ sym (ap (λ b. b && true) (sym (at k) ∙ l))
    one false k true l r = ap (λ b. b || list_any (same_key (v, n)) others) (sym (key_test v n x.version.ver x.lease.intent.n) ∙ k) ∙ r
    one false k false l r = r

-- as many owed pairs are hit as are listed, where each listed one is owed
pub number_listed :
    (h : List Event) (t : ℕ) (ends : List (ℕ × ℕ)) → Legal h → AreApart ends → ((v n : ℕ) → is_listed v n ends ≡ true → list_any (is_pair v n) (pushes h t) ≡ true)
    → length (filter (λ x. is_listed x.version.ver x.lease.intent.n ends) (pushes h t)) ≡ length ends
number_listed h t ends l apart there =
    sym (length-map hit key_of)
    ∙ length-from_same_keys (eq_by_cmp_equiv total_order) (map key_of hit) ends
    (distinct_owed hit (unlike_filter same_push (λ x. is_listed x.version.ver x.lease.intent.n ends) (pushes h t) (owed_apart h t l)))
    (distinct_list ends apart)
    (λ q. member_hit (λ v n. is_listed v n ends) q.0 q.1 (pushes h t) ∙ by q.0 q.1 (is_listed q.0 q.1 ends) refl ∙ as_keys q.0 q.1 ends)
  where
    hit : List OwedPush
    hit = filter (λ x. is_listed x.version.ver x.lease.intent.n ends) (pushes h t)

    by : (v n : ℕ) (b : Bool) → is_listed v n ends ≡ b → (is_listed v n ends && list_any (is_pair v n) (pushes h t)) ≡ is_listed v n ends
    by v n true k = ap (λ b. b && list_any (is_pair v n) (pushes h t)) k ∙ there v n k ∙ sym k
    by v n false k = ap (λ b. b && list_any (is_pair v n) (pushes h t)) k ∙ sym k

-- ---- the rows after it

-- the tables stand after the event, the pairs of one list are made by it and are open, and those of the other are turned to one
-- standing, and counted
pub record IsEnding (e : Event) (h : List Event) (how : Standing) (ends births : List (ℕ × ℕ)) (old new : Rows) : Type 0 where
  pub tables : TablesStand (e ∷ h) e.t new.tables
  pub is_end : IsEnd how
  pub apart : AreApart ends
  pub there : (v n : ℕ) → is_listed v n ends ≡ true → list_any (is_pair v n) (pushes h e.t) ≡ true
  pub turns : AllByRecursion (λ x. standing (turn e.t e.what (confirmed_intent e.what h) x) ≡ cond (is_listed x.version.ver x.lease.intent.n ends) how Open) (pushes h e.t)
  pub made : (v n : ℕ) → list_any (is_pair v n) (new_pushes e.t e.what (confirmed_intent e.what h) (view h e.t)) ≡ is_listed v n births
  pub made_number : number_made e h ≡ length births
  pub look : (v n : ℕ) → standing_at v n new.fates ≡ cond (is_listed v n births) (Some Open) (cond (is_listed v n ends) (Some how) (standing_at v n old.fates))
  pub totals : new.fates.totals ≡ with_many (length ends) how old.fates.totals
  pub number : new.open_pairs + length ends ≡ old.open_pairs + length births

all_ended : (e : Event) (h : List Event) (how : Standing) (ends births : List (ℕ × ℕ)) (old new : Rows) → Legal h → IsEnding e h how ends births old new → number_ended e h ≡ length ends
all_ended e h how ends births old new l s =
    ap length
    (filter_same (λ x. not (stays_owed e.what (confirmed_intent e.what h) x)) (λ x. is_listed x.version.ver x.lease.intent.n ends) (pushes h e.t)
    (all_weaker (λ x. (nat_le 8 x.tries ≡ false) × (standing (turn e.t e.what (confirmed_intent e.what h) x) ≡ cond (is_listed x.version.ver x.lease.intent.n ends) how Open))
    (λ x. not (stays_owed e.what (confirmed_intent e.what h) x) ≡ is_listed x.version.ver x.lease.intent.n ends)
    (λ x k. ended_at e.t e.what (confirmed_intent e.what h) x (is_listed x.version.ver x.lease.intent.n ends) how s.is_end k.0 k.1) (pushes h e.t)
    (both_true (λ x. nat_le 8 x.tries ≡ false) (λ x. standing (turn e.t e.what (confirmed_intent e.what h) x) ≡ cond (is_listed x.version.ver x.lease.intent.n ends) how Open) (pushes h e.t) (few_tries h e.t) s.turns)))
    ∙ number_listed h e.t ends l s.apart s.there

unturned : (t : ℕ) (w : What) (i : Option Intent) (o : Option Standing) → o ≡ option_map (by_event t w i None) o
unturned t w i None = refl
unturned t w i (Some Open) = refl
unturned t w i (Some Answered) = refl
unturned t w i (Some (Ended c)) = refl

-- what becomes of a pair that was there
turned_pair :
    (e : Event) (h : List Event) (how : Standing) (ends births : List (ℕ × ℕ)) (old new : Rows) (v n : ℕ) (s : Option Standing) → IsEnding e h how ends births old new
    → ((x : OwedPush) → find (is_pair v n) (pushes h e.t) ≡ Some x → s ≡ Some Open)
    → cond (is_listed v n ends) (Some how) s ≡ option_map (by_event e.t e.what (confirmed_intent e.what h) (find (is_pair v n) (pushes h e.t))) s
turned_pair e h how ends births old new v n s i f = by (find (is_pair v n) (pushes h e.t)) refl
  where
    to : Option OwedPush → Option Standing → Option Standing
    to z = option_map (by_event e.t e.what (confirmed_intent e.what h) z)

    none : find (is_pair v n) (pushes h e.t) ≡ None → (b : Bool) → is_listed v n ends ≡ b → cond b (Some how) s ≡ s
    none k true l = absurd (false≢true (sym (ap is_some k) ∙ some_found (is_pair v n) (pushes h e.t) ∙ i.there v n l))
    none k false l = refl

    some : (b : Bool) → cond b (Some how) (Some Open) ≡ Some (cond b how Open)
    some true = refl
    some false = refl

    by : (z : Option OwedPush) → find (is_pair v n) (pushes h e.t) ≡ z → cond (is_listed v n ends) (Some how) s ≡ to (find (is_pair v n) (pushes h e.t)) s
    by None k = none k (is_listed v n ends) refl ∙ unturned e.t e.what (confirmed_intent e.what h) s ∙ ap (λ z. to z s) (sym k)
    by (Some x) k =
        let a = all_find (λ x. standing (turn e.t e.what (confirmed_intent e.what h) x) ≡ cond (is_listed x.version.ver x.lease.intent.n ends) how Open) (is_pair v n) x (pushes h e.t) i.turns k in
        let q = and_parts (x.version.ver == v) (x.lease.intent.n == n) a.1 in
        ap (cond (is_listed v n ends) (Some how)) (f x k)
        ∙ some (is_listed v n ends)
        ∙ ap (λ s. Some s) (sym (a.0 ∙ (λ j. cond (is_listed (eqb-true x.version.ver v q.0 j) (eqb-true x.lease.intent.n n q.1 j) ends) how Open)))
        ∙ ap (to (Some x)) (sym (f x k))
        ∙ ap (λ z. to z s) (sym k)

-- such rows stand for the history with the event
pub goes_on_ending :
    (e : Event) (h : List Event) (since : ℕ) (how : Standing) (ends births : List (ℕ × ℕ)) (old new : Rows) → StandsFor h since old → Legal (e ∷ h) → since ≤ e.t → tallies_of e.what ≡ []
    → IsEnding e h how ends births old new → StandsFor (e ∷ h) e.t new
goes_on_ending e h since how ends births old new s l le none i =
    goes_on_by e h since old new s l le none
    (record {
      tables = i.tables;
      pairs = λ v n.
          i.look v n
          ∙ (λ j. cond (sym (i.made v n) j) (Some Open) (turned_pair e h how ends births old new v n (standing_at v n old.fates) i
          (λ x k. s.shows e.t v n le ∙ ap (option_map kept) (found_open h e.t v n x l.0 k)) j));
      totals =
          i.totals
          ∙ ap (λ k. with_many k how old.fates.totals) (sym (number_listed h e.t ends l.0 i.apart i.there))
          ∙ sym (counted_after e h how (λ x. is_listed x.version.ver x.lease.intent.n ends) old.fates.totals i.is_end (within h since old s) i.turns);
      number = ap (λ k. new.open_pairs + k) (all_ended e h how ends births old new l.0 i) ∙ i.number ∙ ap (λ k. old.open_pairs + k) (sym i.made_number);
    })
