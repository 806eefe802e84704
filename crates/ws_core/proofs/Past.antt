-- Which versions are past: by what the ledger holds, and by what a compaction keeps.
use Rattle.std.proofs.Common.{◌≡◌, ℕ, ◌≤◌, ◌<◌, Bool, true, false, not, cond, ◌&&◌, ◌||◌, List, [], ◌∷◌, refl, ap, sym, ◌∙◌, subst, length, arith, inl, inr}
use Rattle.std.specs.Prelude.{◌==◌, Some, filter, nat_lt}
use Rattle.std.specs.Ordering.{is_eq}
use Rattle.std.specs.declared.cmp.Ordering.{Ordering}
use Rattle.std.specs.declared.cmp.Ordering.TheVariants.{Less}
use Rattle.std.specs.BTreeMap.{is_at}
use Rattle.std.specs.List.{AllByRecursion, list_any}
use Rattle.std.specs.List.Sorted.{IsStrictlySortedBy}
use Rattle.std.specs.Map.{keys_of, lookup}
use Rattle.std.specs.Option.{option_map}
use Rattle.std.proofs.lemmas.Bool.{and_from, and_parts, eqb-true, false≢true, false_from_ne_true, ltb-true, not-true, or_cases, or_from, or_parts}
use Rattle.std.proofs.lemmas.Bool.Decides.{nat_tests}
use Rattle.std.proofs.lemmas.List.Elements.{recursion_from_All}
use Rattle.std.proofs.lemmas.Map.Views.{All-after_first}
use Rattle.ws_model.specs.declared.event.Event.{Event}
use Rattle.ws_model.specs.declared.event.What.{What}
use Rattle.ws_model.specs.declared.event.What.TheVariants.{Fetched}
use Rattle.ws_model.specs.Fate.{Pair, fate, is_owed}
use Rattle.ws_model.specs.History.{has}
use Rattle.ws_model.specs.Legal.{Legal, is_sound, is_sound_version, number_limit}
use Rattle.ws_model.specs.Pairs.{owed, pairs}
use Rattle.ws_model.specs.Verdict.{is_kept_version, pair_of}
use Rattle.ws_model.specs.Versions.{is_fetched}
use Rattle.ws_laws.proofs.Known.{sound}
use Rattle.ws_laws.proofs.ListLaws.{all_filter_with, any_then}
use Rattle.ws_laws.proofs.Paired.{pairs_only}
use Rattle.ws_compaction.proofs.Fetches.{any_more}
use Rattle.ws_fate.specs.declared.totals.Standing.{Standing}
use Rattle.ws_fate.specs.declared.totals.Standing.TheVariants.{Open, Answered, Ended}
use Rattle.ws_fate.specs.Rows.{Rows as FateRows, is_open, pair_order, standing_at}
use Rattle.ws_fate.specs.Totals.{standing}
use Rattle.ws_fate.proofs.Passing.{open_one}
use Rattle.ws_kept.specs.Finding.{is_latest}
use Rattle.ws_kept.proofs.Owed.{shown_any}
use Rattle.ws_ledger.specs.Rows.{Rows as LedgerRows}
use Rattle.ws_ledger.specs.Stands.{StandsFor as LedgerStands, kept}
use Rattle.ws_core.specs.Past.{IsPast}

-- ---- the count of open pairs

open_is : (s : Standing) → is_open s ≡ true → s ≡ Open
open_is Open k = refl
open_is Answered k = absurd (false≢true k)
open_is (Ended c) k = absurd (false≢true k)

sorted_rest : (k : ℕ × ℕ) (ks : List (ℕ × ℕ)) → IsStrictlySortedBy pair_order (k ∷ ks) → IsStrictlySortedBy pair_order ks
unfolding IsStrictlySortedBy
sorted_rest k ks s = s.1

at_key : (n v w : ℕ) → (w == v) ≡ true → is_at (pair_order (n, v)) (n, w) ≡ true
at_key n v w k = grind (arith, nat_tests)

key_is : (n v m w : ℕ) → is_at (pair_order (n, v)) (m, w) ≡ true → (m ≡ n) × (w ≡ v)
key_is n v m w k = (grind (arith, nat_tests), grind (arith, nat_tests))

-- the open pairs of a version, by lease and version
abbrev is_open_of : ℕ → (ℕ × ℕ) × Standing → Bool
is_open_of v e = (e.0.1 == v) && is_open e.1

-- behind all keys that are looked for nothing is found
not_behind : (q : ℕ × ℕ) (es : List ((ℕ × ℕ) × Standing)) (s : Standing) → AllByRecursion (λ k. pair_order q k ≡ Less) (keys_of es) → lookup (is_at (pair_order q)) es ≡ Some s → ⊥
not_behind q [] s a k = cc
not_behind q (e ∷ es) s a k = not_behind q es s a.1 (sym (ap (λ (o : Ordering). cond (is_eq o) (Some e.1) (lookup (is_at (pair_order q)) es)) a.0) ∙ k)

none_open : (v : ℕ) (es : List ((ℕ × ℕ) × Standing)) → IsStrictlySortedBy pair_order (keys_of es) → ((n : ℕ) → lookup (is_at (pair_order (n, v))) es ≡ Some Open → ⊥) → list_any (is_open_of v) es ≡ false
none_open v [] s closed = refl
none_open v (e ∷ es) s closed = or_from (is_open_of v e) (list_any (is_open_of v) es) (false_from_ne_true _ head) (none_open v es (sorted_rest e.0 (keys_of es) s) (λ n k. closed n (tail n (is_at (pair_order (n, v)) e.0) refl k)))
  where
    head : is_open_of v e ≡ true → ⊥
    head k =
        let p = and_parts (e.0.1 == v) (is_open e.1) k in
        closed e.0.0 (ap (λ b. cond b (Some e.1) (lookup (is_at (pair_order (e.0.0, v))) es)) (at_key e.0.0 v e.0.1 p.0) ∙ ap (λ (x : Standing). Some x) (open_is e.1 p.1))

    tail : (n : ℕ) (b : Bool) → is_at (pair_order (n, v)) e.0 ≡ b → lookup (is_at (pair_order (n, v))) es ≡ Some Open → cond b (Some e.1) (lookup (is_at (pair_order (n, v))) es) ≡ Some Open
    tail n false q k = k
    tail n true q k =
        let same = key_is n v e.0.0 e.0.1 q in
        absurd (not_behind (n, v) es Open (subst (λ (p : ℕ × ℕ). AllByRecursion (λ k. pair_order p k ≡ Less) (keys_of es)) (λ j. (same.0 j, same.1 j)) (recursion_from_All (λ q. pair_order e.0 q ≡ Less) (keys_of es) (All-after_first pair_order e.0 (keys_of es) s))) k)

none_counted : {X : Type 0} (q : X → Bool) (xs : List X) → list_any q xs ≡ false → length (filter q xs) ≡ 0
none_counted q [] k = refl
none_counted {X} q (x ∷ xs) k = let p = or_parts (q x) (list_any q xs) k in ap (λ b. length (cond b (x ∷ filter q xs) (filter q xs))) p.0 ∙ none_counted q xs p.1

some_counted : {X : Type 0} (q : X → Bool) (xs : List X) → list_any q xs ≡ true → length (filter q xs) ≡ 0 → ⊥
some_counted q [] k none = false≢true k
some_counted {X} q (x ∷ xs) k none = by (q x) k none (some_counted q xs)
  where
    by : (b : Bool) → (b || list_any q xs) ≡ true → length (cond b (x ∷ filter q xs) (filter q xs)) ≡ 0 → (list_any q xs ≡ true → length (filter q xs) ≡ 0 → ⊥) → ⊥
    by true k none f = cc
    by false k none f = f k none

closed_by : (v n : ℕ) (fates : FateRows) → length (filter (λ e. (e.0.1 == v) && is_open e.1) fates.pairs) ≡ 0 → standing_at v n fates ≡ Some Open → ⊥
closed_by v n fates none k =
    some_counted (is_open_of v) fates.pairs
    (any_more (λ e. ((e.0.0 == n) && (e.0.1 == v)) && is_open e.1) (is_open_of v)
    (λ e a. let p = and_parts ((e.0.0 == n) && (e.0.1 == v)) (is_open e.1) a in and_from (e.0.1 == v) (is_open e.1) (and_parts (e.0.0 == n) (e.0.1 == v) p.0).1 p.1)
    fates.pairs (shown_any n v is_open Open fates.pairs k refl)) none

-- ---- the test

-- how many pairs of the version stand open
abbrev counted : ℕ → FateRows → ℕ
counted v fates = length (filter (λ e. (e.0.1 == v) && is_open e.1) fates.pairs)

pub open_is_counted : (h : List Event) (v told : ℕ) (fates shown : FateRows) → shown ≡ fates → IsStrictlySortedBy pair_order (keys_of shown.pairs) → told ≡ counted v shown → 0 < told → IsPast h fates v → ⊥
open_is_counted h v told fates shown same sorted is some past =
    let none : told ≡ 0 = is ∙ ap (counted v) same ∙ none_counted (is_open_of v) fates.pairs (none_open v fates.pairs (subst (λ (f : FateRows). IsStrictlySortedBy pair_order (keys_of f.pairs)) same sorted) past.closed) in
    never told none some
  where
    never : (n : ℕ) → n ≡ 0 → 0 < n → ⊥
    never n k l = omega arith

pub is_past_by : (h : List Event) (v told : ℕ) (fates shown : FateRows) {latest : Bool} → shown ≡ fates → told ≡ counted v shown → v < number_limit → told ≤ 0 → latest ≡ is_latest h v → not latest ≡ true → IsPast h fates v
is_past_by h v told fates shown {latest} same is low none tells passed =
    record {
      low = low;
      superseded = sym tells ∙ not-true latest passed;
      closed = λ n k. closed_by v n fates (sym (is ∙ ap (counted v) same) ∙ zero_is told none) k;
    }
  where
    zero_is : (n : ℕ) → n ≤ 0 → n ≡ 0
    zero_is n k = omega arith

pub not_past_by : (h : List Event) (v : ℕ) (fates : FateRows) {latest : Bool} → latest ≡ is_latest h v → not latest ≡ false → IsPast h fates v → ⊥
not_past_by h v fates {latest} tells failed past = by latest (tells ∙ past.superseded) failed
  where
    by : (b : Bool) → b ≡ false → not b ≡ false → ⊥
    by false k l = false≢true (sym l)
    by true k l = false≢true (sym k)

-- ---- a version that a compaction would keep isn't past

-- an owed pair stands open
pub stands_open : (h : List Event) (since t : ℕ) (rows : LedgerRows) (p : Pair) → LedgerStands h since rows → since ≤ t → pair_of h p.version.ver p.lease.intent.n ≡ Some p → is_owed (fate h p t) ≡ true → standing_at p.version.ver p.lease.intent.n rows.fates ≡ Some Open
stands_open h since t rows p s le only owes =
    s.shows t p.version.ver p.lease.intent.n le
    ∙ ap (λ o. option_map kept (option_map standing (option_map (λ q. fate h q t) o))) only
    ∙ ap (λ s. Some (kept s)) (open_one (fate h p t) owes)

pub kept_not_past : (h : List Event) (since t v : ℕ) (rows : LedgerRows) → LedgerStands h since rows → Legal h → since ≤ t → is_kept_version h t v ≡ true → IsPast h rows.fates v → ⊥
kept_not_past h since t v rows s l le k past =
    elim (or_cases (is_latest h v) (list_any (λ p. p.version.ver == v) (owed h t)) k) [
      | inl a ↦ false≢true (sym past.superseded ∙ a)
      | inr a ↦ any_then (λ p. (pair_of h p.version.ver p.lease.intent.n ≡ Some p) × (is_owed (fate h p t) ≡ true)) (λ p. p.version.ver == v) ⊥
          (λ p known is.
          past.closed p.lease.intent.n (subst (λ w. standing_at w p.lease.intent.n rows.fates ≡ Some Open) (eqb-true p.version.ver v is) (stands_open h since t rows p s le known.0 known.1)))
          (owed h t) (all_filter_with (λ p. pair_of h p.version.ver p.lease.intent.n ≡ Some p) (λ p. is_owed (fate h p t)) (pairs h) (pairs_only h l)) a
    ]

-- ---- the numbers of versions

low_one : (v : ℕ) (w : What) (s : ℕ) → is_sound s w ≡ true → is_fetched v w ≡ true → v < number_limit
low_one v (Fetched w) s k is =
    subst (λ n. n < number_limit) (eqb-true w.ver v is)
    (ltb-true _ _ (and_parts (nat_lt w.ver number_limit) _ (and_parts _ _ (and_parts _ _ (and_parts _ _ (and_parts _ _ (and_parts _ _ (and_parts (is_sound_version w) (nat_lt w.upto s) k).0).0).0).0).0).0).0)
low_one v _ s k is = absurd (false≢true is)

pub low_version : (h : List Event) (v : ℕ) → Legal h → has (is_fetched v) h ≡ true → v < number_limit
low_version [] v l k = absurd (false≢true k)
low_version (e ∷ h) v l k =
    elim (or_cases (is_fetched v e.what) (has (is_fetched v) h) k) [
      | inl a ↦ low_one v e.what e.serial (sound h e l.1) a
      | inr a ↦ low_version h v l.0 a
    ]
