-- The rows and their indexes together, after a change.
use Rattle.std.proofs.Common.{◌≡◌, ℕ, ◌+◌, ◌<◌, Bool, true, false, cond, ◌&&◌, ◌||◌, not, List, refl, ap, sym, ◌∙◌, subst, arith}
use Rattle.std.specs.Prelude.{Option, Some, None, IfSome, IsSome, is_some, is_none, option_map, nat_lt, ◌==◌, bytes_eq}
use Rattle.std.specs.Option.{unwrap_or}
use Rattle.std.specs.List.{sum_by}
use Rattle.std.specs.List.Sorted.{IsStrictlySortedBy}
use Rattle.std.specs.Map.{keys_of, remove_entry, set_value, values_of}
use Rattle.std.specs.BTreeMap.{insert_entry, is_at}
use Rattle.std.specs.Ordering.{nat_cmp}
use Rattle.std.specs.Cmp.{nat_cmp_total}
use Rattle.std.proofs.lemmas.Map.Entries.{sum_by-insert_entry, sum_by-remove_entry, sum_by-set_value}
use Rattle.ws_model.specs.declared.event.Intent.{Intent}
use Rattle.ws_intent.specs.declared.rows.Waiting.{Waiting}
use Rattle.ws_model.specs.Due.{place}
use Rattle.ws_intent.specs.Index.{IsLeast}
use Rattle.ws_intent.specs.Indexed.{IsIndexed, intent_at}
use Rattle.ws_intent.specs.Rising.{IsRising, has_number, is_it}
use Rattle.ws_intent.specs.Rows.{after_miss, is_last, missed, missed_row, mode_weight, without, number_at, unheard_once, weight}
use Rattle.std.proofs.lemmas.Bool.Decides.{nat_tests}
use Rattle.ws_intent.proofs.Keyed.{at_number}
use Rattle.ws_intent.proofs.Tracked.{tracked_added, tracked_same, tracked_without}

abbrev intent : Waiting → Intent
intent w = w.intent

abbrev Rows : Type 0
Rows = List (ℕ × Waiting)

mapped : {X Y : Type 0} (f : X → Y) (b : Bool) (w o : Option X) → option_map f (cond b w o) ≡ cond b (option_map f w) (option_map f o)
mapped f true w o = refl
mapped f false w o = refl

-- ---- one more

module _ (old new : Rows) (f g : List ℕ → List ℕ → ℕ → Bool) (xs ys : List ℕ) (c d : ℕ) (i : Intent) (o : Option ℕ)
    (was : IsIndexed old f xs c) (above : (q : ℕ) → IsSome (number_at q old) → q < i.n)
    (entries : new ≡ insert_entry nat_cmp old i.n (record { intent = i; unheard = 0 }))
    (rows : (q : ℕ) → number_at q new ≡ cond (is_at (nat_cmp i.n) q) (Some (record { intent = i; unheard = 0 })) (number_at q old))
    (ordered : IsStrictlySortedBy nat_cmp (keys_of new))
    (index : (a b : List ℕ) (q : ℕ) → g a b q ≡ cond (bytes_eq a i.topic && bytes_eq b i.callback && (q == i.n)) true (f a b q))
    (first : IsLeast (f i.topic i.callback) o) (list : ys ≡ cond (is_none o) (place nat_lt i.n xs) xs)
    (count : d ≡ c + mode_weight i.mode) where
  abbrev x : Waiting
  x = record { intent = i; unheard = 0 }

  pub rows_more : (q : ℕ) → number_at q new ≡ cond (q == i.n) (Some x) (number_at q old)
  rows_more q = rows q ∙ ap (λ b. cond b (Some x) (number_at q old)) (at_number i.n q)

  is_some_map : (q : ℕ) (o : Option Waiting) → IsSome (option_map intent o) → IsSome o
  is_some_map q None k = k
  is_some_map q (Some w) k = refl

  none_there : number_at i.n old ≡ None
  none_there = by (number_at i.n old) refl
    where
      by : (o : Option Waiting) → number_at i.n old ≡ o → number_at i.n old ≡ None
      by None e = e
      by (Some w) e = let a : i.n < i.n = above i.n (ap is_some e) in absurd (omega arith)

  keyed_more : (q : ℕ) → IfSome (number_at q new) (λ w. w.intent.n ≡ q)
  keyed_more q = subst (λ o. IfSome o (λ (w : Waiting). w.intent.n ≡ q)) (sym (rows_more q)) (by (q == i.n) refl)
    where
      is_q : (a b : ℕ) → (a == b) ≡ true → b ≡ a
      is_q a b e = grind (arith, nat_tests)

      by : (b : Bool) → (q == i.n) ≡ b → IfSome (cond b (Some x) (number_at q old)) (λ (w : Waiting). w.intent.n ≡ q)
      by true e = is_q q i.n e
      by false e = was.rows.keyed q

  counted_more : d ≡ sum_by weight (values_of new)
  counted_more =
      let a = sum_by-insert_entry weight nat_cmp_total old i.n x was.rows.ordered in
      let b : unwrap_or (option_map weight (number_at i.n old)) 0 ≡ 0 = ap (λ o. unwrap_or (option_map weight o) 0) none_there in
      let e : sum_by weight (values_of new) ≡ sum_by weight (values_of (insert_entry nat_cmp old i.n x)) = ap (λ es. sum_by weight (values_of es)) entries in
      let h : c ≡ sum_by weight (values_of old) = was.counted in
      let k : d ≡ c + mode_weight i.mode = count in
      omega (arith, a)

  pub indexed_added : IsIndexed new g ys d
  indexed_added =
      record {
        rows = record { ordered = ordered; keyed = keyed_more };
        tracked = tracked_added (intent_at intent old) (intent_at intent new) f g xs i.n i was.tracked
            (λ q k. above q (is_some_map q (number_at q old) k))
            (λ q. ap (option_map intent) (rows_more q) ∙ mapped intent (q == i.n) (Some x) (number_at q old))
            index o ys first list;
        counted = counted_more;
      }

-- ---- one less

pub counted_less : (es : Rows) (n c : ℕ) (w : Waiting) → number_at n es ≡ Some w → c ≡ sum_by weight (values_of es) → c ≡ sum_by weight (values_of (remove_entry (is_at (nat_cmp n)) es)) + weight w
counted_less es n c w e h =
    let a = sum_by-remove_entry weight (is_at (nat_cmp n)) es in
    let b : unwrap_or (option_map weight (number_at n es)) 0 ≡ weight w = ap (λ o. unwrap_or (option_map weight o) 0) e in
    omega (arith, a)

module _ (old new : Rows) (f g : List ℕ → List ℕ → ℕ → Bool) (xs ys : List ℕ) (c d n : ℕ) (w : Waiting) (o : Option ℕ)
    (was : IsIndexed old f xs c) (there : number_at n old ≡ Some w)
    (entries : new ≡ remove_entry (is_at (nat_cmp n)) old)
    (rows : (q : ℕ) → number_at q new ≡ cond (is_at (nat_cmp n) q) None (number_at q old))
    (ordered : IsStrictlySortedBy nat_cmp (keys_of new))
    (index : (a b : List ℕ) (q : ℕ) → g a b q ≡ cond (bytes_eq a w.intent.topic && bytes_eq b w.intent.callback && (q == n)) false (f a b q))
    (next : IsLeast (g w.intent.topic w.intent.callback) o) (rising : IsRising ys)
    (lists : (q : ℕ) → has_number ys q ≡ cond (has_number xs n) (is_it o q || (not (n == q) && has_number xs q)) (has_number xs q))
    (count : d + mode_weight w.intent.mode ≡ c) where
  rows_less : (q : ℕ) → number_at q new ≡ cond (q == n) None (number_at q old)
  rows_less q = rows q ∙ ap (λ b. cond b None (number_at q old)) (at_number n q)

  keyed_less : (q : ℕ) → IfSome (number_at q new) (λ w. w.intent.n ≡ q)
  keyed_less q = subst (λ o. IfSome o (λ (w : Waiting). w.intent.n ≡ q)) (sym (rows_less q)) (by (q == n))
    where
      by : (b : Bool) → IfSome (cond b None (number_at q old)) (λ (w : Waiting). w.intent.n ≡ q)
      by true = tt
      by false = was.rows.keyed q

  pub indexed_without : IsIndexed new g ys d
  indexed_without =
      record {
        rows = record { ordered = ordered; keyed = keyed_less };
        tracked = tracked_without (intent_at intent old) (intent_at intent new) f g xs ys n w.intent o was.tracked
            (ap (option_map intent) there)
            (λ q. ap (option_map intent) (rows_less q) ∙ mapped intent (q == n) None (number_at q old))
            index next rising lists;
        counted = less;
      }
    where
      less : d ≡ sum_by weight (values_of new)
      less =
          let a : c ≡ sum_by weight (values_of (remove_entry (is_at (nat_cmp n)) old)) + weight w = counted_less old n c w there was.counted in
          let e : sum_by weight (values_of new) ≡ sum_by weight (values_of (remove_entry (is_at (nat_cmp n)) old)) = ap (λ es. sum_by weight (values_of es)) entries in
          let k : d + mode_weight w.intent.mode ≡ c = count in
          omega arith

-- ---- one exchange without a reply

module _ (old new : Rows) (f : List ℕ → List ℕ → ℕ → Bool) (xs : List ℕ) (c n : ℕ)
    (was : IsIndexed old f xs c) (more : is_last (number_at n old) ≡ false)
    (entries : new ≡ after_miss n old)
    (rows : (q : ℕ) → number_at q new ≡ cond (q == n) (missed (number_at n old)) (number_at q old))
    (ordered : IsStrictlySortedBy nat_cmp (keys_of new)) where
  still : (o : Option Waiting) → is_last o ≡ false → option_map intent (missed o) ≡ option_map intent o
  still None k = refl
  still (Some w) k = ap (λ b. option_map intent (cond b None (Some (unheard_once w)))) k

  same_intent : (q : ℕ) → intent_at intent new q ≡ intent_at intent old q
  same_intent q = ap (option_map intent) (rows q) ∙ mapped intent (q == n) (missed (number_at n old)) (number_at q old) ∙ by (q == n) refl
    where
      is_n : (a b : ℕ) → (a == b) ≡ true → b ≡ a
      is_n a b e = grind (arith, nat_tests)

      by : (b : Bool) → (q == n) ≡ b → cond b (option_map intent (missed (number_at n old))) (option_map intent (number_at q old)) ≡ option_map intent (number_at q old)
      by true e = still (number_at n old) more ∙ ap (λ p. option_map intent (number_at p old)) (is_n q n e)
      by false e = refl

  keyed_same : (q : ℕ) → IfSome (number_at q new) (λ w. w.intent.n ≡ q)
  keyed_same q = by (number_at q new) (number_at q old) (same_intent q) (was.rows.keyed q)
    where
      by : (a b : Option Waiting) → option_map intent a ≡ option_map intent b → IfSome b (λ w. w.intent.n ≡ q) → IfSome a (λ w. w.intent.n ≡ q)
      by None b e k = tt
      by (Some w) None e k = absurd (none (sym e))
        where
          none : None ≡ Some w.intent → ⊥
          none y = grind arith
      by (Some w) (Some v) e k = ap (λ (i : Intent). i.n) (the_same e) ∙ k
        where
          the_same : Some w.intent ≡ Some v.intent → w.intent ≡ v.intent
          the_same y = cc

  counted_same : (o : Option Waiting) → number_at n old ≡ o → c ≡ sum_by weight (values_of new)
  counted_same None e = was.counted ∙ ap (λ es. sum_by weight (values_of es)) (sym (entries ∙ ap (λ o. missed_row n old o) e))
  counted_same (Some w) e =
      let a = sum_by-set_value weight (is_at (nat_cmp n)) old w (unheard_once w) e in
      let s : is_last (Some w) ≡ false = ap is_last (sym e) ∙ more in
      let k : sum_by weight (values_of new) ≡ sum_by weight (values_of (set_value (is_at (nat_cmp n)) old (unheard_once w))) = ap (λ es. sum_by weight (values_of es)) (entries ∙ ap (λ o. missed_row n old o) e ∙ ap (λ b. cond b (without n old) (set_value (is_at (nat_cmp n)) old (unheard_once w))) s) in
      let h : c ≡ sum_by weight (values_of old) = was.counted in
      omega (arith, a)

  pub indexed_missed : IsIndexed new f xs c
  indexed_missed =
      record {
        rows = record { ordered = ordered; keyed = keyed_same };
        tracked = tracked_same (intent_at intent old) (intent_at intent new) f f xs was.tracked same_intent (λ a b q. refl);
        counted = counted_same (number_at n old) refl;
      }
