-- Rows beside a history's intents in order: the same numbers, the same counts, the same first ones.
use Rattle.std.proofs.Common.{◌≡◌, ℕ, suc, ◌<◌, Bool, true, false, cond, not, ◌&&◌, ◌||◌, List, [], ◌∷◌, length, refl, ap, sym, ◌∙◌, subst, arith}
use Rattle.std.specs.Prelude.{Option, Some, None, find, filter, map, option_map, is_none, nat_lt, ◌==◌}
use Rattle.std.specs.List.{AllByRecursion, list_any}
use Rattle.std.specs.Map.{keys_of}
use Rattle.std.proofs.lemmas.Bool.Decides.{nat_tests}
use Rattle.std.proofs.lemmas.Bool.{false≢true, or_left, or_right, or_from}
use Rattle.ws_model.specs.declared.event.Intent.{Intent}
use Rattle.ws_model.specs.Due.{by_number, in_order, place}
use Rattle.ws_model.specs.Intents.{same_pair}
use Rattle.ws_laws.proofs.ListLaws.{all_filter, all_from, all_weaker, any_then, filter_all}
use Rattle.ws_laws.proofs.Notices.{IsDescending}
use Rattle.ws_intent.specs.Indexed.{IsKeyed}
use Rattle.ws_intent.specs.Rising.{IsRising, has_number}
use Rattle.ws_intent.specs.Rows.{number_at}
use Rattle.ws_intent.proofs.Firsts.{if_some, same_bools}
use Rattle.ws_intent.proofs.Rises.{itself}
use Rattle.ws_intent.proofs.Risen.{filter_has, filter_rising, passes, risen, row_passes, rows_found, same_rising}

abbrev pub number : Intent → ℕ
number i = i.n

-- ---- intents in order

above : (m n : ℕ) → m < n → nat_lt n m ≡ false
above m n k = grind (arith, nat_tests)

unlike : (m n q : ℕ) → m < n → (n == q) ≡ true → (m == q) ≡ false
unlike m n q k e = grind (arith, nat_tests)

all_placed : (P : ℕ → Type 0) (i : Intent) (js : List Intent) → P i.n → AllByRecursion P (map number js) → AllByRecursion P (map number (place by_number i js))
all_placed P i [] p a = (p, tt)
all_placed P i (j ∷ js) p a = by (nat_lt i.n j.n) (all_placed P i js p a.1)
  where
    by : (b : Bool) → AllByRecursion P (map number (place by_number i js)) → AllByRecursion P (map number (cond b (i ∷ j ∷ js) (j ∷ place by_number i js)))
    by true r = (p, a)
    by false r = (a.0, r)

all_in_order : (P : ℕ → Type 0) (is : List Intent) → AllByRecursion (λ (i : Intent). P i.n) is → AllByRecursion P (map number (in_order by_number is))
all_in_order P [] a = tt
all_in_order P (i ∷ is) a = all_placed P i (in_order by_number is) a.0 (all_in_order P is a.1)

placed_last : (i : Intent) (js : List Intent) → IsRising (map number js) → AllByRecursion (λ (m : ℕ). m < i.n) (map number js) → IsRising (map number (place by_number i js))
placed_last i [] r a = (tt, tt)
placed_last i (j ∷ js) r a =
    subst (λ b. IsRising (map number (cond b (i ∷ j ∷ js) (j ∷ place by_number i js)))) (sym (above j.n i.n a.0))
    (all_placed (λ (m : ℕ). j.n < m) i js a.0 r.0, placed_last i js r.1 a.1)

pub in_order_rising : (is : List Intent) → IsDescending is → IsRising (map number (in_order by_number is))
in_order_rising [] d = tt
in_order_rising (i ∷ is) d = placed_last i (in_order by_number is) (in_order_rising is d.1) (all_in_order (λ (m : ℕ). m < i.n) is d.0)

or_swap : (a b c : Bool) → (a || (b || c)) ≡ (b || (a || c))
or_swap true true c = refl
or_swap true false c = refl
or_swap false b c = refl

placed_has : (i : Intent) (js : List Intent) (q : ℕ) → has_number (map number (place by_number i js)) q ≡ ((i.n == q) || has_number (map number js) q)
placed_has i [] q = refl
placed_has i (j ∷ js) q = by (nat_lt i.n j.n) (placed_has i js q)
  where
    by : (b : Bool) → has_number (map number (place by_number i js)) q ≡ ((i.n == q) || has_number (map number js) q) → has_number (map number (cond b (i ∷ j ∷ js) (j ∷ place by_number i js))) q ≡ ((i.n == q) || ((j.n == q) || has_number (map number js) q))
    by true r = refl
    by false r = ap (λ b. (j.n == q) || b) r ∙ or_swap (j.n == q) (i.n == q) (has_number (map number js) q)

pub in_order_has : (is : List Intent) (q : ℕ) → has_number (map number (in_order by_number is)) q ≡ list_any (λ i. i.n == q) is
in_order_has [] q = refl
in_order_has (i ∷ is) q = placed_has i (in_order by_number is) q ∙ ap (λ b. (i.n == q) || b) (in_order_has is q)

placed_length : (i : Intent) (js : List Intent) → length (place by_number i js) ≡ suc (length js)
placed_length i [] = refl
placed_length i (j ∷ js) = by (nat_lt i.n j.n) (placed_length i js)
  where
    by : (b : Bool) → length (place by_number i js) ≡ suc (length js) → length (cond b (i ∷ j ∷ js) (j ∷ place by_number i js)) ≡ suc (suc (length js))
    by true r = refl
    by false r = ap suc r

pub in_order_length : (is : List Intent) → length (map number (in_order by_number is)) ≡ length is
in_order_length is = mapped (in_order by_number is) ∙ ordered is
  where
    mapped : (js : List Intent) → length (map number js) ≡ length js
    mapped [] = refl
    mapped (j ∷ js) = ap suc (mapped js)

    ordered : (js : List Intent) → length (in_order by_number js) ≡ length js
    ordered [] = refl
    ordered (j ∷ js) = placed_length j (in_order by_number js) ∙ ap suc (ordered js)

-- ---- intents whose numbers fall

pub descending_filter : (p : Intent → Bool) (is : List Intent) → IsDescending is → IsDescending (filter p is)
descending_filter p [] d = tt
descending_filter p (i ∷ is) d = by (p i) (descending_filter p is d.1)
  where
    by : (b : Bool) → IsDescending (filter p is) → IsDescending (cond b (i ∷ filter p is) (filter p is))
    by true r = (all_filter (λ (j : Intent). j.n < i.n) p is d.0, r)
    by false r = r

none_of : (q : ℕ) (is : List Intent) → AllByRecursion (λ (j : Intent). (j.n == q) ≡ false) is → list_any (λ i. i.n == q) is ≡ false
none_of q [] a = refl
none_of q (i ∷ is) a = or_from _ _ a.0 (none_of q is a.1)

abbrev pub intent_passes : (Intent → Bool) → Option Intent → Bool
intent_passes p None = false
intent_passes p (Some i) = p i

any_filter : (p : Intent → Bool) (q : ℕ) (is : List Intent) → IsDescending is → list_any (λ i. i.n == q) (filter p is) ≡ intent_passes p (find (λ i. i.n == q) is)
any_filter p q [] d = refl
any_filter p q (i ∷ is) d = by (p i) refl (i.n == q) refl (any_filter p q is d.1)
  where
    by : (b : Bool) → p i ≡ b → (c : Bool) → (i.n == q) ≡ c → list_any (λ i. i.n == q) (filter p is) ≡ intent_passes p (find (λ i. i.n == q) is) → list_any (λ i. i.n == q) (cond b (i ∷ filter p is) (filter p is)) ≡ intent_passes p (cond c (Some i) (find (λ i. i.n == q) is))
    by true k true e r = or_left _ _ e ∙ sym k
    by true k false e r = ap (λ x. x || list_any (λ i. i.n == q) (filter p is)) e ∙ r
    by false k true e r = none_of q (filter p is) (all_filter (λ (j : Intent). (j.n == q) ≡ false) p is (all_weaker (λ (j : Intent). j.n < i.n) (λ (j : Intent). (j.n == q) ≡ false) (λ j l. unlike j.n i.n q l e) is d.0)) ∙ sym k
    by false k false e r = r

-- each is found by its number
found_later : (i : Intent) (is js : List Intent) → AllByRecursion (λ (j : Intent). j.n < i.n) js → AllByRecursion (λ (j : Intent). find (λ k. k.n == j.n) is ≡ Some j) js → AllByRecursion (λ (j : Intent). find (λ k. k.n == j.n) (i ∷ is) ≡ Some j) js
found_later i is [] a b = tt
found_later i is (j ∷ js) a b = (ap (λ c. cond c (Some i) (find (λ k. k.n == j.n) is)) (higher j.n i.n a.0) ∙ b.0, found_later i is js a.1 b.1)
  where
    higher : (m n : ℕ) → m < n → (n == m) ≡ false
    higher m n k = grind (arith, nat_tests)

each_found : (is : List Intent) → IsDescending is → AllByRecursion (λ (j : Intent). find (λ k. k.n == j.n) is ≡ Some j) is
each_found [] d = tt
each_found (i ∷ is) d = (ap (λ c. cond c (Some i) (find (λ k. k.n == i.n) is)) (itself i.n), found_later i is is d.0 (each_found is d.1))

found_passes : (f test : Intent → Bool) (i : Intent) (is : List Intent) → find f is ≡ Some i → test i ≡ true → list_any test is ≡ true
found_passes f test i [] e k = absurd (false≢true (sym (ap is_none e)))
found_passes f test i (j ∷ js) e k = by (f j) e (λ r. found_passes f test i js r k)
  where
    by : (b : Bool) → cond b (Some j) (find f js) ≡ Some i → (find f js ≡ Some i → list_any test js ≡ true) → list_any test (j ∷ js) ≡ true
    by true s r = or_left _ _ (subst (λ x. test x ≡ true) (let t : i ≡ j = cc in t) k)
    by false s r = or_right (test j) _ (r s)

-- ---- rows with the same intents

module _ {X : Type 0} (intent : X → Intent) (es : List (ℕ × X)) (is : List Intent) (rows : IsKeyed intent es) (down : IsDescending is)
    (same : (q : ℕ) → option_map intent (number_at q es) ≡ find (λ i. i.n == q) is) where
  rising : IsRising (keys_of es)
  rising = risen (keys_of es) rows.ordered

  row_is : (p : Intent → Bool) (q : ℕ) (o : Option X) → passes (λ (e : ℕ × X). p (intent e.1)) q o ≡ intent_passes p (option_map intent o)
  row_is p q None = refl
  row_is p q (Some x) = refl

  -- those that pass have the same numbers, in order
  pub same_numbers : (p : Intent → Bool) → keys_of (filter (λ e. p (intent e.1)) es) ≡ map number (in_order by_number (filter p is))
  same_numbers p =
      same_rising (keys_of (filter (λ e. p (intent e.1)) es)) (map number (in_order by_number (filter p is)))
      (filter_rising (λ e. p (intent e.1)) es rising) (in_order_rising (filter p is) (descending_filter p is down))
      (λ q. filter_has (λ e. p (intent e.1)) q es rising ∙ row_is p q (number_at q es) ∙ ap (intent_passes p) (same q) ∙ sym (any_filter p q is down) ∙ sym (in_order_has (filter p is) q))

  keys_length : (fs : List (ℕ × X)) → length (keys_of fs) ≡ length fs
  keys_length [] = refl
  keys_length (f ∷ fs) = ap suc (keys_length fs)

  pub same_count : (p : Intent → Bool) → length (filter (λ e. p (intent e.1)) es) ≡ length (filter p is)
  same_count p = sym (keys_length (filter (λ e. p (intent e.1)) es)) ∙ ap length (same_numbers p) ∙ in_order_length (filter p is)

  pub same_keys : keys_of es ≡ map number (in_order by_number is)
  same_keys =
      ap keys_of (sym (filter_all (λ e. true) es (all_from (λ (e : ℕ × X). true ≡ true) (λ e. refl) es)))
      ∙ same_numbers (λ i. true)
      ∙ ap (λ js. map number (in_order by_number js)) (filter_all (λ i. true) is (all_from (λ (i : Intent). true ≡ true) (λ i. refl) is))

  pub same_length : length es ≡ length is
  same_length = sym (keys_length es) ∙ ap length same_keys ∙ in_order_length is

  key_is : (e : ℕ × X) → number_at e.0 es ≡ Some e.1 → (intent e.1).n ≡ e.0
  key_is e k = if_some (λ x. (intent x).n ≡ e.0) (number_at e.0 es) e.1 k (rows.keyed e.0)

  some_row : (q : ℕ) (i : Intent) (test : Intent → Bool) (o : Option X) → number_at q es ≡ o → option_map intent o ≡ Some i → test i ≡ true → list_any (λ e. test (intent e.1)) es ≡ true
  some_row q i test None e k t = absurd (false≢true (sym (ap is_none k)))
  some_row q i test (Some x) e k t = row_passes q x (λ e. test (intent e.1)) es e (subst (λ j. test j ≡ true) (let s : i ≡ intent x = cc in s) t)

  -- one passes there exactly where one passes here
  pub same_any : (test : Intent → Bool) → list_any (λ e. test (intent e.1)) es ≡ list_any test is
  same_any test =
      same_bools _ _
      (λ k. any_then (λ (e : ℕ × X). number_at e.0 es ≡ Some e.1) (λ e. test (intent e.1)) (list_any test is ≡ true)
      (λ e f t. found_passes (λ i. i.n == e.0) test (intent e.1) is (sym (same e.0) ∙ ap (option_map intent) f) t) es (rows_found es rising) k)
      (λ k. any_then (λ (j : Intent). find (λ i. i.n == j.n) is ≡ Some j) test (list_any (λ e. test (intent e.1)) es ≡ true)
      (λ j f t. some_row j.n j test (number_at j.n es) refl (same j.n ∙ f) t) is (each_found is down) k)

  any_same : (f g : ℕ × X → Bool) (fs : List (ℕ × X)) → AllByRecursion (λ e. f e ≡ g e) fs → list_any f fs ≡ list_any g fs
  any_same f g [] a = refl
  any_same f g (e ∷ fs) a = ap (λ b. b || list_any f fs) a.0 ∙ ap (λ b. g e || b) (any_same f g fs a.1)

  -- no lower one of the same topic and callback
  pub same_first : (i : Intent) → not (list_any (λ e. nat_lt e.0 i.n && same_pair i (intent e.1)) es) ≡ not (list_any (λ j. nat_lt j.n i.n && same_pair i j) is)
  same_first i =
      ap not (any_same (λ e. nat_lt e.0 i.n && same_pair i (intent e.1)) (λ e. nat_lt (intent e.1).n i.n && same_pair i (intent e.1)) es
      (all_weaker (λ (e : ℕ × X). number_at e.0 es ≡ Some e.1) (λ (e : ℕ × X). (nat_lt e.0 i.n && same_pair i (intent e.1)) ≡ (nat_lt (intent e.1).n i.n && same_pair i (intent e.1)))
      (λ e f. ap (λ n. nat_lt n i.n && same_pair i (intent e.1)) (sym (key_is e f))) es (rows_found es rising))
      ∙ same_any (λ j. nat_lt j.n i.n && same_pair i j))
