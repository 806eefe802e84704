-- As many pairs are owed in a table as in the history.
use Rattle.std.proofs.Common.{◌≡◌, ℕ, ◌≤◌, Bool, true, false, cond, ◌&&◌, ◌||◌, List, [], ◌∷◌, refl, ap, sym, suc, ◌∙◌, length, arith}
use Rattle.std.specs.Prelude.{filter, map, find, nat_lt, ◌==◌, Some, is_some}
use Rattle.std.specs.Option.{option_map}
use Rattle.std.specs.List.{AllByRecursion, IsDistinct, list_any}
use Rattle.std.specs.List.Sorted.{IsStrictlySortedBy}
use Rattle.std.specs.Map.{keys_of, values_of}
use Rattle.std.specs.Ordering.{eq_by_cmp}
use Rattle.std.proofs.lemmas.Cmp.{eq_by_cmp_equiv}
use Rattle.std.proofs.lemmas.List.{length-map}
use Rattle.std.proofs.lemmas.Map.Made.{length-from_same_keys}
use Rattle.std.proofs.lemmas.Bool.Decides.{nat_tests}
use Rattle.ws_model.specs.declared.event.Event.{Event}
use Rattle.ws_model.specs.Fate.{Pair, fate, is_owed}
use Rattle.ws_model.specs.Pairs.{owed, pairs}
use Rattle.ws_model.specs.Legal.{Legal}
use Rattle.ws_model.specs.View.{owed_push}
use Rattle.ws_laws.proofs.ListLaws.{all_filter, all_map, all_weaker}
use Rattle.ws_laws.proofs.Paired.{AreUnlike, unlike_filter, same_numbers, pairs_apart}
use Rattle.ws_delivery.specs.declared.open_pair.OpenPair.{OpenPair}
use Rattle.ws_delivery.specs.Table.{Rows, pair_order, pair_at, owed_at, unexpired, number_owed}
use Rattle.ws_delivery.specs.Stands.{StandsFor, is_pair, shown, shown_of}
use Rattle.ws_delivery.proofs.RowsByKey.{Ascends, ascends, look_at}
use Rattle.ws_delivery.proofs.Counting.{total_order}

abbrev pub same_key : ℕ × ℕ → ℕ × ℕ → Bool
same_key = eq_by_cmp pair_order

abbrev pub is_owed_entry : ℕ → (ℕ × ℕ) × OpenPair → Bool
is_owed_entry t e = nat_lt t e.1.exp

-- the key of a pair
abbrev pub key_of : Pair → ℕ × ℕ
key_of p = (p.lease.intent.n, p.version.ver)

pub key_test : (n v m w : ℕ) → same_key (n, v) (m, w) ≡ ((n == m) && (v == w))
key_test n v m w = grind (arith, nat_tests)

-- ---- the rows

by_entries : (t : ℕ) (rows : Rows) → length (filter (λ p. nat_lt t p.exp) (values_of rows)) ≡ length (filter (is_owed_entry t) rows)
by_entries t [] = refl
by_entries t (e ∷ rows) = one (nat_lt t e.1.exp) (by_entries t rows)
  where
    one : (b : Bool) → length (filter (λ p. nat_lt t p.exp) (values_of rows)) ≡ length (filter (is_owed_entry t) rows)
        → length (cond b (e.1 ∷ filter (λ p. nat_lt t p.exp) (values_of rows)) (filter (λ p. nat_lt t p.exp) (values_of rows))) ≡ length (cond b (e ∷ filter (is_owed_entry t) rows) (filter (is_owed_entry t) rows))
    one true r = ap (λ k. suc k) r
    one false r = r

abbrev IsAbove : (ℕ × ℕ) × OpenPair → (ℕ × ℕ) × OpenPair → Type 0
IsAbove e d = (nat_lt e.0.0 d.0.0 || ((e.0.0 == d.0.0) && nat_lt e.0.1 d.0.1)) ≡ true

other_key : (m u n v : ℕ) → (nat_lt m n || ((m == n) && nat_lt u v)) ≡ true → same_key (m, u) (n, v) ≡ false
other_key m u n v k = grind (arith, nat_tests)

distinct_rows : (t : ℕ) (rows : Rows) → Ascends rows → IsDistinct same_key (map (λ e. e.0) (filter (is_owed_entry t) rows))
unfolding IsDistinct
distinct_rows t [] a = tt
distinct_rows t (e ∷ rows) a = one (nat_lt t e.1.exp) (distinct_rows t rows a.1)
  where
    others : AllByRecursion (λ k. same_key e.0 k ≡ false) (map (λ d. d.0) (filter (is_owed_entry t) rows))
    others =
        all_map (λ k. same_key e.0 k ≡ false) (λ d. d.0) (filter (is_owed_entry t) rows)
        (all_filter (λ d. same_key e.0 d.0 ≡ false) (is_owed_entry t) rows
        (all_weaker (IsAbove e) (λ d. same_key e.0 d.0 ≡ false) (λ d k. other_key e.0.0 e.0.1 d.0.0 d.0.1 k) rows a.0))

    one : (b : Bool) → IsDistinct same_key (map (λ d. d.0) (filter (is_owed_entry t) rows)) → IsDistinct same_key (map (λ d. d.0) (cond b (e ∷ filter (is_owed_entry t) rows) (filter (is_owed_entry t) rows)))
    one true r = (others, r)
    one false r = r

none_here : (q : (ℕ × ℕ) → Bool) (ks : List (ℕ × ℕ)) → AllByRecursion (λ k. q k ≡ false) ks → list_any q ks ≡ false
none_here q [] a = refl
none_here q (k ∷ ks) a = rw a.0 (none_here q ks a.1)

-- a key of a row that is owed is that of an owed pair
pub member_rows : (t n v : ℕ) (rows : Rows) → Ascends rows → list_any (same_key (n, v)) (map (λ e. e.0) (filter (is_owed_entry t) rows)) ≡ is_some (owed_at t v n rows)
member_rows t n v [] a = refl
member_rows t n v (e ∷ rows) a =
    one (same_key (n, v) e.0) refl (nat_lt t e.1.exp) refl (member_rows t n v rows a.1)
    ∙ sym (ap (λ o. is_some (unexpired t o)) (look_at v n e rows ∙ ap (λ b. cond b (Some e.1) (pair_at v n rows)) (sym (key_test n v e.0.0 e.0.1))))
  where
    rest : List (ℕ × ℕ)
    rest = map (λ d. d.0) (filter (is_owed_entry t) rows)

    apart : (n v m u x y : ℕ) → same_key (n, v) (m, u) ≡ true → (nat_lt m x || ((m == x) && nat_lt u y)) ≡ true → same_key (n, v) (x, y) ≡ false
    apart n v m u x y k l = grind (arith, nat_tests)

    absent : same_key (n, v) e.0 ≡ true → list_any (same_key (n, v)) rest ≡ false
    absent k =
        none_here (same_key (n, v)) rest
        (all_map (λ k. same_key (n, v) k ≡ false) (λ d. d.0) (filter (is_owed_entry t) rows)
        (all_filter (λ d. same_key (n, v) d.0 ≡ false) (is_owed_entry t) rows
        (all_weaker (IsAbove e) (λ d. same_key (n, v) d.0 ≡ false) (λ d l. apart n v e.0.0 e.0.1 d.0.0 d.0.1 k l) rows a.0)))

    one : (b : Bool) → same_key (n, v) e.0 ≡ b → (c : Bool) → nat_lt t e.1.exp ≡ c → list_any (same_key (n, v)) rest ≡ is_some (owed_at t v n rows)
        → list_any (same_key (n, v)) (map (λ d. d.0) (cond c (e ∷ filter (is_owed_entry t) rows) (filter (is_owed_entry t) rows))) ≡ is_some (unexpired t (cond b (Some e.1) (pair_at v n rows)))
    one true k true l r = rw (k, l) refl
    one true k false l r = absent k ∙ rw l refl
    one false k true l r = rw k r
    one false k false l r = r

-- ---- the history

distinct_pairs : (ps : List Pair) → AreUnlike same_numbers ps → IsDistinct same_key (map key_of ps)
unfolding IsDistinct
distinct_pairs [] a = tt
distinct_pairs (p ∷ ps) a =
    (all_map (λ k. same_key (key_of p) k ≡ false) key_of ps (all_weaker (λ q. same_numbers p q ≡ false) (λ q. same_key (key_of p) (key_of q) ≡ false) (λ q k. unlike p q k) ps a.0), distinct_pairs ps a.1)
  where
    turned : (n v m w : ℕ) → ((v == w) && (n == m)) ≡ false → same_key (n, v) (m, w) ≡ false
    turned n v m w k = grind (arith, nat_tests)

    unlike : (p q : Pair) → same_numbers p q ≡ false → same_key (key_of p) (key_of q) ≡ false
    unlike p q k = turned p.lease.intent.n p.version.ver q.lease.intent.n q.version.ver k

pub member_owed : (h : List Event) (n v : ℕ) (ps : List Pair) → is_some (shown_of v n (map (owed_push h) ps)) ≡ list_any (same_key (n, v)) (map key_of ps)
member_owed h n v [] = refl
member_owed h n v (p ∷ ps) =
    one ((p.version.ver == v) && (p.lease.intent.n == n)) (member_owed h n v ps)
    ∙ ap (λ b. b || list_any (same_key (n, v)) (map key_of ps)) (turned n v p.lease.intent.n p.version.ver)
  where
    turned : (n v m w : ℕ) → ((w == v) && (m == n)) ≡ same_key (n, v) (m, w)
    turned n v m w = grind (arith, nat_tests)

    one : (b : Bool) → is_some (shown_of v n (map (owed_push h) ps)) ≡ list_any (same_key (n, v)) (map key_of ps)
        → is_some (option_map shown (cond b (Some (owed_push h p)) (find (is_pair v n) (map (owed_push h) ps)))) ≡ (b || list_any (same_key (n, v)) (map key_of ps))
    one true r = refl
    one false r = r

pub owed_number : (h : List Event) (since t : ℕ) (rows : Rows) → IsStrictlySortedBy pair_order (keys_of rows) → Legal h → StandsFor h since rows → since ≤ t → number_owed t rows ≡ length (owed h t)
owed_number h since t rows sorted legal stands later =
    by_entries t rows
    ∙ sym (length-map {A = (ℕ × ℕ) × OpenPair} (filter (is_owed_entry t) rows) (λ e. e.0))
    ∙ length-from_same_keys (eq_by_cmp_equiv total_order) (map (λ e. e.0) (filter (is_owed_entry t) rows)) (map key_of (owed h t))
    (distinct_rows t rows (ascends rows sorted)) (distinct_pairs (owed h t) (unlike_filter same_numbers (λ p. is_owed (fate h p t)) (pairs h) (pairs_apart h legal)))
    (λ q. member_rows t q.0 q.1 rows (ascends rows sorted) ∙ ap is_some (stands.shows t q.1 q.0 later) ∙ member_owed h q.0 q.1 (owed h t))
    ∙ length-map {A = Pair} (owed h t) key_of
