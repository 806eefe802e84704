-- Tables that show the same at each key have as many entries that pass a test.
use Rattle.std.proofs.Common.{◌≡◌, ℕ, Bool, true, false, cond, ◌||◌, List, [], ◌∷◌, refl, ap, sym, ◌∙◌, length, Option, Some, None, arith}
use Rattle.std.specs.Prelude.{filter}
use Rattle.std.specs.List.{IsDistinct, list_any}
use Rattle.std.specs.Map.{keys_of, lookup}
use Rattle.std.specs.BTreeMap.{is_at}
use Rattle.std.specs.Cmp.{IsTotalOrder}
use Rattle.std.specs.Ordering.{eq_by_cmp}
use Rattle.std.proofs.lemmas.Bool.Decides.{nat_tests}
use Rattle.std.proofs.lemmas.Cmp.{eq_by_cmp_equiv, nat_cmp_total, on_total, then_total}
use Rattle.std.proofs.lemmas.Map.{lookup-none}
use Rattle.std.proofs.lemmas.Map.Entries.{length-keys_of, none_past_head}
use Rattle.std.proofs.lemmas.Map.Keys.{IsDistinct-tail}
use Rattle.std.proofs.lemmas.Map.Made.{IsDistinct-keys_filter, length-from_same_keys}
use Rattle.ws_fate.specs.declared.totals.Standing.{Standing}
use Rattle.ws_fate.specs.Rows.{is_here, pair_order}

abbrev pub Entry : Type 0
Entry = (ℕ × ℕ) × Standing

abbrev pub same_key : ℕ × ℕ → ℕ × ℕ → Bool
same_key = eq_by_cmp pair_order

pub total_order : IsTotalOrder pair_order
total_order = then_total (on_total (λ (k : ℕ × ℕ). k.0) nat_cmp_total) (on_total (λ (k : ℕ × ℕ). k.1) nat_cmp_total)

pub key_test : (n v m w : ℕ) → same_key (n, v) (m, w) ≡ is_here v n w m
key_test n v m w = grind (arith, nat_tests)

here_is : (v n w m : ℕ) → is_here v n w m ≡ true → (n ≡ m) × (v ≡ w)
here_is v n w m k = (grind (arith, nat_tests), grind (arith, nat_tests))

pub same_is : (k m : ℕ × ℕ) → same_key k m ≡ true → k ≡ m
same_is k m e = let p = here_is k.1 k.0 m.1 m.0 (sym (key_test k.0 k.1 m.0 m.1) ∙ e) in (λ j. (p.0 j, p.1 j))

abbrev passes : (Standing → Bool) → Option Standing → Bool
passes p None = false
passes p (Some s) = p s

-- a key is one of those that pass a test exactly where what stands at it passes
found_row : (q : Entry → Bool) (k : ℕ × ℕ) (es : List Entry) → IsDistinct same_key (keys_of es) → list_any (same_key k) (keys_of (filter q es)) ≡ passes (λ s. q (k, s)) (lookup (is_at (pair_order k)) es)
found_row q k [] d = refl
found_row q k (e ∷ es) d = one (same_key k e.0) refl (q e) refl (found_row q k es (IsDistinct-tail same_key e.0 (keys_of es) d))
  where
    rest : Bool
    rest = list_any (same_key k) (keys_of (filter q es))

    none : same_key k e.0 ≡ true → lookup (is_at (pair_order k)) es ≡ None
    none b = lookup-none (same_key k) es (none_past_head (eq_by_cmp_equiv total_order) k e es d b)

    at : same_key k e.0 ≡ true → q (k, e.1) ≡ q e
    at b = ap (λ z. q (z, e.1)) (same_is k e.0 b)

    one : (b : Bool) → same_key k e.0 ≡ b → (c : Bool) → q e ≡ c → list_any (same_key k) (keys_of (filter q es)) ≡ passes (λ s. q (k, s)) (lookup (is_at (pair_order k)) es)
        → list_any (same_key k) (keys_of (cond c (e ∷ filter q es) (filter q es))) ≡ passes (λ s. q (k, s)) (cond b (Some e.1) (lookup (is_at (pair_order k)) es))
    one true b true c r = ap (λ x. x || rest) b ∙ sym (at b ∙ c)
    one true b false c r = r ∙ ap (passes (λ s. q (k, s))) (none b) ∙ sym (at b ∙ c)
    one false b true c r = ap (λ x. x || rest) b ∙ r
    one false b false c r = r

pub same_number :
    (q : Entry → Bool) (es fs : List Entry) → IsDistinct same_key (keys_of es) → IsDistinct same_key (keys_of fs)
    → ((k : ℕ × ℕ) → lookup (is_at (pair_order k)) es ≡ lookup (is_at (pair_order k)) fs) → length (filter q es) ≡ length (filter q fs)
same_number q es fs d f same =
    sym (length-keys_of (filter q es))
    ∙ length-from_same_keys (eq_by_cmp_equiv total_order) (keys_of (filter q es)) (keys_of (filter q fs)) (IsDistinct-keys_filter same_key q es d) (IsDistinct-keys_filter same_key q fs f)
    (λ k. found_row q k es d ∙ ap (passes (λ s. q (k, s))) (same k) ∙ sym (found_row q k fs f))
    ∙ length-keys_of (filter q fs)
