-- Bytes that are compared to the end: the differences are gathered by `or`.
use Rattle.std.proofs.Common.{arith, ◌≡◌, ◌<◌, ◌≤◌, ◌+◌, ℕ, Bool, true, false, ◌&&◌, ◌==◌, List, ◌∷◌, length, drop, get_or, refl, bit_or, bit_xor, bytes_eq, sym, ap, ◌∙◌}
use Rattle.std.proofs.lemmas.Bool.Decides.{same_from_decides, Decides-eqb, Decides-and, Decides-like}
use Rattle.std.proofs.lemmas.List.{drop_all, drop_more}
use Rattle.std.proofs.lemmas.Nat.{le_or_l, le_or_r}
use Rattle.std.specs.Int.Bits.{or_add_and, xor_assoc, xor_self, xor_zero_r}

or_none : (a b : ℕ) → (bit_or a b == 0) ≡ ((a == 0) && (b == 0))
or_none a b =
    same_from_decides (bit_or a b == 0) ((a == 0) && (b == 0))
    (Decides-like (bit_or a b == 0)
    (λ none. (omega (arith, le_or_l a b), omega (arith, le_or_r a b)))
    (λ both. omega (arith, or_add_and a b, both.0, both.1))
    (Decides-eqb (bit_or a b) 0))
    (Decides-and (a == 0) (b == 0) (Decides-eqb a 0) (Decides-eqb b 0))

same_from_xor : (a b : ℕ) → bit_xor a b ≡ 0 → a ≡ b
same_from_xor a b none =
    sym (xor_zero_r a) ∙ ap (bit_xor a) (sym (xor_self b)) ∙ sym (xor_assoc a b b) ∙ ap (λ x. bit_xor x b) none

xor_none : (a b : ℕ) → (bit_xor a b == 0) ≡ (a == b)
xor_none a b =
    same_from_decides (bit_xor a b == 0) (a == b)
    (Decides-like (bit_xor a b == 0) (same_from_xor a b) (λ same. ap (λ x. bit_xor x b) same ∙ xor_self b)
    (Decides-eqb (bit_xor a b) 0))
    (Decides-eqb a b)

and_true : (x : Bool) → x ≡ (x && true)
and_true true = refl
and_true false = refl

and_assoc : (x y z : Bool) → ((x && y) && z) ≡ (x && (y && z))
and_assoc x y z = grind arith

more : (difference a b : ℕ) (xs ys : List ℕ)
    → ((bit_or difference (bit_xor a b) == 0) && bytes_eq xs ys) ≡ ((difference == 0) && bytes_eq (a ∷ xs) (b ∷ ys))
more difference a b xs ys =
    ap (λ t. t && bytes_eq xs ys) (or_none difference (bit_xor a b) ∙ ap (λ t. (difference == 0) && t) (xor_none a b))
    ∙ and_assoc (difference == 0) (a == b) (bytes_eq xs ys)

-- the pair of bytes at i is compared
pub compared : (difference i : ℕ) (xs ys : List ℕ) → i < length xs → i < length ys
    → ((bit_or difference (bit_xor (get_or xs i 0) (get_or ys i 0)) == 0) && bytes_eq (drop (i + 1) xs) (drop (i + 1) ys))
    ≡ ((difference == 0) && bytes_eq (drop i xs) (drop i ys))
compared difference i xs ys hx hy =
    rw (drop_more xs i 0 hx, drop_more ys i 0 hy) (more difference (get_or xs i 0) (get_or ys i 0) (drop (i + 1) xs) (drop (i + 1) ys))

-- all are compared
pub compared_all : (difference i : ℕ) (xs ys : List ℕ) → length xs ≤ i → length ys ≤ i
    → (difference == 0) ≡ ((difference == 0) && bytes_eq (drop i xs) (drop i ys))
compared_all difference i xs ys hx hy = rw (drop_all i xs hx, drop_all i ys hy) (and_true (difference == 0))
