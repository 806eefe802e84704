-- Bytes cut into pieces of given lengths, which fill them.
use Rattle.std.proofs.Common.{◌≡◌, ℕ, ◌+◌, ◌≤◌, List, [], ◌∷◌, ◌++◌, length, take, drop, refl, sym, ◌∙◌, ap, arith, append_assoc, length-append, length-drop}
use Rattle.std.specs.List.{sum, concat}
use Rattle.std.proofs.lemmas.List.{nil_from_length, take-append-drop, take-append-le, drop-append-le}
use Rattle.std.proofs.lemmas.List.Sums.{sum_by-cons}
use Rattle.std.proofs.Math.Seq.{take-length}
use Rattle.ws_link.specs.MemoryDials.{cut_by}

sum_of_cons : (n : ℕ) (lengths : List ℕ) → sum (n ∷ lengths) ≡ n + sum lengths
sum_of_cons n lengths = sum_by-cons (λ (x : ℕ). x) n lengths

-- joined they are the bytes
pub cut_whole : (bytes lengths : List ℕ) → sum lengths ≡ length bytes → concat (cut_by bytes lengths) ≡ bytes
cut_whole bytes [] fills = sym (nil_from_length bytes (sym fills))
cut_whole bytes (n ∷ lengths) fills =
    let rest : sum lengths ≡ length (drop n bytes) = omega (arith, sum_of_cons n lengths, length-drop n bytes) in
    ap (λ (l : List ℕ). take n bytes ++ l) (cut_whole (drop n bytes) lengths rest) ∙ take-append-drop n bytes

-- there are as many pieces as lengths
pub cut_count : (bytes lengths : List ℕ) → length (cut_by bytes lengths) ≡ length lengths
cut_count bytes [] = refl
cut_count bytes (n ∷ lengths) = grind (arith, cut_count (drop n bytes) lengths)

-- one more piece, with its length
pub cut_more : (bytes lengths piece : List ℕ) (n : ℕ) → sum lengths ≡ length bytes → length piece ≡ n
    → cut_by (bytes ++ piece) (lengths ++ n ∷ []) ≡ cut_by bytes lengths ++ piece ∷ []
cut_more bytes [] piece n fills size =
    let none : bytes ≡ [] = nil_from_length bytes (sym fills) in
    ap (λ (l : List ℕ). l ∷ []) (ap (λ (l : List ℕ). take n (l ++ piece)) none ∙ ap (λ (k : ℕ). take k piece) (sym size) ∙ take-length piece)
cut_more bytes (m ∷ lengths) piece n fills size =
    let all = sum_of_cons m lengths in
    let below : m ≤ length bytes = omega arith in
    let rest : sum lengths ≡ length (drop m bytes) = omega (arith, length-drop m bytes) in
    rw (take-append-le m bytes piece below, drop-append-le m bytes piece below, cut_more (drop m bytes) lengths piece n rest size)

-- one more piece of two parts
pub cut_joined : (bytes lengths first second : List ℕ) (n : ℕ) → sum lengths ≡ length bytes → length first + length second ≡ n
    → cut_by ((bytes ++ first) ++ second) (lengths ++ n ∷ []) ≡ cut_by bytes lengths ++ (first ++ second) ∷ []
cut_joined bytes lengths first second n fills size =
    ap (λ (l : List ℕ). cut_by l (lengths ++ n ∷ [])) (append_assoc bytes first second)
    ∙ cut_more bytes lengths (first ++ second) n fills (simp length-append (omega arith))
