-- An array that is filled in two parts.
use Rattle.std.proofs.Common.{◌≡◌, ℕ, List, [], ◌++◌, length, take, drop, sym, ◌∙◌, ap, arith, length-append, take-append-drop}
use Rattle.std.proofs.lemmas.List.{take_at, drop_all, append-nil}
use Rattle.std.proofs.lemmas.Slice.{take-put_mid, drop-put_mid}
use borrow.Rule.Slice.PartMut.{put_mid}

pub halves : (first rest second : List ℕ) → length first ≡ 4 → length rest ≡ 32 → length second ≡ 32 → put_mid 4 32 (first ++ rest) second ≡ first ++ second
halves first rest second four more len =
    let xs = first ++ rest in
    let whole = put_mid 4 32 xs second in
    let long : length xs ≡ 36 = omega (arith, length-append first rest) in
    let begins : take 36 whole ≡ take 4 xs ++ second = take-put_mid 4 32 xs second 36 (omega arith) (omega arith) in
    let ends : drop 36 whole ≡ [] = drop-put_mid 4 32 xs second 36 (omega arith) (omega arith) len ∙ drop_all 36 xs (omega arith) in
    sym (take-append-drop 36 whole) ∙ (λ i. begins i ++ ends i) ∙ append-nil (take 4 xs ++ second) ∙ ap (λ (l : List ℕ). l ++ second) (take_at first rest 4 four)
