-- What a swap leaves behind both places.
use Rattle.std.proofs.Common.{◌≡◌, ℕ, ◌+◌, ◌≤◌, ◌<◌, List, [], ◌∷◌, refl, ap, sym, ◌∙◌, drop, length, set, get_or, arith}
use Rattle.std.specs.List.{swap}
use Rattle.std.proofs.lemmas.List.{drop-set-lt}
use Rattle.std.proofs.lemmas.List.Edits.{swap_is}

pub behind_swap : {X : Type 0} (xs : List X) (i j : ℕ) → i ≤ j → j < length xs → drop (j + 1) (swap xs i j) ≡ drop (j + 1) xs
behind_swap [] i j le lt = refl
behind_swap (d ∷ ys) i j le lt =
    ap (drop (j + 1)) (sym (swap_is (d ∷ ys) i j d (omega arith) lt))
    ∙ drop-set-lt (j + 1) (set (d ∷ ys) i (get_or (d ∷ ys) j d)) j (get_or (d ∷ ys) i d) (omega arith)
    ∙ drop-set-lt (j + 1) (d ∷ ys) i (get_or (d ∷ ys) j d) (omega arith)
