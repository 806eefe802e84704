-- Parts of a file that a block holds.
use Rattle.std.proofs.Common.{◌≡◌, ◌+◌, ◌-◌, ◌++◌, ◌≤◌, ℕ, List, length, take, drop, refl, sym, ◌∙◌, ap, arith, length-take, length-drop, take-append-drop}
use Rattle.std.specs.List.{between}
use Rattle.std.proofs.lemmas.List.{take-take, drop-take, drop-drop, length-take-le, take_at, drop_at}
use Rattle.std.proofs.lemmas.List.Edits.{length-between}
use Rattle.std.proofs.lemmas.Slice.{between_is, take-put_mid}
use borrow.Rule.Slice.PartMut.{put_mid}

-- a part of a part
part_of : (xs : List ℕ) (skipped held : ℕ) → skipped ≤ held → drop skipped (take held xs) ≡ take (held - skipped) (drop skipped xs)
part_of xs skipped held within =
    let split : held ≡ skipped + (held - skipped) = omega (arith, within) in
    ap (λ (n : ℕ). drop skipped (take n xs)) split ∙ drop-take skipped (held - skipped) xs

-- what a block holds from a place on
pub held_there : (block file : List ℕ) (place held skipped : ℕ) → take held block ≡ take held (drop place file) → held ≤ length block → skipped ≤ held
    → between skipped held block ≡ take (length (between skipped held block)) (drop (place + skipped) file)
held_there block file place held skipped is fits within =
    between_is block skipped held
    ∙ ap (drop skipped) is
    ∙ part_of (drop place file) skipped held within
    ∙ ap (take (held - skipped)) (drop-drop skipped place file)
    ∙ ap (λ (n : ℕ). take n (drop (place + skipped) file)) (sym (length-between block skipped held fits))

-- no more is held than there is
pub held_within : (xs file : List ℕ) (at : ℕ) → xs ≡ take (length xs) (drop at file) → length xs ≤ length file - at
held_within xs file at is = omega (arith, ap length is, length-take (length xs) (drop at file), length-drop at file)

-- bytes and the further ones behind them
take_both : (xs : List ℕ) (n m : ℕ) → take n xs ++ take m (drop n xs) ≡ take (n + m) xs
take_both xs n m =
    ap (λ (l : List ℕ). l ++ take m (drop n xs)) (sym (take-take n (n + m) xs (omega arith)))
    ∙ ap (λ (l : List ℕ). take n (take (n + m) xs) ++ l) (sym (drop-take n m xs))
    ∙ take-append-drop n (take (n + m) xs)

pub joined : (file first second : List ℕ) (at n m : ℕ) → first ≡ take n (drop at file) → second ≡ take m (drop (at + n) file) → first ++ second ≡ take (n + m) (drop at file)
joined file first second at n m one two =
    (λ i. one i ++ two i) ∙ ap (λ (l : List ℕ). take n (drop at file) ++ take m l) (sym (drop-drop n at file)) ∙ take_both (drop at file) n m

-- bytes and the further ones, put behind them
pub put_there : (xs ys : List ℕ) (a k m : ℕ) → a ≤ length xs → m ≤ length ys → take (a + m) (put_mid a k xs ys) ≡ take a xs ++ take m ys
put_there xs ys a k m within fits =
    let front = length-take-le a xs within in
    sym (take-take (a + m) (a + length ys) (put_mid a k xs ys) (omega (arith, fits)))
    ∙ ap (take (a + m)) (take-put_mid a k xs ys (a + length ys) refl within)
    ∙ sym (take_both (take a xs ++ ys) a m)
    ∙ (λ i. take_at (take a xs) ys a front i ++ take m (drop_at (take a xs) ys a front i))
