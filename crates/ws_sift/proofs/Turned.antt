-- Lists turned round.
use Rattle.std.proofs.Common.{◌≡◌, Bool, true, false, cond, List, [], ◌∷◌, ◌++◌, refl, ap, sym, ◌∙◌}
use Rattle.std.specs.Prelude.{filter, reverse}
use Rattle.std.proofs.lemmas.List.{append-nil, reverse-append}
use Rattle.std.proofs.lemmas.List.Elements.{filter-append}

module _ {X : Type 0} where
  reverse_cons : (x : X) (xs : List X) → reverse (x ∷ xs) ≡ reverse xs ++ x ∷ []
  reverse_cons x xs = reverse-append (x ∷ []) xs

  one_more : (x : X) (ys zs : List X) (b : Bool) → ys ≡ reverse zs → ys ++ cond b (x ∷ []) [] ≡ reverse (cond b (x ∷ zs) zs)
  one_more x ys zs true e = ap (λ l. l ++ x ∷ []) e ∙ sym (reverse_cons x zs)
  one_more x ys zs false e = append-nil ys ∙ e

  pub filter-reverse : (p : X → Bool) (xs : List X) → filter p (reverse xs) ≡ reverse (filter p xs)
  filter-reverse p [] = refl
  filter-reverse p (x ∷ xs) =
      ap (filter p) (reverse_cons x xs) ∙ filter-append p (reverse xs) (x ∷ []) ∙ one_more x _ (filter p xs) (p x) (filter-reverse p xs)
