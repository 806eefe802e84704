-- A part of what is mapped is mapped from a part.
use Rattle.std.proofs.Common.{◌≡◌, List, [], ◌∷◌, refl, sym, subst}
use Rattle.std.specs.Prelude.{map}
use Rattle.ws_kept.specs.Part.{IsPart}
use Rattle.ws_kept.specs.Part.IsPart.{IsEnd, Has, Lacks}

pub record IsMapped {X Y : Type 0} (f : X → Y) (Needed : Y → Type 0) (part : List Y) (all : List X) : Type 0 where
  pub rest : List X
  pub is : part ≡ map f rest
  pub left : IsPart (λ x. Needed (f x)) rest all

module _ {X Y : Type 0} (f : X → Y) (Needed : Y → Type 0) where
  pub mapped : {part all : List Y} → IsPart Needed part all → (xs : List X) → all ≡ map f xs → IsMapped f Needed part xs
  mapped IsEnd [] k = record { rest = []; is = refl; left = IsEnd }
  mapped IsEnd (x ∷ xs) k = absurd (cc)
  mapped (Has y part all p) [] k = absurd (cc)
  mapped (Has y part all p) (x ∷ xs) k =
      let m : IsMapped f Needed part xs = mapped p xs (cc) in
      let same : y ≡ f x = cc in
      record { rest = x ∷ m.rest; is = (λ j. same j ∷ m.is j); left = Has x m.rest xs m.left }
  mapped (Lacks y part all free p) [] k = absurd (cc)
  mapped (Lacks y part all free p) (x ∷ xs) k =
      let m : IsMapped f Needed part xs = mapped p xs (cc) in
      let same : y ≡ f x = cc in
      record { rest = m.rest; is = m.is; left = Lacks x m.rest xs (λ n. free (subst Needed (sym same) n)) m.left }
