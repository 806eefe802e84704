-- An order of keys, and lists that rise by it (own).
use Rattle.std.specs.Prelude.{◌≡◌, Bool, true, false, List, [], ◌∷◌, ◌++◌}
use Rattle.std.specs.List.{AllByRecursion, list_any}

-- of any two keys one stands before the other, unless they are the same
pub record IsOrder {K : Type 0} (before same : K → K → Bool) : Type 0 where
  pub then : (x y z : K) → before x y ≡ true → before y z ≡ true → before x z ≡ true
  pub not_back : (x y : K) → before x y ≡ true → before y x ≡ false
  pub either : (x y : K) → before x y ≡ false → before y x ≡ false → same x y ≡ true
  pub itself : (x : K) → same x x ≡ true
  pub is : (x y : K) → same x y ≡ true → x ≡ y

abbrev pub has_key : {K : Type 0} → (K → K → Bool) → K → List K → Bool
has_key same x xs = list_any (same x) xs

-- each stands before all later ones
abbrev pub Rises : {K : Type 0} → (K → K → Bool) → List K → Type 0
Rises before [] = Unit {0}
Rises before (x ∷ xs) = AllByRecursion (λ y. before x y ≡ true) xs × Rises before xs

-- what stands before and behind one member
pub record IsParted {K : Type 0} (before : K → K → Bool) (all left : List K) (top : K) (right : List K) : Type 0 where
  pub is : all ≡ left ++ top ∷ right
  pub rising : Rises before all
