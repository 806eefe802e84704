-- What a node of the tree is seen as (own).
use Rattle.std.specs.Prelude.{List, [], ◌∷◌, ◌++◌}
use Rattle.ws_order.specs.declared.order.Node.{Node}
use Rattle.ws_order.specs.declared.order.Node.TheVariants.{Leaf, Fork}

-- the members in order
abbrev pub members : {K : Type 0} → Node K → List K
members Leaf = []
members (Fork left rank top right) = left.value ++ top ∷ right.value
