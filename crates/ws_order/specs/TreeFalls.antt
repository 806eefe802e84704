-- Each side of a fork has fewer members than the fork (own).
use Rattle.std.specs.Prelude.{◌≤◌, max, ◌∷◌, length}
use Rattle.std.proofs.Common.{arith, length-append}
use Rattle.ws_order.specs.declared.key.Key.{Ghosts}
use Rattle.ws_order.specs.declared.order.Node.{Node}
use Rattle.ws_order.specs.declared.order.Node.TheVariants.{Leaf, Fork}
use Rattle.ws_order.specs.declared.order.Order.TheDeep.{deep-Node}
use Rattle.ws_order.specs.Trees.{members}

-- no side is deeper than the node has members
pub depth_le-length-members : {K : Type 0} (key : Ghosts K) (n : Node K) → max (deep-Node K key n) 0 ≤ length (members n)
depth_le-length-members key Leaf = omega arith
depth_le-length-members key (Fork left rank top right) = omega (arith, length-append left.value (top ∷ right.value))
