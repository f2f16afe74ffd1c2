-- The rank of a leaf, as a number of the tree.
use Rattle.std.specs.Prelude.{ℕ, List, map}
use Rattle.least_tree.specs.Numbers.{none}
use Rattle.prune_order.specs.declared.leaf.Leaf.{Leaf}
use Rattle.prune_order.specs.declared.leaf.Standing.{Standing}
use Rattle.prune_order.specs.declared.leaf.Standing.TheVariants.{Gone, Kept, MayGo}

abbrev pub number_by : Standing → ℕ
number_by Gone = none
number_by Kept = none
number_by (MayGo rank) = rank

abbrev pub number_in : Leaf → ℕ
number_in leaf = number_by leaf.standing

abbrev pub numbers_in : List Leaf → List ℕ
numbers_in leaves = map number_in leaves
