use Rattle.least_tree.specs.Nodes.{doubled}
use Rattle.least_tree.proofs.Lasts.{Has}
use Rattle.least_tree.proofs.node.last_with.Given as goal

abbrev pub invariant-loop-left : goal.invariant-loop-left
invariant-loop-left l = Has (doubled l.fn.levels 1) l.fn.nodes l.left l.node

abbrev pub decreases-loop-left : goal.decreases-loop-left
decreases-loop-left l = l.left
