use Rattle.std.proofs.Common.{◌≡◌, ◌+◌, ◌*◌, ◌/◌, ◌<◌, drop, length}
use Rattle.least_tree.specs.Nodes.{AreOthers}
use Rattle.least_tree.proofs.node.raise.Given as goal

abbrev pub invariant-loop-node : goal.invariant-loop-node
invariant-loop-node l = record {
  as_long : length l.nodes ≡ length l.fn.nodes;
  within : 2 * l.node + 1 < length l.nodes;
  leaves : drop (length l.fn.nodes / 2) l.nodes ≡ drop (length l.fn.nodes / 2) l.fn.nodes;
  others : AreOthers l.node l.nodes;
}

abbrev pub decreases-loop-node : goal.decreases-loop-node
decreases-loop-node l = l.node
