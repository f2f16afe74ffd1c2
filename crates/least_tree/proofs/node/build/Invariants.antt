use Rattle.std.proofs.Common.{◌≡◌, ◌*◌, ◌/◌, ◌≤◌, drop, length}
use Rattle.least_tree.proofs.Raising.{AreFrom}
use Rattle.least_tree.proofs.node.build.Given as goal

abbrev pub invariant-loop-node : goal.invariant-loop-node
invariant-loop-node l = record {
  as_long : length l.nodes ≡ length l.fn.nodes;
  within : 2 * l.node ≤ length l.nodes;
  leaves : drop (length l.fn.nodes / 2) l.nodes ≡ drop (length l.fn.nodes / 2) l.fn.nodes;
  done : AreFrom l.node l.nodes;
}
