use Rattle.std.proofs.Common.{◌≡◌, ◌*◌, ◌-◌, ◌<◌, ◌≤◌}
use Rattle.least_tree.specs.Nodes.{doubled}
use Rattle.least_tree.specs.Numbers.{room_for}
use Rattle.least_tree.proofs.tree.size_for.Given as goal

abbrev pub invariant-loop-size : goal.invariant-loop-size
invariant-loop-size l = record {
  power : l.size ≡ doubled l.levels 1;
  bound : l.size ≤ 2 * room_for l.fn.count;
  few : l.levels < l.size;
}

abbrev pub decreases-loop-size : goal.decreases-loop-size
decreases-loop-size l = 2 * room_for l.fn.count - l.size
