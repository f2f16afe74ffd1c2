use Rattle.std.proofs.Common.{◌≡◌, true}
use Rattle.edge_tests.proofs.tests.worlds.take_all.Given as goal

abbrev pub invariant-loop-n : goal.invariant-loop-n
invariant-loop-n g l = g.W.World.is_open l.world ≡ true
