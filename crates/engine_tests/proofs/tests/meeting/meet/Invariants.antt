use Rattle.std.proofs.Common.{◌≡◌, true}
use Rattle.engine_tests.proofs.tests.meeting.meet.Given as goal

abbrev pub invariant-loop : goal.invariant-loop
invariant-loop g l = record {
  left : g.W.World.is_open l.left_world ≡ true;
  right : g.W.World.is_open l.right_world ≡ true;
}
