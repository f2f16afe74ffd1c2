use Rattle.std.proofs.Common.{◌≡◌, true}
use Rattle.engine_tests.proofs.tests.meeting.sockets.next_caller.Given as goal

abbrev pub invariant-loop : goal.invariant-loop
invariant-loop g l = g.W.World.is_open l.world ≡ true
