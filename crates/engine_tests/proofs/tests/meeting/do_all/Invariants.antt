use Rattle.std.proofs.Common.{◌≡◌, true}
use Rattle.engine_tests.proofs.tests.meeting.do_all.Given as goal

abbrev pub invariant-loop-action : goal.invariant-loop-action
invariant-loop-action g l = g.W.World.is_open l.world ≡ true
