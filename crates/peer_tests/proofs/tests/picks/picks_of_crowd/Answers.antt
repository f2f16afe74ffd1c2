use Rattle.std.proofs.Common.{rules}
use Rattle.std.specs.List.{IsDistinct}
use Rattle.peer_tests.proofs.tests.picks.picks_of_crowd.Goals as goal

pub pick-requires : goal.pick-requires
unfolding IsDistinct
pick-requires c = search rules
