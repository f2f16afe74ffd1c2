use Rattle.std.proofs.Common.{subst}
use Rattle.pair_net.specs.Law.{AgreesAlike}
use Rattle.pair_net.proofs.Reached.{reached_alike}
use Rattle.pair_net.proofs.pair.Pair.phase.Goals as goal

pub returns-clause-alike : goal.returns-clause-alike
returns-clause-alike c = subst AgreesAlike c.self.view_is (reached_alike c.self.inside.ends c.self.invariant)
