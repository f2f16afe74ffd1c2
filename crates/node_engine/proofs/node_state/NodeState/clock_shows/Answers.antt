use Rattle.std.proofs.Common.{sym, subst}
use Rattle.laws.specs.Sound.{IsOrderly}
use Rattle.laws.proofs.Events.{at_moment-orderly}
use Rattle.node_engine.proofs.node_state.NodeState.clock_shows.Goals as goal

pub fire_all-requires : goal.fire_all-requires
fire_all-requires c = at_moment-orderly c.args.moment _ (subst IsOrderly (sym c.self.view_is) c.requires.orderly)
