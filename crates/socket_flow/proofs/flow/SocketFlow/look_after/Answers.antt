use Rattle.socket_flow.proofs.Losing.{kept, lost, and_then}
use Rattle.socket_flow.proofs.flow.SocketFlow.look_after.Goals as goal

pub returns-clause-loses : goal.returns-clause-loses
returns-clause-loses c = and_then _ _ _ (kept _ _ c.unwatch.ensures.keeps) (lost _ _ _ c.in_ok-lose.ensures.loses)
