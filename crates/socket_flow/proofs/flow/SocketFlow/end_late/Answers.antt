use Rattle.socket_flow.proofs.Losing.{lost}
use Rattle.socket_flow.proofs.flow.SocketFlow.end_late.Goals as goal

pub returns-clause-loses : goal.returns-clause-loses
returns-clause-loses c = lost _ _ _ c.in_ok-lose.ensures.loses
