use Rattle.std.proofs.Common.{refl}
use Rattle.socket_flow.proofs.Losing.{tells_and_loses}
use Rattle.socket_flow.proofs.flow.SocketFlow.begin_round.Goals as goal

pub returns-clause-made : goal.returns-clause-made
returns-clause-made c = tells_and_loses _ _ _ _ _ c.reach.ensures.sockets c.in_ok-reach.ensures.events c.in_ok-lose_late.ensures.loses refl refl refl refl refl refl
