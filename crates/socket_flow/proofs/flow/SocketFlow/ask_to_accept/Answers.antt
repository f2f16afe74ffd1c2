use Rattle.std.proofs.Common.{refl}
use Rattle.socket_flow.proofs.Losing.{then_at_rest}
use Rattle.socket_flow.proofs.flow.SocketFlow.ask_to_accept.Goals as goal

pub returns-then-not-branch-clause-loses : goal.returns-then-not-branch-clause-loses
returns-then-not-branch-clause-loses c = then_at_rest _ _ _ c.in_ok-lose_oldest_stranger.ensures.loses refl refl refl refl refl refl

pub returns-clause-loses : goal.returns-clause-loses
returns-clause-loses c = then_at_rest _ _ _ c.in_ok-lose_oldest_stranger.ensures.loses refl refl refl refl refl refl
