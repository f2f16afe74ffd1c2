use Rattle.std.proofs.Common.{refl}
use Rattle.socket_flow.proofs.Losing.{kept, lost, and_then, then_at_rest}
use Rattle.socket_flow.proofs.flow.SocketFlow.lacks_room_to_dial.Goals as goal

pub returns-then-branch-clause-made : goal.returns-then-branch-clause-made
returns-then-branch-clause-made c = then_at_rest _ _ _ (and_then _ _ _ (kept _ _ c.lacks_room.ensures.made) c.in_ok-lose_oldest_stranger.ensures.loses) refl refl refl refl refl refl

pub returns-clause-made : goal.returns-clause-made
returns-clause-made c = and_then _ _ _ (and_then _ _ _ (kept _ _ c.lacks_room.ensures.made) c.in_ok-lose_oldest_stranger.ensures.loses) (lost _ _ _ c.in_ok-lose.ensures.loses)
