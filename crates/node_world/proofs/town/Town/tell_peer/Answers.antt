use Rattle.node_world.proofs.Sizes.{length-written_peers}
use Rattle.node_world.proofs.town.Town.tell_peer.Goals as goal

pub say-requires-clause-size : goal.say-requires-clause-size
say-requires-clause-size c = rw (c.as_slice.ensures, c.in_ok-message.ensures) (length-written_peers c.some_peer.result)
