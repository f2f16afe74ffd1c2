use Rattle.node_engine.proofs.PeerChanges.{asked_does}
use Rattle.node_engine.proofs.node_state.NodeState.peer_was_asked.Goals as goal

pub returns : goal.returns
returns c = asked_does c.args.next c.args.addr _ _ _ _ _ c.self.view_is c.asked.ensures
