use Rattle.std.proofs.Common.{refl}
use Rattle.std.proofs.lemmas.Result.{on_ok_weaker}
use Rattle.machine.specs.Peers.{peer_becomes}
use Rattle.node_engine.proofs.PeerChanges.{peer_does}
use Rattle.node_engine.proofs.node_state.NodeState.peer_becomes.Goals as goal

pub returns : goal.returns
returns c = on_ok_weaker c.tell_temp.result
    (peer_does c.args.addr (λ p. record p { temp = c.args.temp }) (peer_becomes c.args.temp c.args.addr) _ _ _ _ _ _ _ _ refl
    c.self.view_is c.set_temp-told.ensures.peers c.set_temp-told.ensures.told)
    c.tell_temp.ensures
