use Rattle.std.proofs.Common.{◌≡◌, ap, sym}
use Rattle.std.proofs.lemmas.Result.{on_ok_weaker}
use Rattle.net_base.specs.Peer.{failed_peer}
use Rattle.machine.specs.Peers.{peer_fails, peer_changes}
use Rattle.node_engine.specs.State.{machine_of}
use Rattle.node_engine.proofs.PeerChanges.{peer_does}
use Rattle.node_engine.proofs.node_state.NodeState.peer_fails.Goals as goal

pub returns : goal.returns
returns c =
    let addr = c.args.addr in
    let now = c.self.inside.moment in
    let first = machine_of now c.self.inside.peers c.self.inside.connections in
    let base : c.settings.result.now.backoff ≡ c.self.inside.connections.settings.backoff = ap (λ s. s.backoff) c.settings.ensures.value in
    on_ok_weaker c.tell_temp.result
    (peer_does addr (failed_peer now c.settings.result.now.backoff) (peer_fails addr) now _ _ _ _ _ _ _
    (ap (λ b. peer_changes addr (failed_peer now b) first) (sym base)) c.self.view_is c.fail-temp.ensures.peers c.fail-temp.ensures.told)
    c.tell_temp.ensures
