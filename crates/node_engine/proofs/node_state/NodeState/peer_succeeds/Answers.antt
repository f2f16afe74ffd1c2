use Rattle.std.proofs.Common.{refl}
use Rattle.std.proofs.lemmas.Result.{on_ok_weaker}
use Rattle.net_base.specs.declared.peer.Temp.TheVariants.{Warm}
use Rattle.machine.specs.Peers.{peer_succeeds}
use Rattle.node_engine.proofs.PeerChanges.{peer_does}
use Rattle.node_engine.proofs.node_state.NodeState.peer_succeeds.Goals as goal

pub returns : goal.returns
returns c = on_ok_weaker c.tell_temp.result
    (peer_does c.args.addr (λ p. record p { temp = Warm; failures = 0 }) (peer_succeeds c.args.addr) _ _ _ _ _ _ _ _ refl
    c.self.view_is c.succeed-temp.ensures.peers c.succeed-temp.ensures.told)
    c.tell_temp.ensures
