use Rattle.std.proofs.Common.{sym, ◌∙◌}
use Rattle.peers.proofs.Tellable.{tellable-changed}
use Rattle.peers.proofs.peers.Peers.set_temp.Goals as goal

pub invariant_of-self : goal.invariant_of-self
invariant_of-self c = tellable-changed _ c.in_ok-peer.peer _ _ _ _ _ _ (sym c.get.ensures ∙ c.in_ok-peer.was) c.set_temp.ensures c.self.invariant
