use Rattle.std.proofs.Common.{◌≡◌, true, sym, ap, ◌∙◌}
use Rattle.std.specs.Prelude.{is_some}
use Rattle.peer_book.specs.Book.{peer_at}
use Rattle.peers.proofs.Tellable.{tellable-there}
use Rattle.peers.proofs.peers.Peers.asked.Goals as goal

pub invariant_of-self : goal.invariant_of-self
invariant_of-self c =
    let there : is_some (peer_at c.args.addr c.self.inside.book) ≡ true = sym (c.is_some.ensures ∙ ap is_some c.get.ensures) ∙ c.if-is_some.true in
    tellable-there _ _ _ _ _ _ _ there c.asked.ensures c.self.invariant
