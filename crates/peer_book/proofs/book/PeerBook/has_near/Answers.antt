use Rattle.std.proofs.Common.{List, is_some, slice_get, sym, ap, ◌∙◌}
use Rattle.net_base.specs.declared.peer.Peer.{Peer}
use Rattle.peer_book.specs.Book.{peer_at}
use Rattle.peer_book.specs.Order.{found_at}
use Rattle.peer_book.proofs.Places.{find-place}
use Rattle.peer_book.proofs.book.PeerBook.has_near.Goals as goal

pub returns : goal.returns
returns c =
    let peers : List Peer = c.self.inside.kept.peers in
    let addr = c.args.addr in
    c.is_some.ensures
    ∙ ap is_some (c.peer_there.ensures
    ∙ (ap (λ n. found_at (λ p. p.addr) addr (slice_get peers n)) c.place_of_peer_near-place.ensures
    ∙ (sym (find-place (λ p. p.addr) addr peers c.self.invariant.ordered)
    ∙ ap (peer_at addr) c.self.view_is)))
