use Rattle.std.proofs.Common.{sym, ap, ◌∙◌, slice_get}
use Rattle.peer_book.specs.Order.{found_at}
use Rattle.peer_book.proofs.Places.{find-place}
use Rattle.peer_book.proofs.place.peer_with.Goals as goal

pub returns : goal.returns
returns c =
    c.peer_there.ensures
    ∙ (ap (λ n. found_at (λ p. p.addr) c.args.addr.now (slice_get c.args.peers.now n)) c.place_of_peer.ensures
    ∙ sym (find-place (λ p. p.addr) c.args.addr.now c.args.peers.now c.requires))
