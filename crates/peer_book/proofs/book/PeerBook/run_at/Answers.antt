use Rattle.std.proofs.Common.{◌∙◌, sym, ap, slice_get, List}
use Rattle.net_base.specs.declared.peer.Peer.{Peer}
use Rattle.peer_book.specs.Book.{peer_at}
use Rattle.peer_book.specs.Order.{found_at}
use Rattle.peer_book.proofs.Parts.{first_of_run}
use Rattle.peer_book.proofs.Places.{find-place}
use Rattle.peer_book.proofs.book.PeerBook.run_at.Goals as goal

pub returns-clause-first : goal.returns-clause-first
returns-clause-first c =
    let peers : List Peer = c.self.inside.kept.peers in
    let addr = c.args.addr in
    ap (found_at (λ p. p.addr) addr) (first_of_run peers c.run_from.result.now c.place_of_peer.result c.run_from.ensures.front c.run_from.ensures.some)
    ∙ (ap (λ n. found_at (λ p. p.addr) addr (slice_get peers n)) c.place_of_peer.ensures
    ∙ (sym (find-place (λ p. p.addr) addr peers c.self.invariant.ordered)
    ∙ ap (peer_at addr) c.self.view_is))
