use Rattle.std.proofs.Common.{◌≡◌, ◌∙◌, sym, ap, subst, slice_get, Some, IsSome, List}
use Rattle.std.specs.List.{prefix_len}
use Rattle.net_base.specs.Address.{address_below}
use Rattle.net_base.specs.declared.peer.Peer.{Peer}
use Rattle.peer_book.specs.Book.{peer_at}
use Rattle.peer_book.specs.Order.{found_at}
use Rattle.peer_book.proofs.Listing.{found_address}
use Rattle.peer_book.proofs.Places.{find-place}
use Rattle.peer_book.proofs.place.place_and_peer.Goals as goal

found : (c : goal.After-peer_there) → c.peer_there.result ≡ peer_at c.args.addr.now c.args.peers.now
found c =
    c.peer_there.ensures
    ∙ (ap (λ n. found_at (λ p. p.addr) c.args.addr.now (slice_get c.args.peers.now n)) c.place_of_peer_near-place.ensures
    ∙ sym (find-place (λ p. p.addr) c.args.addr.now c.args.peers.now c.requires.rising))

pub unwrap-peer-requires : goal.unwrap-peer-requires
unwrap-peer-requires c = subst IsSome (sym (found c)) c.requires.there

pub returns-clause-peer : goal.returns-clause-peer
returns-clause-peer c = sym (found c.before) ∙ c.unwrap-peer.ensures

pub returns-clause-here : goal.returns-clause-here
returns-clause-here c = found_address c.args.addr.now c.unwrap-peer.result c.args.peers.now (returns-clause-peer c)

pub returns-clause-stands : goal.returns-clause-stands
returns-clause-stands c =
    let peers : List Peer = c.args.peers.now in
    let peer : Peer = c.unwrap-peer.result in
    let is : peer_at c.args.addr.now peers ≡ Some peer = returns-clause-peer c in
    let here : c.args.addr.now ≡ peer.addr = sym (returns-clause-here c) in
    record {
      there = subst (λ a. peer_at a peers ≡ Some peer) here is;
      behind = c.place_of_peer_near-place.ensures ∙ ap (λ a. prefix_len (λ p. address_below p.addr a) peers) here;
    }
