use Rattle.std.proofs.Common.{◌≡◌, ap, sym, subst, ◌∙◌, arith, Bool, not, List, length}
use Rattle.net_base.specs.declared.address.Addr.{Addr}
use Rattle.net_base.specs.declared.peer.Peer.{Peer}
use Rattle.peer_book.specs.Addresses.{has_address}
use Rattle.peer_book.specs.Book.{listed_at}
use Rattle.peer_book.specs.Leaving.{others_than}
use Rattle.peer_book.specs.Tallies.{tally_of}
use Rattle.peer_book.proofs.Edits.{IsRising-filter, filter-within}
use Rattle.peer_book.proofs.Listing.{address_of, InOrder}
use Rattle.peer_book.proofs.kept.Kept.take_all_out.Goals as goal

abbrev is_left : List Addr → Peer → Bool
is_left addrs p = not (has_address p.addr addrs)

pub of-tally-requires : goal.of-tally-requires
of-tally-requires c =
    let peers : List Peer = c.args.self.now.peers in
    let left = c.deref-4.ensures.value ∙ (c.in_ok-left.ensures ∙ ap (others_than c.args.addrs.now) (c.deref.ensures.value ∙ c.in_ok-to_vec.ensures)) in
    omega (arith, ap length left, filter-within (is_left c.args.addrs.now) peers, c.requires.kept.limited)

pub returns-clause-kept : goal.returns-clause-kept
returns-clause-kept c =
    let peers : List Peer = c.args.self.now.peers in
    let now : List Peer = c.in_ok-peers.peers in
    let made : now ≡ c.in_ok-left.left.items = c.in_ok-peers.ensures ∙ c.deref-2.ensures.value in
    let left : now ≡ others_than c.args.addrs.now peers = made
    ∙ (c.in_ok-left.ensures ∙ ap (others_than c.args.addrs.now) (c.deref.ensures.value ∙ c.in_ok-to_vec.ensures)) in
    record {
      ordered = subst InOrder (sym left) (IsRising-filter address_of (is_left c.args.addrs.now) peers c.requires.kept.ordered);
      limited = omega (arith, ap length left, filter-within (is_left c.args.addrs.now) peers, c.requires.kept.limited);
      listed = λ t. c.in_ok-rows.ensures.lists t ∙ ap (listed_at t) (c.deref-3.ensures.value ∙ sym made);
      roomy = λ t. omega (arith, ap length c.deref-3.ensures.value, ap length made, c.in_ok-rows.ensures.made t);
      counted = c.of-tally.ensures ∙ ap tally_of (c.deref-4.ensures.value ∙ sym made);
    }
