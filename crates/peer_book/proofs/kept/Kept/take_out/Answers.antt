use Rattle.std.proofs.Common.{◌≡◌, List, length, cond, ap, sym, subst, ◌∙◌, is_some, arith}
use Rattle.std.specs.List.{remove}
use Rattle.net_base.specs.declared.peer.Peer.{Peer}
use Rattle.peer_book.specs.Addresses.{without_address, has_address}
use Rattle.peer_book.specs.Book.{without_peer, listed_at, same_temp}
use Rattle.peer_book.specs.Order.{IsRising}
use Rattle.peer_book.specs.Tallies.{tally_of, tallied}
use Rattle.peer_book.proofs.Counting.{tally-without, tallied-same}
use Rattle.peer_book.proofs.Edits.{IsRising-filter, length-taken_out}
use Rattle.peer_book.proofs.Listing.{address_of, InOrder, listed-rises, listed-has, listed-within, listed-without}
use Rattle.peer_book.proofs.Places.{place-inside, remove-place}
use Rattle.peer_book.proofs.kept.Kept.take_out.Goals as goal

pub remove-requires-clause-rising : goal.remove-requires-clause-rising
remove-requires-clause-rising c =
    let kept = c.requires.kept in
    subst (IsRising (λ a. a)) (sym (kept.listed c.args.peer.temp)) (listed-rises c.args.peer.temp c.args.self.now.peers kept.ordered)

pub remove-requires-clause-room : goal.remove-requires-clause-room
remove-requires-clause-room c =
    let temp = c.args.peer.temp in
    let peers : List Peer = c.args.self.now.peers in
    omega (arith, ap length (c.requires.kept.listed temp), listed-within temp peers, c.requires.kept.roomy temp)

pub remove-requires-clause-there : goal.remove-requires-clause-there
remove-requires-clause-there c =
    ap (has_address c.args.peer.addr) (c.requires.kept.listed c.args.peer.temp)
    ∙ listed-has c.args.peer.addr c.args.peer c.args.self.now.peers c.requires.stands.there

pub leave-requires : goal.leave-requires
leave-requires c =
    let peers : List Peer = c.args.self.now.peers in (
      tally_of (without_peer c.args.peer.addr peers),
      c.requires.kept.counted ∙ tally-without c.args.peer.addr c.args.peer peers c.requires.kept.ordered c.requires.stands.there,
    )

pub remove-requires-2 : goal.remove-requires-2
remove-requires-2 c =
    let peers : List Peer = c.args.self.now.peers in
    omega (arith, c.requires.stands.behind, place-inside address_of c.args.peer.addr peers c.requires.kept.ordered (ap is_some c.requires.stands.there))

pub returns-clause-peers : goal.returns-clause-peers
returns-clause-peers c =
    let peers : List Peer = c.args.self.now.peers in
    c.remove-2.ensures.items
    ∙ (ap (remove peers) c.requires.stands.behind ∙ remove-place address_of c.args.peer.addr peers c.requires.kept.ordered (ap is_some c.requires.stands.there))

pub returns-clause-kept : goal.returns-clause-kept
returns-clause-kept c =
    let peer : Peer = c.args.peer in
    let peers : List Peer = c.args.self.now.peers in
    let kept = c.requires.kept in
    let left : c.remove-2.new.self ≡ without_peer c.args.peer.addr peers = returns-clause-peers c in
    let fewer = length-taken_out address_of c.args.peer.addr peer peers kept.ordered c.requires.stands.there in
    record {
      ordered = subst InOrder (sym left) (IsRising-filter address_of _ peers kept.ordered);
      limited = omega (arith, ap length left, fewer, kept.limited);
      listed = λ t. c.remove.ensures.lists t
          ∙ (ap (λ l. cond (same_temp peer.temp t) (without_address c.args.peer.addr l) l) (kept.listed t)
          ∙ (sym (listed-without t c.args.peer.addr peer peers kept.ordered c.requires.stands.there) ∙ ap (listed_at t) (sym left)));
      roomy = λ t. omega (arith, ap length left, fewer, kept.roomy t, c.remove.ensures.kept t);
      counted = tallied-same peer _ _ (sym c.leave.ensures ∙ (kept.counted
          ∙ (tally-without c.args.peer.addr peer peers kept.ordered c.requires.stands.there ∙ ap (λ l. tallied peer (tally_of l)) (sym left))));
    }
