use Rattle.std.proofs.Common.{◌≡◌, List, length, cond, ap, sym, subst, ◌∙◌, is_some, arith}
use Rattle.std.specs.List.{insert}
use Rattle.std.proofs.lemmas.List.Sums.{prefix_len-le-length}
use Rattle.net_base.specs.declared.peer.Peer.{Peer}
use Rattle.peer_book.specs.Addresses.{with_address}
use Rattle.peer_book.specs.Book.{with_new, listed_at, same_temp}
use Rattle.peer_book.specs.Order.{IsRising}
use Rattle.peer_book.specs.Tallies.{tally_of, tallied}
use Rattle.peer_book.proofs.Counting.{tally-with_new}
use Rattle.peer_book.proofs.Edits.{IsRising-put_in, length-put_in}
use Rattle.peer_book.proofs.Listing.{address_of, InOrder, listed-rises, listed-within, listed-with_new}
use Rattle.peer_book.proofs.Places.{insert-place}
use Rattle.peer_book.proofs.Rising.{is_under}
use Rattle.peer_book.proofs.kept.Kept.put_at.Goals as goal

pub insert-requires : goal.insert-requires
insert-requires c =
    omega (arith, c.requires.place, prefix_len-le-length (is_under address_of c.args.peer.addr) c.args.self.now.peers)

pub insert-requires-2-clause-rising : goal.insert-requires-2-clause-rising
insert-requires-2-clause-rising c =
    let temp = c.args.peer.temp in
    let kept = c.requires.kept in
    subst (IsRising (λ a. a)) (sym (c.reserve.ensures.lists temp ∙ kept.listed temp)) (listed-rises temp c.args.self.now.peers kept.ordered)

pub insert-requires-2-clause-room : goal.insert-requires-2-clause-room
insert-requires-2-clause-room c =
    let temp = c.args.peer.temp in
    omega (
      arith,
      ap length (c.reserve.ensures.lists temp ∙ c.requires.kept.listed temp),
      listed-within temp c.args.self.now.peers,
      c.in_ok-reserve.ensures.made temp,
      c.len.ensures,
    )

pub returns-clause-put : goal.returns-clause-put
returns-clause-put c =
    let peers : List Peer = c.args.self.now.peers in
    c.in_ok-insert.ensures.ok
    ∙ (ap (λ n. insert peers n c.args.peer) c.requires.place ∙ insert-place address_of c.args.peer peers)

pub returns-clause-kept : goal.returns-clause-kept
returns-clause-kept c =
    let peer : Peer = c.args.peer in
    let peers : List Peer = c.args.self.now.peers in
    let kept = c.requires.kept in
    let new : c.insert.new.self ≡ with_new peer peers = returns-clause-put c in
    record {
      ordered = subst InOrder (sym new) (IsRising-put_in address_of peer peers kept.ordered (ap is_some c.requires.absent));
      limited = omega (arith, ap length new, length-put_in address_of peer peers, c.requires.limited);
      listed = λ t. c.insert-2.ensures.lists t
          ∙ (ap (λ l. cond (same_temp peer.temp t) (with_address peer.addr l) l) (c.reserve.ensures.lists t ∙ kept.listed t)
          ∙ (sym (listed-with_new t peer peers kept.ordered) ∙ ap (listed_at t) (sym new)));
      roomy = λ t. omega (arith, ap length new, length-put_in address_of peer peers, c.len.ensures, c.in_ok-reserve.ensures.made t, c.insert-2.ensures.kept t);
      counted = c.enter.ensures ∙ (ap (tallied peer) kept.counted ∙ (sym (tally-with_new peer peers) ∙ ap tally_of (sym new)));
    }
