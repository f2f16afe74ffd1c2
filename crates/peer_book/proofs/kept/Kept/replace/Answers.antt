use Rattle.std.proofs.Common.{◌≡◌, List, length, set, ap, sym, subst, ◌∙◌, is_some, arith}
use Rattle.std.proofs.lemmas.List.{length-map}
use Rattle.net_base.specs.declared.peer.Peer.{Peer}
use Rattle.peer_book.specs.Addresses.{has_address}
use Rattle.peer_book.specs.Book.{with_peer, without_peer, listed_at}
use Rattle.peer_book.specs.Order.{IsRising}
use Rattle.peer_book.specs.Rows.{moved}
use Rattle.peer_book.specs.Tallies.{tally_of}
use Rattle.peer_book.proofs.Changing.{InOrder-with_peer, listed-turned, tally-with_peer}
use Rattle.peer_book.proofs.Counting.{tally-without}
use Rattle.peer_book.proofs.Listing.{address_of, InOrder, listed-rises, listed-has, listed-below, listed-within}
use Rattle.peer_book.proofs.Places.{place-inside, set-place, replaced}
use Rattle.peer_book.proofs.kept.Kept.replace.Goals as goal

pub turn-requires-clause-rising : goal.turn-requires-clause-rising
turn-requires-clause-rising c = λ temp.
    subst (IsRising (λ a. a)) (sym (c.requires.kept.listed temp)) (listed-rises temp c.args.self.now.peers c.requires.kept.ordered)

pub turn-requires-clause-there : goal.turn-requires-clause-there
turn-requires-clause-there c =
    ap (has_address c.args.old.addr) (c.requires.kept.listed c.args.old.temp)
    ∙ listed-has c.args.old.addr c.args.old c.args.self.now.peers c.requires.stands.there

pub turn-requires-clause-roomy : goal.turn-requires-clause-roomy
turn-requires-clause-roomy c =
    let temp = c.args.old.temp in
    let peers : List Peer = c.args.self.now.peers in
    omega (arith, ap length (c.requires.kept.listed temp), listed-within temp peers, c.requires.kept.roomy temp)

pub turn-requires-clause-room : goal.turn-requires-clause-room
turn-requires-clause-room c = λ turns.
    let temp = c.args.new.temp in
    omega (
      arith,
      ap length (c.requires.kept.listed temp),
      c.requires.kept.roomy temp,
      listed-below temp c.args.old.addr c.args.old c.args.self.now.peers c.requires.kept.ordered c.requires.stands.there turns,
    )

pub leave-requires : goal.leave-requires
leave-requires c =
    let peers : List Peer = c.args.self.now.peers in (
      tally_of (without_peer c.args.old.addr peers),
      c.requires.kept.counted ∙ tally-without c.args.old.addr c.args.old peers c.requires.kept.ordered c.requires.stands.there,
    )

pub replace-requires : goal.replace-requires
replace-requires c =
    let peers : List Peer = c.args.self.now.peers in
    omega (arith, c.requires.stands.behind, place-inside address_of c.args.old.addr peers c.requires.kept.ordered (ap is_some c.requires.stands.there))

pub returns-clause-peers : goal.returns-clause-peers
returns-clause-peers c =
    let peers : List Peer = c.args.self.now.peers in
    c.replace.ensures.items
    ∙ (ap (λ n. set peers n c.args.new) c.requires.stands.behind
    ∙ (set-place address_of c.args.old.addr c.args.new peers c.requires.kept.ordered (ap is_some c.requires.stands.there)
    ∙ ap (λ a. replaced address_of a c.args.new peers) (sym c.requires.same)))

pub returns-clause-kept : goal.returns-clause-kept
returns-clause-kept c =
    let old : Peer = c.args.old in
    let new : Peer = c.args.new in
    let peers : List Peer = c.args.self.now.peers in
    let kept = c.requires.kept in
    let there = c.requires.stands.there in
    let same = c.requires.same in
    let turned : c.replace.new.self ≡ with_peer new peers = returns-clause-peers c in
    let as_many : length (c.replace.new.self) ≡ length peers = ap length turned ∙ length-map peers _ in
    record {
      ordered = subst InOrder (sym turned) (InOrder-with_peer old new peers kept.ordered there same);
      limited = omega (arith, as_many, kept.limited);
      listed = λ t. c.turn.ensures.lists t
          ∙ (ap (moved old.temp new.temp old.addr t) (kept.listed t)
          ∙ (sym (listed-turned old new peers kept.ordered there same t) ∙ ap (listed_at t) (sym turned)));
      roomy = λ t. omega (arith, as_many, kept.roomy t, c.turn.ensures.kept t);
      counted = c.enter.ensures
          ∙ (sym (tally-with_peer old new peers kept.ordered there same c.leave.new.self (sym kept.counted ∙ c.leave.ensures)) ∙ ap tally_of (sym turned));
    }
