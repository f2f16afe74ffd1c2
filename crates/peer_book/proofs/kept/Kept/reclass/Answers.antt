use Rattle.std.proofs.Common.{◌≡◌, List, length, set, ap, sym, subst, ◌∙◌, is_some, arith}
use Rattle.std.proofs.lemmas.List.{length-map}
use Rattle.net_base.specs.declared.peer.Peer.{Peer}
use Rattle.peer_book.specs.Book.{with_peer, without_peer, listed_at}
use Rattle.peer_book.specs.Tallies.{tally_of}
use Rattle.peer_book.proofs.Changing.{InOrder-with_peer, listed-amended, tally-with_peer}
use Rattle.peer_book.proofs.Counting.{tally-without}
use Rattle.peer_book.proofs.Listing.{address_of, InOrder}
use Rattle.peer_book.proofs.Places.{place-inside, set-place, replaced}
use Rattle.peer_book.proofs.kept.Kept.reclass.Goals as goal

pub leave-requires : goal.leave-requires
leave-requires c =
    let peers : List Peer = c.args.self.now.peers in (
      tally_of (without_peer c.args.old.addr peers),
      c.requires.kept.counted ∙ tally-without c.args.old.addr c.args.old peers c.requires.kept.ordered c.requires.stands.there,
    )

pub replace-requires : goal.replace-requires
replace-requires c =
    let peers : List Peer = c.args.self.now.peers in
    omega (arith, c.requires.stands.behind, place-inside address_of c.args.old.addr peers c.requires.kept.ordered (ap is_some c.requires.stands.there))

pub returns-clause-peers : goal.returns-clause-peers
returns-clause-peers c =
    let peers : List Peer = c.args.self.now.peers in
    c.replace.ensures.items
    ∙ (ap (λ n. set peers n c.args.new) c.requires.stands.behind
    ∙ (set-place address_of c.args.old.addr c.args.new peers c.requires.kept.ordered (ap is_some c.requires.stands.there)
    ∙ ap (λ a. replaced address_of a c.args.new peers) (sym c.requires.same)))

pub returns-clause-kept : goal.returns-clause-kept
returns-clause-kept c =
    let old : Peer = c.args.old in
    let new : Peer = c.args.new in
    let peers : List Peer = c.args.self.now.peers in
    let kept = c.requires.kept in
    let there = c.requires.stands.there in
    let same = c.requires.same in
    let turned : c.replace.new.self ≡ with_peer new peers = returns-clause-peers c in
    let as_many : length (c.replace.new.self) ≡ length peers = ap length turned ∙ length-map peers _ in
    record {
      ordered = subst InOrder (sym turned) (InOrder-with_peer old new peers kept.ordered there same);
      limited = omega (arith, as_many, kept.limited);
      listed = λ t. kept.listed t
          ∙ (sym (listed-amended old new peers kept.ordered there same t c.requires.listed) ∙ ap (listed_at t) (sym turned));
      roomy = λ t. omega (arith, as_many, kept.roomy t);
      counted = c.enter.ensures
          ∙ (sym (tally-with_peer old new peers kept.ordered there same c.leave.new.self (sym kept.counted ∙ c.leave.ensures)) ∙ ap tally_of (sym turned));
    }
