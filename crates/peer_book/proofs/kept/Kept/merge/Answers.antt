use Rattle.std.proofs.Common.{◌≡◌, false, cond, List, length, ap, sym, subst, ◌∙◌, refl, arith}
use Rattle.net_base.specs.declared.address.Addr.{Addr}
use Rattle.net_base.specs.declared.peer.Peer.{Peer}
use Rattle.net_base.specs.declared.peer.Temp.{Temp}
use Rattle.net_base.specs.declared.peer.Temp.TheVariants.{Cold, Warm, Hot}
use Rattle.peer_book.specs.Book.{listed_at, same_temp}
use Rattle.peer_book.specs.Newcomers.{with_all_new}
use Rattle.peer_book.specs.Row.{addresses_in}
use Rattle.peer_book.specs.Rows.{row_of}
use Rattle.peer_book.specs.Tallies.{tally_of, more_cold}
use Rattle.peer_book.proofs.ComingIn.{InOrder-with_all, length-with_all}
use Rattle.peer_book.proofs.Joined.{listed-with_all, tally-with_all}
use Rattle.peer_book.proofs.Listing.{InOrder}
use Rattle.peer_book.proofs.kept.Kept.merge.Goals as goal

by_temp : (t : Temp) (cold old : List Addr) (all : List Peer) → cold ≡ listed_at Cold all → (same_temp Cold t ≡ false → old ≡ listed_at t all) →
    cond (same_temp Cold t) cold old ≡ listed_at t all
by_temp Cold cold old all first other = first
by_temp Warm cold old all first other = other refl
by_temp Hot cold old all first other = other refl

pub returns-clause-kept : goal.returns-clause-kept
returns-clause-kept c =
    let big = c.args.big in
    let addrs : List Addr = c.args.addrs.now in
    let peers : List Peer = c.args.self.now.peers in
    let kept = c.requires.kept in
    let new = c.requires.new in
    let all : List Peer = c.in_ok-peers.peers in
    let made : all ≡ c.in_ok-all.all.items = c.in_ok-peers.ensures ∙ c.deref-2.ensures.value in
    let joined : all ≡ with_all_new big addrs peers = made
    ∙ (c.in_ok-all.ensures ∙ ap (with_all_new big addrs) (c.deref.ensures.value ∙ c.in_ok-to_vec.ensures)) in
    let as_many = length-with_all big addrs peers in
    let cold : addresses_in c.in_ok-cold.cold ≡ listed_at Cold all = c.in_ok-cold.ensures
    ∙ (c.deref-4.ensures.value ∙ (c.in_ok-row_at.ensures ∙ ap (listed_at Cold) (c.deref-3.ensures.value ∙ sym made))) in
    let other_row : (t : Temp) → same_temp Cold t ≡ false → row_of t c.args.self.now.rows ≡ listed_at t all =
    λ t other. kept.listed t
    ∙ (sym (listed-with_all big t addrs peers other kept.ordered new.rising new.absent) ∙ ap (listed_at t) (sym joined)) in
    record {
      ordered = subst InOrder (sym joined) (InOrder-with_all big addrs peers kept.ordered new.rising new.absent);
      limited = omega (arith, ap length joined, as_many, new.limited);
      listed = λ t. c.in_ok-renew_cold.ensures.lists t ∙ by_temp t _ _ all cold (other_row t);
      roomy = λ t. omega (arith, ap length made, c.len.ensures, c.in_ok-renew_cold.ensures.made t);
      counted = c.enter_cold.ensures
          ∙ (ap (more_cold big (length addrs)) kept.counted ∙ (sym (tally-with_all big addrs peers) ∙ ap tally_of (sym joined)));
    }
