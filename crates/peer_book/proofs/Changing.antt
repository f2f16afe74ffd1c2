-- The book, after one peer turned into another of its address.
use Rattle.std.proofs.Common.{◌≡◌, List, Some, refl, sym, ap, subst, ◌∙◌, is_some}
use Rattle.net_base.specs.declared.peer.Peer.{Peer}
use Rattle.net_base.specs.declared.peer.Temp.{Temp}
use Rattle.peer_book.specs.Book.{peer_at, with_peer, without_peer, with_new, listed_at}
use Rattle.peer_book.specs.Rows.{moved}
use Rattle.peer_book.specs.Tallies.{tally_of, tallied, tallied_by}
use Rattle.peer_book.specs.declared.tally.Tally.{Tally}
use Rattle.peer_book.proofs.Counting.{tally-without, tally-with_new, tallied-same}
use Rattle.peer_book.proofs.Edits.{IsRising-filter, IsRising-put_in, find-taken_out}
use Rattle.peer_book.proofs.Listing.{address_of, InOrder, listed-with_peer, same_temp-itself, with_peer-two_steps}

module _ (old new : Peer) (peers : List Peer) (rises : InOrder peers) (there : peer_at old.addr peers ≡ Some old) (same : new.addr ≡ old.addr) where
  found : peer_at new.addr peers ≡ Some old
  found = subst (λ a. peer_at a peers ≡ Some old) (sym same) there

  steps : with_peer new peers ≡ with_new new (without_peer new.addr peers)
  steps = with_peer-two_steps old new peers rises found

  pub InOrder-with_peer : InOrder (with_peer new peers)
  InOrder-with_peer =
      let rest : List Peer = without_peer new.addr peers in
      subst InOrder (sym steps)
      (IsRising-put_in address_of new rest (IsRising-filter address_of _ peers rises) (ap is_some (find-taken_out address_of new.addr peers)))

  -- what was counted beside the old one is counted beside the new one
  pub tally-with_peer : (beside : Tally) → tally_of peers ≡ tallied old beside → tally_of (with_peer new peers) ≡ tallied new beside
  tally-with_peer beside e =
      let rest : List Peer = without_peer new.addr peers in
      let left = tallied-same old (tally_of rest) beside (sym (tally-without new.addr old peers rises found) ∙ e) in
      ap tally_of steps ∙ (tally-with_new new rest ∙ ap (tallied new) left)

  pub tally-amended : new.temp ≡ old.temp → new.big ≡ old.big → tally_of (with_peer new peers) ≡ tally_of peers
  tally-amended temp big =
      let beside = tally_of (without_peer new.addr peers) in
      let e = tally-without new.addr old peers rises found in
      tally-with_peer beside e ∙ (ap (λ b. tallied_by b new.temp beside) big ∙ (ap (λ t. tallied_by old.big t beside) temp ∙ sym e))

  pub listed-turned : (temp : Temp) → listed_at temp (with_peer new peers) ≡ moved old.temp new.temp old.addr temp (listed_at temp peers)
  listed-turned temp =
      listed-with_peer temp old new peers rises found same ∙ ap (λ a. moved old.temp new.temp a temp (listed_at temp peers)) same

  pub listed-amended : (temp : Temp) → new.temp ≡ old.temp → listed_at temp (with_peer new peers) ≡ listed_at temp peers
  listed-amended temp e =
      listed-turned temp ∙ (ap (λ t. moved old.temp t old.addr temp (listed_at temp peers)) e ∙ rw (same_temp-itself old.temp) refl)
