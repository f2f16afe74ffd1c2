-- The peers with a new one at each of some addresses, made in one go through both.
use Rattle.std.proofs.Common.{◌≡◌, ℕ, zero, suc, Bool, true, false, List, [], ◌∷◌, ◌++◌, is_some, take, drop, refl, sym, ap, ◌∙◌, append_assoc, inl, inr}
use Rattle.std.specs.List.{AllByRecursion}
use Rattle.std.proofs.lemmas.Bool.{cases_Bool, true≢false}
use Rattle.net_base.specs.Address.{same_address}
use Rattle.net_base.specs.declared.address.Addr.{Addr}
use Rattle.net_base.specs.declared.peer.Peer.{Peer}
use Rattle.net_base.proofs.AddressOrder.{address_connected}
use Rattle.peer_book.specs.Book.{peer_at, with_new, new_peer}
use Rattle.peer_book.specs.Newcomers.{with_all_new, AreNew}
use Rattle.peer_book.specs.Order.{IsRising}
use Rattle.peer_book.proofs.Edits.{AllAbove-put_in}
use Rattle.peer_book.proofs.Listing.{address_of, InOrder}
use Rattle.peer_book.proofs.Places.{place, one_more, above_when_not_below, put_in-above}
use Rattle.peer_book.proofs.Rising.{AllAbove, above_lower, is_under}

abbrev pub AreAbsent : List Addr → List Peer → Type 0
AreAbsent addrs peers = AllByRecursion (λ a. is_some (peer_at a peers) ≡ false) addrs

-- ---- what is left after some peers

InOrder-drop : (n : ℕ) (peers : List Peer) → InOrder peers → InOrder (drop n peers)
InOrder-drop zero peers rises = rises
InOrder-drop (suc n) [] rises = tt
InOrder-drop (suc n) (p ∷ peers) rises = InOrder-drop n peers rises.1

absent_parts : (addr : Addr) (p : Peer) (peers : List Peer) → is_some (peer_at addr (p ∷ peers)) ≡ false →
    (same_address p.addr addr ≡ false) × (is_some (peer_at addr peers) ≡ false)
absent_parts addr p peers absent = elim (cases_Bool (same_address p.addr addr)) [
  | inl same ↦ absurd (true≢false (rw same at absent))
  | inr other ↦ (other, rw other at absent)
]

absent-drop : (addr : Addr) (n : ℕ) (peers : List Peer) → is_some (peer_at addr peers) ≡ false → is_some (peer_at addr (drop n peers)) ≡ false
absent-drop addr zero peers absent = absent
absent-drop addr (suc n) [] absent = refl
absent-drop addr (suc n) (p ∷ peers) absent = absent-drop addr n peers (absent_parts addr p peers absent).1

AreAbsent-drop : (addrs : List Addr) (n : ℕ) (peers : List Peer) → AreAbsent addrs peers → AreAbsent addrs (drop n peers)
AreAbsent-drop [] n peers absent = tt
AreAbsent-drop (addr ∷ addrs) n peers absent = (absent-drop addr n peers absent.0, AreAbsent-drop addrs n peers absent.1)

-- ---- the next new one

module _ (big : Bool) where
  all_above : (addr : Addr) (addrs : List Addr) (peers : List Peer) → AllAbove (λ a. a) addr addrs → AllAbove address_of addr peers →
      AllAbove address_of addr (with_all_new big addrs peers)
  all_above addr [] peers above all = all
  all_above addr (a ∷ addrs) peers above all =
      AllAbove-put_in address_of addr (new_peer big a) (with_all_new big addrs peers) above.0 (all_above addr addrs peers above.1 all)

  -- a peer below all new ones stays the first
  stays_first : (p : Peer) (addrs : List Addr) (peers : List Peer) → AllAbove (λ a. a) p.addr addrs →
      with_all_new big addrs (p ∷ peers) ≡ p ∷ with_all_new big addrs peers
  stays_first p [] peers above = refl
  stays_first p (a ∷ addrs) peers above = ap (with_new (new_peer big a)) (stays_first p addrs peers above.1) ∙ rw above.0 refl

  comes_first : (addr : Addr) (addrs : List Addr) (peers : List Peer) → AllAbove (λ a. a) addr addrs → AllAbove address_of addr peers →
      with_all_new big (addr ∷ addrs) peers ≡ new_peer big addr ∷ with_all_new big addrs peers
  comes_first addr addrs peers above all =
      put_in-above address_of (new_peer big addr) (with_all_new big addrs peers) (all_above addr addrs peers above all)

  next_new : (addr : Addr) (addrs : List Addr) (peers : List Peer) → AllAbove (λ a. a) addr addrs → InOrder peers → is_some (peer_at addr peers) ≡ false →
      with_all_new big (addr ∷ addrs) peers
      ≡ take (place address_of addr peers) peers ++ new_peer big addr ∷ with_all_new big addrs (drop (place address_of addr peers) peers)
  next_new addr addrs [] above rises absent = comes_first addr addrs [] above tt
  next_new addr addrs (p ∷ peers) above rises absent =
      let parts = absent_parts addr p peers absent in
      elim (cases_Bool (is_under address_of addr p)) [
        | inl under ↦
            let first = stays_first p (addr ∷ addrs) peers (under, above_lower (λ a. a) p.addr addr addrs under above) in
            rw (under, one_more (place address_of addr peers)) (under_first first under (next_new addr addrs peers above rises.1 parts.1))
        | inr over ↦
            rw over (comes_first addr addrs (p ∷ peers) above
            (address_connected p.addr addr parts.0 over, above_when_not_below address_of addr p peers over rises.0))
      ]
    where
      under_first : {all later split : List Peer} → all ≡ p ∷ later → is_under address_of addr p ≡ true → later ≡ split → all ≡ p ∷ split
      under_first first under later = first ∙ ap (λ l. p ∷ l) later

-- the peers that were gone through, and what is left of both
pub record Merging (big : Bool) (all done : List Peer) (left : List Addr) (rest : List Peer) : Type 0 where
  pub whole : all ≡ done ++ with_all_new big left rest
  pub ordered : InOrder rest
  pub rising : IsRising (λ a. a) left
  pub absent : AreAbsent left rest

pub merging-first : (big : Bool) (addrs : List Addr) (peers : List Peer) → InOrder peers → AreNew addrs peers →
    Merging big (with_all_new big addrs peers) [] addrs peers
merging-first big addrs peers ordered new = record { whole = refl; ordered = ordered; rising = new.rising; absent = new.absent }

pub merging-next : (big : Bool) (all done next : List Peer) (addr : Addr) (left : List Addr) (rest : List Peer) (n : ℕ) →
    Merging big all done (addr ∷ left) rest → n ≡ place address_of addr rest → next ≡ (done ++ take n rest) ++ new_peer big addr ∷ [] →
    Merging big all next left (drop n rest)
merging-next big all done next addr left rest n so_far at is =
    let later : List Peer = with_all_new big left (drop n rest) in
    let here : with_all_new big (addr ∷ left) rest ≡ take n rest ++ new_peer big addr ∷ later =
    rw at (next_new big addr left rest so_far.rising.0 so_far.ordered so_far.absent.0) in
    record {
      whole = so_far.whole
          ∙ (ap (λ l. done ++ l) here
          ∙ (sym (append_assoc done (take n rest) (new_peer big addr ∷ later))
          ∙ (sym (append_assoc (done ++ take n rest) (new_peer big addr ∷ []) later) ∙ ap (λ l. l ++ later) (sym is))));
      ordered = InOrder-drop n rest so_far.ordered;
      rising = so_far.rising.1;
      absent = AreAbsent-drop left n rest so_far.absent.1;
    }

pub merging-end : (big : Bool) (all done rest : List Peer) → Merging big all done [] rest → done ++ rest ≡ all
merging-end big all done rest so_far = sym so_far.whole
