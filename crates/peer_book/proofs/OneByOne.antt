-- A peer that comes in, and goes again.
use Rattle.std.proofs.Common.{◌≡◌, ℕ, nat_le, nat_lt, if◌then◌else◌, Bool, true, false, ◌||◌, List, [], ◌∷◌, length, is_some, refl, ap, ◌∙◌, inl, inr}
use Rattle.std.proofs.lemmas.Bool.{cases_Bool, true≢false}
use Rattle.net_base.specs.declared.address.Addr.{Addr}
use Rattle.net_base.specs.declared.peer.Peer.{Peer}
use Rattle.net_base.proofs.AddressOrder.{same_address-itself}
use Rattle.peer_book.specs.Book.{entry_below, known_of, most_peers, peer_at, with_new, without_peer, new_peer}
use Rattle.peer_book.specs.declared.added.Added.TheVariants.{Full, New, Present}
use Rattle.peer_book.specs.Order.{put_in, taken_out}
use Rattle.peer_book.proofs.Edits.{stands-put_in}
use Rattle.peer_book.proofs.Listing.{address_of}
use Rattle.peer_book.proofs.Places.{is_at, stands}
use Rattle.peer_book.proofs.Rising.{is_under}

-- ---- what is put in and taken out again

module _ {X : Type 0} (key : X → Addr) where
  taken_out-absent : (addr : Addr) (xs : List X) → stands key addr xs ≡ false → taken_out key addr xs ≡ xs
  taken_out-absent addr [] absent = refl
  taken_out-absent addr (x ∷ xs) absent = elim (cases_Bool (is_at key addr x)) [
    | inl same ↦ absurd (true≢false (rw same at absent))
    | inr other ↦ rw other (ap (λ l. x ∷ l) (taken_out-absent addr xs (rw other at absent)))
  ]

  taken_out-put_in : (new : X) (xs : List X) → stands key (key new) xs ≡ false → taken_out key (key new) (put_in key new xs) ≡ xs
  taken_out-put_in new [] absent = rw (same_address-itself (key new)) refl
  taken_out-put_in new (x ∷ xs) absent = elim (cases_Bool (is_at key (key new) x)) [
    | inl same ↦ absurd (true≢false (rw same at absent))
    | inr other ↦
        let later : stands key (key new) xs ≡ false = rw other at absent in
        elim (cases_Bool (is_under key (key new) x)) [
          | inl under ↦ rw (under, other) (ap (λ l. x ∷ l) (taken_out-put_in new xs later))
          | inr over ↦ rw (over, same_address-itself (key new), other) (ap (λ l. x ∷ l) (taken_out-absent (key new) xs later))
        ]
  ]

pub goes_again : (big : Bool) (addr : Addr) (peers : List Peer) → is_some (peer_at addr peers) ≡ false →
    without_peer addr (with_new (new_peer big addr) peers) ≡ peers
goes_again big addr peers absent = taken_out-put_in address_of (new_peer big addr) peers absent

pub is_in : (big : Bool) (addr : Addr) (peers : List Peer) → is_some (peer_at addr (with_new (new_peer big addr) peers)) ≡ true
is_in big addr peers =
    stands-put_in address_of addr (new_peer big addr) peers ∙ ap (λ b. b || is_some (peer_at addr peers)) (same_address-itself addr)

-- whoever is new isn't there
pub new_absent : (most : ℕ) (big : Bool) (addr : Addr) (peers : List Peer) → entry_below most big addr peers ≡ New → is_some (peer_at addr peers) ≡ false
new_absent most big addr peers = by (nat_lt (known_of big peers) most) (is_some (peer_at addr peers)) (nat_le most_peers (length peers))
  where
    by : (below there full : Bool) → (if below then (if there then Present else (if full then Full else New)) else Full) ≡ New → there ≡ false
    by false there full e = absurd (other e)
      where
        other : Full ≡ New → ⊥
        other h = cc
    by true true full e = absurd (other e)
      where
        other : Present ≡ New → ⊥
        other h = cc
    by true false full e = refl
