-- What may be told to anyone stays where no address comes or goes.
use Rattle.std.proofs.Common.{◌≡◌, true, List, [], ◌∷◌, Option, Some, None, refl, sym, ap, subst, ◌∙◌, inl, inr}
use Rattle.std.specs.Prelude.{IfSome, is_some, take, filter}
use Rattle.std.proofs.lemmas.Bool.{cases_Bool}
use Rattle.net_base.specs.Address.{same_address}
use Rattle.net_base.specs.declared.address.Addr.{Addr}
use Rattle.net_base.specs.declared.event.Group.{Group}
use Rattle.net_base.specs.declared.peer.Peer.{Peer}
use Rattle.net_base.proofs.AddressOrder.{same_address-is}
use Rattle.peer_book.specs.Book.{addresses_of, with_peer}
use Rattle.peer_book.specs.Order.{IsRising}
use Rattle.share_rounds.specs.Rounds.{AreTellable, is_advertised, most_tellable}

addresses_stay : (new : Peer) (peers : List Peer) → addresses_of (with_peer new peers) ≡ addresses_of peers
addresses_stay new [] = refl
addresses_stay new (p ∷ peers) = elim (cases_Bool (same_address p.addr new.addr)) [
  | inl same ↦ rw same (λ i. sym (same_address-is p.addr new.addr same) i ∷ addresses_stay new peers i)
  | inr other ↦ rw other (ap (λ l. p.addr ∷ l) (addresses_stay new peers))
]

of_addresses : (addrs : List Addr) (peers others : List Peer) (groups : List Group) (publics : List Addr) → addresses_of others ≡ addresses_of peers
    → AreTellable addrs peers groups publics → AreTellable addrs others groups publics
of_addresses addrs peers others groups publics same are = record {
  rising = subst (λ l. IsRising (λ (a : Addr). a) l) (sym same) are.rising;
  first = are.first ∙ ap (λ l. take most_tellable (filter (is_advertised groups publics) l)) (sym same);
}

-- a peer changes
pub tellable-with_peer : (kept : Option (List Addr)) (new : Peer) (peers : List Peer) (groups : List Group) (publics : List Addr)
    → IfSome kept (λ addrs. AreTellable addrs peers groups publics) → IfSome kept (λ addrs. AreTellable addrs (with_peer new peers) groups publics)
tellable-with_peer None new peers groups publics are = are
tellable-with_peer (Some addrs) new peers groups publics are = of_addresses addrs peers (with_peer new peers) groups publics (addresses_stay new peers) are

-- the peer that was found changes
pub tellable-changed : (found : Option Peer) (peer : Peer) (change : Peer → Peer) (kept : Option (List Addr)) (peers others : List Peer) (groups : List Group) (publics : List Addr)
    → found ≡ Some peer → IfSome found (λ p. others ≡ with_peer (change p) peers)
    → IfSome kept (λ addrs. AreTellable addrs peers groups publics) → IfSome kept (λ addrs. AreTellable addrs others groups publics)
tellable-changed found peer change kept peers others groups publics is changed are =
    let now : others ≡ with_peer (change peer) peers = subst (λ o. IfSome o (λ p. others ≡ with_peer (change p) peers)) is changed in
    subst (λ ps. IfSome kept (λ addrs. AreTellable addrs ps groups publics)) (sym now) (tellable-with_peer kept (change peer) peers groups publics are)

-- the same of a peer of which it is only known that it is there
pub tellable-there : (found : Option Peer) (change : Peer → Peer) (kept : Option (List Addr)) (peers others : List Peer) (groups : List Group) (publics : List Addr)
    → is_some found ≡ true → IfSome found (λ p. others ≡ with_peer (change p) peers)
    → IfSome kept (λ addrs. AreTellable addrs peers groups publics) → IfSome kept (λ addrs. AreTellable addrs others groups publics)
tellable-there None change kept peers others groups publics there changed are = absurd cc
tellable-there (Some peer) change kept peers others groups publics there changed are =
    tellable-changed (Some peer) peer change kept peers others groups publics refl changed are
