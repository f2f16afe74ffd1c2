-- What the rules come to.
use Rattle.std.specs.Prelude.{◌≡◌, ℕ, ◌-◌, ◌≤◌, true, false, List, length, All, min}
use Rattle.std.specs.List.{IsDistinct}
use Rattle.net_base.specs.Address.{same_address}
use Rattle.net_base.specs.declared.address.Addr.{Addr}
use Rattle.net_base.specs.declared.event.Group.{Group}
use Rattle.net_base.specs.declared.peer.Peer.{Peer}
use Rattle.peer_book.specs.Book.{known_of, most_peers}
use Rattle.peer_book.specs.Order.{IsRising}
use Rattle.share_rounds.specs.Rounds.{is_advertised, most_told, served_to, is_new, fresh_of}

-- an address that may be told to one that asks
pub record MayBeTold (asker : Addr) (groups : List Group) (publics : List Addr) (addr : Addr) : Type 0 where
  pub advertised : is_advertised groups publics addr ≡ true
  pub other : same_address addr asker ≡ false

-- what is told: no more than asked for, none that may not be told, and in address order where the book is
pub record ToldPeersAreAdvertised : Type 0 where
  pub few : (asker : Addr) (n : ℕ) (peers : List Peer) (groups : List Group) (publics : List Addr)
      → length (served_to asker n peers groups publics) ≤ min n most_told
  pub each : (asker : Addr) (n : ℕ) (peers : List Peer) (groups : List Group) (publics : List Addr)
      → All (MayBeTold asker groups publics) (served_to asker n peers groups publics)
  pub rising : (asker : Addr) (n : ℕ) (peers : List Peer) (groups : List Group) (publics : List Addr)
      → IsRising (λ peer. peer.addr) peers → IsRising (λ addr. addr) (served_to asker n peers groups publics)

-- what is taken: new addresses, none of them twice, and no more than the target and a full book leave room for
pub record TakenAddressesAreNew : Type 0 where
  pub within_target : (own : Addr) (target version : ℕ) (peers : List Peer) (told : List Addr)
      → length (fresh_of own target version peers told) ≤ target - known_of false peers
  pub within_book : (own : Addr) (target version : ℕ) (peers : List Peer) (told : List Addr)
      → length (fresh_of own target version peers told) ≤ most_peers - length peers
  pub each : (own : Addr) (target version : ℕ) (peers : List Peer) (told : List Addr)
      → All (λ addr. is_new own version peers addr ≡ true) (fresh_of own target version peers told)
  pub distinct : (own : Addr) (target version : ℕ) (peers : List Peer) (told : List Addr)
      → IsDistinct same_address (fresh_of own target version peers told)
