-- Addresses that come in together.
use Rattle.std.specs.Prelude.{ℕ, ◌≡◌, ◌+◌, ◌-◌, min, ◌≤◌, Bool, false, List, [], ◌∷◌, length, is_some}
use Rattle.std.specs.List.{AllByRecursion}
use Rattle.net_base.specs.declared.address.Addr.{Addr}
use Rattle.net_base.specs.declared.peer.Peer.{Peer}
use Rattle.peer_book.specs.Book.{peer_at, with_new, new_peer, known_of, most_peers}
use Rattle.peer_book.specs.Order.{IsRising}

-- a new peer of a class at each of some addresses
abbrev pub with_all_new : Bool → List Addr → List Peer → List Peer
with_all_new big [] peers = peers
with_all_new big (addr ∷ addrs) peers = with_new (new_peer big addr) (with_all_new big addrs peers)

-- how many more may come in
abbrev pub room_for : ℕ → Bool → List Peer → ℕ
room_for most big peers = min (most - known_of big peers) (most_peers - length peers)

-- addresses in order, none of which is in the book, and for which there is place
pub record AreNew (addrs : List Addr) (peers : List Peer) : Type 0 where
  pub rising : IsRising (λ a. a) addrs
  pub absent : AllByRecursion (λ a. is_some (peer_at a peers) ≡ false) addrs
  pub limited : length peers + length addrs ≤ most_peers
