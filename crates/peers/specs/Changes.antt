-- Changes of peers.
use Rattle.std.specs.Prelude.{ℕ, Bool, false, ◌&&◌, not, is_some, List, fold, Option, Some, None, if◌then◌else◌}
use Rattle.churn_clock.specs.Windows.{effective_of, effective_big_of}
use Rattle.net_base.specs.Address.{same_address}
use Rattle.net_base.specs.declared.address.Addr.{Addr}
use Rattle.net_base.specs.declared.event.Group.{Group}
use Rattle.net_base.specs.declared.peer.Peer.{Peer}
use Rattle.net_base.specs.declared.peer.Temp.{Temp}
use Rattle.peer_book.specs.Book.{peer_at, with_peer, same_temp, all_entered, newcomers, most_peers}
use Rattle.root_groups.specs.Cleaned.{group_of, members_of}
use Rattle.root_groups.specs.RootAsk.{found}
use Rattle.share_rounds.specs.Rounds.{fresh_of}
use Rattle.peers.specs.State.{PeerState}

-- ---- a peer of the book

abbrev pub turned_at : Option Peer → (Peer → Peer) → List Peer → List Peer
turned_at None change peers = peers
turned_at (Some peer) change peers = with_peer (change peer) peers

-- the peer with an address changes, where there is one
abbrev pub turned : Addr → (Peer → Peer) → List Peer → List Peer
turned addr change peers = turned_at (peer_at addr peers) change peers

-- its temperature after that, where it is another one
abbrev pub other_temp : Temp → Temp → Option Temp
other_temp old new = if same_temp old new then None else Some new

abbrev pub other_temp_at : Option Peer → (Peer → Peer) → Option Temp
other_temp_at None change = None
other_temp_at (Some peer) change = other_temp peer.temp (change peer).temp

abbrev pub temp_told : Addr → (Peer → Peer) → List Peer → Option Temp
temp_told addr change peers = other_temp_at (peer_at addr peers) change

-- big ledger peers with some addresses become ordinary ones
abbrev pub all_ordinary : List Addr → List Peer → List Peer
all_ordinary addrs peers = fold (λ left addr. turned addr (λ p. record p { big = false }) left) peers addrs

-- ---- peers that come

-- ordinary peers come into the book, as long as it isn't full
abbrev pub all_come : List Addr → List Peer → List Peer
all_come = all_entered most_peers false

-- those of them that are new
abbrev pub coming : List Addr → List Peer → List Addr
coming = newcomers most_peers false

-- the members of the groups that are kept are ordinary peers of the book
abbrev pub with_groups : List Group → PeerState → PeerState
with_groups kept p = record p { groups = kept; peers = all_come (members_of kept) (all_ordinary (members_of kept) p.peers) }

-- the public roots are found, and come
abbrev pub with_roots : ℕ → ℕ → List Addr → PeerState → PeerState
with_roots now ttl publics p = record p { roots = found now ttl publics p.roots; peers = all_come publics p.peers }

-- an address that is neither the own one nor local
abbrev pub is_stranger : Addr → List Group → Addr → Bool
is_stranger own groups addr = not (same_address addr own) && not (is_some (group_of addr groups))

-- how many big ledger peers are wanted at a moment
abbrev pub wanted_big : ℕ → PeerState → ℕ
wanted_big now p = (effective_big_of p.big_targets now).known

-- the addresses that are taken of those that a peer told at a moment
abbrev pub taken_of : Addr → ℕ → ℕ → List Addr → PeerState → List Addr
taken_of own version now told p = fresh_of own (effective_of p.targets now).known version p.peers told
