-- The book: the list of the peers that a node knows, in address order.
use Rattle.std.specs.Prelude.{ℕ, ◌≡◌, Bool, true, false, ◌&&◌, ◌==◌, not, nat_le, nat_lt, List, [], ◌∷◌, map, filter, length, count_by, find, Option, Some, is_some, if◌then◌else◌}
use Rattle.std.specs.List.{prefix_len}
use Rattle.net_base.specs.Address.{same_address, address_below}
use Rattle.net_base.specs.declared.address.Addr.{Addr}
use Rattle.net_base.specs.declared.peer.Peer.{Peer}
use Rattle.net_base.specs.declared.peer.Temp.{Temp}
use Rattle.net_base.specs.declared.peer.Temp.TheVariants.{Cold, Warm, Hot}
use Rattle.peer_book.specs.Order.{put_in, taken_out}
use Rattle.peer_book.specs.declared.added.Added.{Added}
use Rattle.peer_book.specs.declared.added.Added.TheVariants.{New, Present, Full}

-- ---- one peer

abbrev pub has_address : Addr → Peer → Bool
has_address addr peer = same_address peer.addr addr

abbrev pub peer_at : Addr → List Peer → Option Peer
peer_at addr peers = find (has_address addr) peers

-- the peer is there, behind so many others
pub record Stands (place : ℕ) (peer : Peer) (peers : List Peer) : Type 0 where
  pub there : peer_at peer.addr peers ≡ Some peer
  pub behind : place ≡ prefix_len (λ p. address_below p.addr peer.addr) peers

-- a peer in place of the one with its address
abbrev pub with_peer : Peer → List Peer → List Peer
with_peer new peers = map (λ p. if has_address new.addr p then new else p) peers

-- one more peer
abbrev pub with_new : Peer → List Peer → List Peer
with_new = put_in (λ p. p.addr)

abbrev pub without_peer : Addr → List Peer → List Peer
without_peer = taken_out (λ p. p.addr)

-- without the peers at some addresses, one after another
abbrev pub without_all : List Addr → List Peer → List Peer
without_all [] peers = peers
without_all (addr ∷ addrs) peers = without_all addrs (without_peer addr peers)

-- a peer of which nothing is known yet
abbrev pub new_peer : Bool → Addr → Peer
new_peer big addr = record { addr = addr; big = big; temp = Cold; failures = 0; not_before = 0; share_next = 0 }

-- how many peers there may be, of both classes
abbrev pub most_peers : ℕ
most_peers = 20000

-- what is said to an address that is to come in
abbrev pub entry_of : Addr → List Peer → Added
entry_of addr peers =
    if is_some (peer_at addr peers) then Present
    else if nat_le most_peers (length peers) then Full
    else New

-- only a new one changes the book
abbrev pub entered_by : Added → Peer → List Peer → List Peer
entered_by New new peers = with_new new peers
entered_by Present new peers = peers
entered_by Full new peers = peers

abbrev pub entered : Peer → List Peer → List Peer
entered new peers = entered_by (entry_of new.addr peers) new peers

-- ---- all peers

abbrev pub temp_place : Temp → ℕ
temp_place Cold = 0
temp_place Warm = 1
temp_place Hot = 2

abbrev pub same_temp : Temp → Temp → Bool
same_temp a b = temp_place a == temp_place b

-- warm and hot ones
abbrev pub is_established : Temp → Bool
is_established Cold = false
is_established Warm = true
is_established Hot = true

abbrev pub is_active : Temp → Bool
is_active Cold = false
is_active Warm = false
is_active Hot = true

-- the class: big ledger peers, or ordinary ones
abbrev pub is_of : Bool → Peer → Bool
is_of true peer = peer.big
is_of false peer = not peer.big

abbrev pub known_of : Bool → List Peer → ℕ
known_of big = count_by (is_of big)

abbrev pub established_of : Bool → List Peer → ℕ
established_of big = count_by (λ p. is_of big p && is_established p.temp)

abbrev pub active_of : Bool → List Peer → ℕ
active_of big = count_by (λ p. is_of big p && is_active p.temp)

abbrev pub addresses_of : List Peer → List Addr
addresses_of = map (λ p. p.addr)

-- the addresses of the peers of a temperature, of both classes
abbrev pub listed_at : Temp → List Peer → List Addr
listed_at temp peers = addresses_of (filter (λ p. same_temp p.temp temp) peers)

-- ---- many addresses

-- what is said to an address that is to come in, where more of a class come in only while fewer than so many are known
abbrev pub entry_below : ℕ → Bool → Addr → List Peer → Added
entry_below most big addr peers = if nat_lt (known_of big peers) most then entry_of addr peers else Full

-- addresses of a class come in one after another
abbrev pub all_entered : ℕ → Bool → List Addr → List Peer → List Peer
all_entered most big [] peers = peers
all_entered most big (addr ∷ addrs) peers =
    all_entered most big addrs (entered_by (entry_below most big addr peers) (new_peer big addr) peers)

abbrev pub only_new : Added → Addr → List Addr → List Addr
only_new New addr addrs = addr ∷ addrs
only_new Present addr addrs = addrs
only_new Full addr addrs = addrs

-- those of them that are new when they come
abbrev pub newcomers : ℕ → Bool → List Addr → List Peer → List Addr
newcomers most big [] peers = []
newcomers most big (addr ∷ addrs) peers =
    let entry = entry_below most big addr peers in
    only_new entry addr (newcomers most big addrs (entered_by entry (new_peer big addr) peers))
