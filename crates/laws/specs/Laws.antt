-- What an operator counts on after each event.
use Rattle.std.specs.Prelude.{◌≡◌, ◌<◌, ◌≤◌, ◌≢◌, Bool, true, false, ◌&&◌, ◌||◌, IsTrue, List, All, AllPairs, Option, Some, None}
use Rattle.laws.specs.Words.{is_live, is_negotiated, is_pending, deadlines, Machine, Entry, counted_in, live_entry_at, peer_at, Addr, Group, Peer, Cold, is_established, same_temp, is_listed, members_of}

-- if both are live
abbrev pub DifferInAddress : Entry → Entry → Type 0
DifferInAddress e f = IsTrue (is_live e.facts) → IsTrue (is_live f.facts) → e.facts.addr ≢ f.facts.addr

-- No two live connections have one address.
abbrev pub LiveAddressesDistinct : Machine → Type 0
LiveAddressesDistinct m = AllPairs DifferInAddress m.connections

-- No more connections are counted than the hard limit says.
abbrev pub WithinHardLimit : Machine → Type 0
WithinHardLimit m = counted_in m ≤ m.settings.hard

-- Every deadline is above now: what was to happen by now has happened.
abbrev pub DeadlinesAhead : Machine → Type 0
DeadlinesAhead m = All (λ d. m.now < d.at) (deadlines m)

-- ---- peers and connections, at each address

abbrev pub is_established_peer : Option Peer → Bool
is_established_peer None = false
is_established_peer (Some p) = is_established p.temp

abbrev pub is_cold_peer : Option Peer → Bool
is_cold_peer None = false
is_cold_peer (Some p) = same_temp p.temp Cold

-- negotiated, and in local use
abbrev pub is_used_connection : Option Entry → Bool
is_used_connection None = false
is_used_connection (Some e) = is_negotiated e.facts && e.facts.local

-- dialed by this node, and its handshake is not done
abbrev pub is_pending_connection : Option Entry → Bool
is_pending_connection None = false
is_pending_connection (Some e) = is_pending e.facts

-- A peer is warm or hot exactly where its live connection is negotiated and in local use.
abbrev pub EstablishedAreUsed : Machine → Type 0
EstablishedAreUsed m = (addr : Addr) → is_established_peer (peer_at addr m) ≡ is_used_connection (live_entry_at addr m)

-- A peer that is on its way is in the book, and cold.
abbrev pub PendingAreCold : Machine → Type 0
PendingAreCold m = (addr : Addr) → is_pending_connection (live_entry_at addr m) ≡ true → is_cold_peer (peer_at addr m) ≡ true

-- A peer that is used, or on its way to it, is out of its back-off.
abbrev pub UsedAreOutOfBackOff : Machine → Type 0
UsedAreOutOfBackOff m = (addr : Addr) (p : Peer) → peer_at addr m ≡ Some p →
    (is_used_connection (live_entry_at addr m) || is_pending_connection (live_entry_at addr m)) ≡ true → p.not_before ≤ m.now

-- a member of some group
abbrev pub is_local : List Group → Addr → Bool
is_local groups addr = is_listed addr (members_of groups)

-- Each local peer is an ordinary one.
abbrev pub LocalsAreOrdinary : Machine → Type 0
LocalsAreOrdinary m = (addr : Addr) (p : Peer) → peer_at addr m ≡ Some p → is_local m.groups addr ≡ true → p.big ≡ false
