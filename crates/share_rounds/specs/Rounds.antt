-- Peer sharing: which peers are told, and which are taken. This project's own rules.
use Rattle.std.specs.Prelude.{◌≡◌, ℕ, ◌-◌, min, Bool, true, false, ◌&&◌, ◌||◌, ◌==◌, not, List, [], ◌∷◌, ◌++◌, length, take, filter, slice_get, is_some, if◌then◌else◌, Option, Some, None}
use Rattle.std.specs.Option.{option_and_then}
use Rattle.net_base.specs.Address.{same_address}
use Rattle.net_base.specs.declared.address.Addr.{Addr}
use Rattle.net_base.specs.declared.address.Ip.{Ip}
use Rattle.net_base.specs.declared.address.Ip.TheVariants.{V4, V6}
use Rattle.net_base.specs.declared.event.Group.{Group}
use Rattle.net_base.specs.declared.peer.Peer.{Peer}
use Rattle.peer_book.specs.Book.{peer_at, known_of, addresses_of, most_peers}
use Rattle.peer_book.specs.Order.{IsRising}
use Rattle.root_groups.specs.Cleaned.{is_listed, group_of}

-- ---- what is told

-- the group that holds an address
abbrev pub home_of : Addr → List Group → Option Group
home_of addr groups = option_and_then (slice_get groups) (group_of addr groups)

-- a local peer is told where its group says so, any other one where it is no public root
abbrev pub is_told_in : Option Group → Addr → List Addr → Bool
is_told_in (Some group) addr publics = group.advertise
is_told_in None addr publics = not (is_listed addr publics)

abbrev pub is_advertised : List Group → List Addr → Addr → Bool
is_advertised groups publics addr = is_told_in (home_of addr groups) addr publics

-- how many are told at a time: this project's own
abbrev pub most_told : ℕ
most_told = 10

-- The peers that are told to one that asks for so many: in address order, and itself not among them.
abbrev pub served_to : Addr → ℕ → List Peer → List Group → List Addr → List Addr
served_to asker n peers groups publics =
    take (min n most_told)
    (filter (λ addr. is_advertised groups publics addr && not (same_address addr asker)) (addresses_of peers))

-- ---- what is kept for every asker

-- one more than are told at a time, since one of them may be the one that asks
abbrev pub most_tellable : ℕ
most_tellable = 11

-- the first addresses of the book that may be told to anyone
abbrev pub tellable_of : List Peer → List Group → List Addr → List Addr
tellable_of peers groups publics = take most_tellable (filter (is_advertised groups publics) (addresses_of peers))

-- what is told out of some addresses to one that asks for so many
abbrev pub told_among : Addr → ℕ → List Addr → List Addr
told_among asker n addrs = take (min n most_told) (filter (λ addr. not (same_address addr asker)) addrs)

-- the addresses are the first that may be told of a book in address order
pub record AreTellable (addrs : List Addr) (peers : List Peer) (groups : List Group) (publics : List Addr) : Type 0 where
  pub rising : IsRising (λ addr. addr) (addresses_of peers)
  pub first : addrs ≡ tellable_of peers groups publics

-- Whatever book the addresses are kept of, this is what is told out of it.
abbrev pub IsServedFor : Addr → ℕ → List Addr → List Addr → Type 0
IsServedFor asker n addrs told = (peers : List Peer) (groups : List Group) (publics : List Addr)
    → AreTellable addrs peers groups publics → told ≡ served_to asker n peers groups publics

-- ---- what is taken

-- a trace of the first version has no IPv6 addresses
abbrev pub is_ipv4 : Ip → Bool
is_ipv4 (V4 ip) = true
is_ipv4 (V6 ip) = false

abbrev pub fits_version : ℕ → Addr → Bool
fits_version version addr = not (version == 1) || is_ipv4 addr.ip

-- it may be taken at all: neither the own address nor one in the book
abbrev pub is_new : Addr → ℕ → List Peer → Addr → Bool
is_new own version peers addr =
    fits_version version addr && not (same_address addr own) && not (is_some (peer_at addr peers))

-- each address that may be taken, at its first place, where others were taken before
unfoldable pub taken_after : List Addr → (Addr → Bool) → List Addr → List Addr
taken_after before may [] = []
taken_after before may (addr ∷ told) =
    if may addr && not (is_listed addr before) then addr ∷ taken_after (before ++ addr ∷ []) may told
    else taken_after before may told

-- how many more there may be: ordinary peers up to the target, and peers of both classes up to a full book
abbrev pub room_for : ℕ → List Peer → ℕ
room_for target peers = min (target - known_of false peers) (most_peers - length peers)

-- Of the addresses that a peer told, in their order, those that are taken.
abbrev pub fresh_of : Addr → ℕ → ℕ → List Peer → List Addr → List Addr
fresh_of own target version peers told =
    take (room_for target peers) (taken_after [] (is_new own version peers) told)
