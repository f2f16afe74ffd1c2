-- Walks past links in order of address, and past peers beside them.
use Rattle.std.specs.Prelude.{ℕ, ◌≡◌, ◌<◌, ◌≤◌, Bool, true, false, not, List, take, drop, length, Option, Some, None}
use Rattle.std.specs.List.{AllByRecursion, prefix_len}
use Rattle.net_base.specs.Address.{same_address, address_below}
use Rattle.net_base.specs.declared.address.Addr.{Addr}
use Rattle.net_base.specs.declared.peer.Peer.{Peer}
use Rattle.peer_book.specs.Book.{peer_at}
use Rattle.govern_rules.specs.SortedLinks.{IsInOrder, is_below}
use Rattle.govern_rules.specs.declared.link.Link.{Link}

-- what stands together from a place on
abbrev pub IsRunFrom : {X : Type 0} → ℕ → List X → List X → Type 0
IsRunFrom place items run = run ≡ take (length run) (drop place items)

-- an address is above the one that was come to last
abbrev pub is_beyond : Addr → Option Addr → Bool
is_beyond addr None = true
is_beyond addr (Some last) = address_below last addr

-- a link was passed: its address is not above that
abbrev pub is_passed : Option Addr → Link → Bool
is_passed None l = false
is_passed (Some last) l = not (address_below last l.addr)

-- a walk has come to a place among links
pub record HasCome (links : List Link) (last : Option Addr) (place : ℕ) (run : List Link) : Type 0 where
  pub ordered : IsInOrder links
  pub few : place ≤ length links
  pub passed : AllByRecursion (λ l. is_passed last l ≡ true) (take place links)
  pub front : IsRunFrom place links run
  pub some : place < length links → 0 < length run

-- where the links of an address begin, or would, and what stands together from there on
pub record IsSpot (addr : Addr) (links : List Link) (place : ℕ) (run : List Link) : Type 0 where
  pub behind : place ≡ prefix_len (is_below addr) links
  pub front : IsRunFrom place links run

-- there is no link, or an address is below its own
abbrev pub is_before_at : Addr → Option Link → Bool
is_before_at addr None = true
is_before_at addr (Some l) = address_below addr l.addr

-- there is a link, and its address is below one
abbrev pub is_below_at : Addr → Option Link → Bool
is_below_at addr None = false
is_below_at addr (Some l) = is_below addr l

-- there is a link, and it has an address
abbrev pub has_address_at : Addr → Option Link → Bool
has_address_at addr None = false
has_address_at addr (Some l) = same_address l.addr addr

-- there is a link, and it has another address
abbrev pub has_other_address_at : Addr → Option Link → Bool
has_other_address_at addr None = false
has_other_address_at addr (Some l) = not (same_address l.addr addr)

-- peers that the book has
abbrev pub AreKnown : List Peer → List Peer → Type 0
AreKnown peers book = AllByRecursion (λ p. peer_at p.addr book ≡ Some p) peers
