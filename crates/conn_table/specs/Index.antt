-- The index: the address and id of every connection, in order of address and then id.
use Rattle.std.specs.Prelude.{ℕ, zero, suc, ◌≡◌, Bool, true, ◌&&◌, ◌||◌, ◌==◌, not, nat_lt, List, [], ◌∷◌, filter, find, Option, Some, None, is_some, slice_get, if◌then◌else◌}
use Rattle.std.specs.List.{AllByRecursion}
use Rattle.net_base.specs.Address.{same_address, address_below}
use Rattle.net_base.specs.declared.address.Addr.{Addr}
use Rattle.net_base.specs.declared.connection.Facts.{Facts}
use Rattle.conn_table.specs.declared.placed.Placed.{Placed}

-- by the address, and then by the id
abbrev pub placed_below : Placed → Placed → Bool
placed_below a b = address_below a.addr b.addr || (same_address a.addr b.addr && nat_lt a.cid.0 b.cid.0)

abbrev pub same_placed : Placed → Placed → Bool
same_placed a b = same_address a.addr b.addr && a.cid.0 == b.cid.0

abbrev pub IsRising : List Placed → Type 0
IsRising [] = Unit {0}
IsRising (p ∷ ps) = AllByRecursion (λ q. placed_below p q ≡ true) ps × IsRising ps

-- one more, put in at its place
abbrev pub put_in : Placed → List Placed → List Placed
put_in new [] = new ∷ []
put_in new (p ∷ ps) = if placed_below p new then p ∷ put_in new ps else new ∷ p ∷ ps

-- all but one
abbrev pub taken_out : Placed → List Placed → List Placed
taken_out old = filter (λ p. not (same_placed p old))

abbrev pub placed_of : Facts → Placed
placed_of f = record { addr = f.addr; cid = f.cid }

-- it is among them
abbrev pub stands : Placed → List Placed → Bool
stands placed ps = is_some (find (λ p. same_placed p placed) ps)

-- the index of connections: each put in at its place
abbrev pub index_of : List Facts → List Placed
index_of [] = []
index_of (f ∷ fs) = put_in (placed_of f) (index_of fs)

-- ---- the newest connection of an address

abbrev pub placed_at : Addr → List Placed → Bool
placed_at addr ps = is_some (find (λ p. same_address p.addr addr) ps)

-- the last that has an address
abbrev pub last_at : Addr → List Placed → Option Placed
last_at addr [] = None
last_at addr (p ∷ ps) = if placed_at addr ps then last_at addr ps else if same_address p.addr addr then Some p else None

-- one that was found, where it has an address
abbrev pub found_at : Addr → Option Placed → Option Placed
found_at addr None = None
found_at addr (Some p) = if same_address p.addr addr then Some p else None

-- its address is one or below it
abbrev pub up_to : Addr → Placed → Bool
up_to addr p = address_below p.addr addr || same_address p.addr addr

-- the one before a place
abbrev pub before : ℕ → List Placed → Option Placed
before zero ps = None
before (suc place) ps = slice_get ps place
