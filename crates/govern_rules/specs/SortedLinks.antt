-- Links in order of address and id.
use Rattle.std.specs.Prelude.{◌≡◌, Bool, false, ◌&&◌, ◌||◌, nat_lt, List, [], ◌∷◌, filter}
use Rattle.std.specs.List.{AllByRecursion}
use Rattle.net_base.specs.Address.{same_address, address_below}
use Rattle.net_base.specs.declared.address.Addr.{Addr}
use Rattle.govern_rules.specs.Links.{some_link}
use Rattle.govern_rules.specs.declared.link.Link.{Link}

-- by the address, and then by the id
abbrev pub link_below : Link → Link → Bool
link_below l k = address_below l.addr k.addr || (same_address l.addr k.addr && nat_lt l.cid.0 k.cid.0)

-- no link is below one before it
abbrev pub IsInOrder : List Link → Type 0
IsInOrder [] = Unit {0}
IsInOrder (l ∷ links) = AllByRecursion (λ k. link_below k l ≡ false) links × IsInOrder links

-- two lists say the same of every address
abbrev pub SaySame : List Link → List Link → Type 0
SaySame links others = (test : Link → Bool) (addr : Addr) → some_link test links addr ≡ some_link test others addr

abbrev pub links_of : Addr → List Link → List Link
links_of addr = filter (λ l. same_address l.addr addr)

-- ---- a look for an address

abbrev pub is_below : Addr → Link → Bool
is_below addr l = address_below l.addr addr

-- none has an address below one
abbrev pub AreNotBelow : Addr → List Link → Type 0
AreNotBelow addr links = AllByRecursion (λ l. address_below l.addr addr ≡ false) links

-- the next link is below it
abbrev pub is_above_next : Link → List Link → Bool
is_above_next l [] = false
is_above_next l (k ∷ links) = link_below k l
