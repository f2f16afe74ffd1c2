-- Groups without doubles: an address keeps its first place only, within and across groups.
use Rattle.std.specs.Prelude.{ℕ, Bool, List, [], ◌∷◌, ◌++◌, Option, position, if◌then◌else◌}
use Rattle.std.specs.List.{list_any, flat_map}
use Rattle.net_base.specs.Address.{same_address}
use Rattle.net_base.specs.declared.address.Addr.{Addr}
use Rattle.net_base.specs.declared.event.Group.{Group}

abbrev pub is_listed : Addr → List Addr → Bool
is_listed addr = list_any (same_address addr)

-- the addresses at their first places, where others came before
unfoldable pub first_places : List Addr → List Addr → List Addr
first_places before [] = []
first_places before (addr ∷ addrs) =
    if is_listed addr before then first_places before addrs
    else addr ∷ first_places (before ++ addr ∷ []) addrs

unfoldable pub cleaned_after : List Addr → List Group → List Group
cleaned_after before [] = []
cleaned_after before (group ∷ groups) =
    record group { members = first_places before group.members }
    ∷ cleaned_after (before ++ first_places before group.members) groups

-- the own address is as if it had come before all
abbrev pub cleaned : Addr → List Group → List Group
cleaned own = cleaned_after (own ∷ [])

-- all members, group after group
abbrev pub members_of : List Group → List Addr
members_of = flat_map (λ group. group.members)

-- the place of the group that holds an address
abbrev pub group_of : Addr → List Group → Option ℕ
group_of addr = position (λ group. is_listed addr group.members)

-- the valencies of a group alone
abbrev pub without_members : Group → Group
without_members group = record group { members = [] }
