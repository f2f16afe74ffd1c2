-- Each local address beside the place of its group.
use Rattle.std.specs.Prelude.{ℕ, ◌+◌, List, [], ◌∷◌, ◌++◌, map, Option, Some, None, if◌then◌else◌}
use Rattle.net_base.specs.Address.{same_address}
use Rattle.net_base.specs.declared.address.Addr.{Addr}
use Rattle.net_base.specs.declared.event.Group.{Group}

-- the members of one group
abbrev pub placed_at : ℕ → List Addr → List (Addr × ℕ)
placed_at place = map (λ addr. (addr, place))

-- the members of groups that are counted from a number on
abbrev pub placed_from : ℕ → List Group → List (Addr × ℕ)
placed_from first [] = []
placed_from first (group ∷ groups) = placed_at first group.members ++ placed_from (first + 1) groups

abbrev pub place_of : Addr → List (Addr × ℕ) → Option ℕ
place_of addr [] = None
place_of addr (entry ∷ entries) = if same_address addr entry.0 then Some entry.1 else place_of addr entries

abbrev pub addresses_in : List (Addr × ℕ) → List Addr
addresses_in = map (λ entry. entry.0)
