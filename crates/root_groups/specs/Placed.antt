-- What is always true of groups and the places of their members.
use Rattle.std.specs.Prelude.{ℕ, ◌≡◌, List}
use Rattle.std.specs.List.{IsDistinct}
use Rattle.net_base.specs.Address.{same_address}
use Rattle.net_base.specs.declared.address.Addr.{Addr}
use Rattle.net_base.specs.declared.event.Group.{Group}
use Rattle.root_groups.specs.Cleaned.{members_of, group_of}
use Rattle.root_groups.specs.Places.{place_of}

pub record IsPlaced (groups : List Group) (places : List (Addr × ℕ)) : Type 0 where
  pub noted : (addr : Addr) → place_of addr places ≡ group_of addr groups
  pub distinct : IsDistinct same_address (members_of groups)
