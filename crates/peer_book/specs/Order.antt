-- Lists in address order.
use Rattle.std.specs.Prelude.{◌≡◌, true, not, List, [], ◌∷◌, filter, Option, Some, None, if◌then◌else◌}
use Rattle.std.specs.List.{AllByRecursion}
use Rattle.net_base.specs.Address.{same_address, address_below}
use Rattle.net_base.specs.declared.address.Addr.{Addr}

-- things in address order, no address twice
abbrev pub IsRising : {X : Type 0} → (X → Addr) → List X → Type 0
IsRising key [] = Unit {0}
IsRising key (x ∷ xs) = AllByRecursion (λ y. address_below (key x) (key y) ≡ true) xs × IsRising key xs

-- one more thing, put in at the place of its address
abbrev pub put_in : {X : Type 0} → (X → Addr) → X → List X → List X
put_in key new [] = new ∷ []
put_in key new (x ∷ xs) = if address_below (key x) (key new) then x ∷ put_in key new xs else new ∷ x ∷ xs

-- all but the one with an address
abbrev pub taken_out : {X : Type 0} → (X → Addr) → Addr → List X → List X
taken_out key addr xs = filter (λ x. not (same_address (key x) addr)) xs

-- a thing that was found, where it is at an address
abbrev pub found_at : {X : Type 0} → (X → Addr) → Addr → Option X → Option X
found_at key addr None = None
found_at key addr (Some x) = if same_address (key x) addr then Some x else None
