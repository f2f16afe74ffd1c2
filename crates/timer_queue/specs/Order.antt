-- Lists of things in an order.
use Rattle.std.specs.Prelude.{◌≡◌, Bool, true, List, [], ◌∷◌}
use Rattle.std.specs.List.{AllByRecursion}

-- things whose keys rise, so no key is there twice
abbrev pub IsRising : {X K : Type 0} → (K → K → Bool) → (X → K) → List X → Type 0
IsRising below key [] = Unit {0}
IsRising below key (x ∷ xs) = AllByRecursion (λ y. below (key x) (key y) ≡ true) xs × IsRising below key xs
