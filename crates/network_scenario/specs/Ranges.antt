-- What a scenario file may say.
use Rattle.std.specs.Prelude.{◌≤◌, ℕ, List, [], ◌∷◌}
use Rattle.network_scenario.specs.declared.values.Row.{Row}

-- a number in a range
abbrev pub IsIn : ℕ → ℕ → ℕ → Type 0
IsIn least most n = (least ≤ n) × (n ≤ most)

-- a number for each row, in its range
abbrev pub AreIn : List Row → List ℕ → Type 0
AreIn [] [] = Unit {0}
AreIn [] (n ∷ ns) = ⊥
AreIn (row ∷ rows) [] = ⊥
AreIn (row ∷ rows) (n ∷ ns) = IsIn row.1 row.2 n × AreIn rows ns
