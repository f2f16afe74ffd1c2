-- Keys that have time until a moment, each as long as the others from when it began to wait.
use Rattle.std.specs.Prelude.{ℕ, ◌+◌, ◌-◌, ◌^◌, min, List, [], ◌∷◌, ◌++◌}

pub record Dues : Type 0 where
  -- how long each has
  pub wait : ℕ
  -- until when which key has time
  pub waits : List (ℕ × ℕ)

-- a key begins to wait at a moment
abbrev pub awaited : Dues → ℕ → ℕ → Dues
awaited dues moment key = record dues { waits = dues.waits ++ (min (moment + dues.wait) (2 ^ 64 - 1), key) ∷ [] }
