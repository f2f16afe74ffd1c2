-- A list that grows at its end, with the room that was made for it.
use Rattle.std.specs.Prelude.{ℕ, List}

pub record Logged (T : Type 0) : Type 0 where
  pub items : List T
  -- how many more can be put without memory
  pub room : ℕ
