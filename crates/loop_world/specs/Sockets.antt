-- What a world on sockets tells of itself, and what it reads and writes.
use Rattle.std.specs.Prelude.{ℕ, ◌≤◌, Bool}
use Rattle.loop_world.specs.declared.stream.Moved.{Moved}
use Rattle.loop_world.specs.declared.stream.Moved.TheVariants.{Bytes, Nothing, Again, Ended}

pub record SocketWorld : Type 0 where
  pub is_open : Bool
  pub faults : ℕ

-- at least one byte, and no more than there is room for
abbrev pub IsWithin : Moved → ℕ → Type 0
IsWithin (Bytes count) room = (1 ≤ count) × (count ≤ room)
IsWithin Nothing room = Unit {0}
IsWithin Again room = Unit {0}
IsWithin Ended room = Unit {0}
