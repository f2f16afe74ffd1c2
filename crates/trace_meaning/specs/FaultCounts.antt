-- Which outcome a fault of a source or a sink is told by.
use Rattle.std.specs.Prelude.{◌≡◌, ℕ, ◌≤◌}
use Rattle.io_edge.specs.Causes.{Rose}
use Rattle.trace_meaning.specs.declared.outcome.Outcome.{Outcome}
use Rattle.trace_meaning.specs.declared.outcome.Outcome.TheVariants.{Done, Differ, Refused, ReadFault, WriteFault, OutOfMemory, WorldFault, TooLong}

-- The source's count of faults rises with a read fault alone.
abbrev pub HasReadCount : ℕ → ℕ → Outcome → Type 0
HasReadCount before now ReadFault = (before ≤ now) × Rose before now
HasReadCount before now Done = now ≡ before
HasReadCount before now (Differ line) = now ≡ before
HasReadCount before now (Refused line kind) = now ≡ before
HasReadCount before now WriteFault = now ≡ before
HasReadCount before now OutOfMemory = now ≡ before
HasReadCount before now WorldFault = now ≡ before
HasReadCount before now (TooLong line) = now ≡ before

-- The sink's count of faults rises with a write fault alone.
abbrev pub HasWriteCount : ℕ → ℕ → Outcome → Type 0
HasWriteCount before now WriteFault = (before ≤ now) × Rose before now
HasWriteCount before now Done = now ≡ before
HasWriteCount before now (Differ line) = now ≡ before
HasWriteCount before now (Refused line kind) = now ≡ before
HasWriteCount before now ReadFault = now ≡ before
HasWriteCount before now OutOfMemory = now ≡ before
HasWriteCount before now WorldFault = now ≡ before
HasWriteCount before now (TooLong line) = now ≡ before
