-- How the outcome of a command over a trace is told.
use Rattle.trace_meaning.specs.declared.outcome.Outcome.{Outcome}
use Rattle.trace_meaning.specs.declared.outcome.Outcome.TheVariants as outcome
use Rattle.tool_status.specs.declared.status.Status.{Status}
use Rattle.tool_status.specs.declared.status.Status.TheVariants.{Done, Differ, Refused, ReadFault, WriteFault, OutOfMemory, WorldFault, TooLong}

abbrev pub status_told : Outcome → Status
status_told outcome.Done = Done
status_told (outcome.Differ line) = Differ line
status_told (outcome.Refused line kind) = Refused line kind
status_told outcome.ReadFault = ReadFault
status_told outcome.WriteFault = WriteFault
status_told outcome.OutOfMemory = OutOfMemory
status_told outcome.WorldFault = WorldFault
status_told (outcome.TooLong line) = TooLong line
