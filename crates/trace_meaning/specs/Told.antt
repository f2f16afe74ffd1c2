-- How the outcome of a run over lines is told of a trace.
use Rattle.line_run.specs.declared.outcome.LineOutcome.{LineOutcome}
use Rattle.line_run.specs.declared.outcome.LineOutcome.TheVariants as run
use Rattle.trace_meaning.specs.declared.outcome.Outcome.{Outcome}
use Rattle.trace_meaning.specs.declared.outcome.Outcome.TheVariants.{Done, Differ, Refused, ReadFault, WriteFault, OutOfMemory, TooLong}

abbrev pub outcome_run : LineOutcome → Outcome
outcome_run run.Done = Done
outcome_run (run.Differ line) = Differ line
outcome_run (run.Refused line kind) = Refused line kind
outcome_run run.ReadFault = ReadFault
outcome_run run.WriteFault = WriteFault
outcome_run run.OutOfMemory = OutOfMemory
outcome_run (run.TooLong line) = TooLong line
