-- What comes of `drill`.
use Rattle.std.specs.Prelude.{◌≡◌, ℕ, ◌⊎◌, List, Option}
use Rattle.io_edge.specs.Causes.{Rose}
use Rattle.io_edge.specs.Told.{Takes, TakesProperPrefix}
use Rattle.laws.specs.Runs.{IsLawfulRun}
use Rattle.world_drive.specs.Drill.{IsDrilled, drill_text, town_settings}
use Rattle.world_drive.specs.Lawful.{counted_text, town_events}
use Rattle.line_run.specs.Runs.{TakesPrefix}
use Rattle.trace_meaning.specs.FaultCounts.{HasWriteCount}
use Rattle.trace_meaning.specs.declared.outcome.Outcome.{Outcome}
use Rattle.command_run.specs.Command.{IsAnswered}
use Rattle.tool_status.specs.Streams.{SinkTold}
use Rattle.tool_status.specs.Told.{status_told}
use Rattle.tool_status.specs.declared.status.Status.{Status}
use Rattle.tool_status.specs.declared.status.Status.TheVariants.{Done, WriteFault, OutOfMemory}

-- A town was run: the sink took what is counted of the machine's run over the events that the town of this seed gives, by
-- how it ended, its count of faults rose with a write fault alone, and every law holds in that run.
pub record HasDrilled (seed count : ℕ) (before after : SinkTold) (status : Status) : Type 0 where
  pub outcome : Outcome
  pub told : status ≡ status_told outcome
  pub drilled : IsDrilled (counted_text town_settings (town_events seed count)) before.taken after.taken outcome
  pub lawful : IsLawfulRun town_settings (town_events seed count)
  pub writes : HasWriteCount before.faults after.faults outcome

-- ---- what follows

-- The sink took the whole text, a front of it and not all after a write fault, a front where memory is wanting.
abbrev pub IsDrillText : Status → List ℕ → Option (List ℕ) → Option (List ℕ) → Type 0
IsDrillText Done text taken_before taken_after = Takes taken_before taken_after text
IsDrillText WriteFault text taken_before taken_after = TakesProperPrefix taken_before taken_after text
IsDrillText OutOfMemory text taken_before taken_after = TakesPrefix taken_before taken_after text
IsDrillText other text taken_before taken_after = ⊥

-- What was written by each status, and that the status is Done.
pub record ComesOfDrill (seed count : ℕ) (before after : SinkTold) (status : Status) : Type 0 where
  pub text : drill_text seed count ≡ counted_text town_settings (town_events seed count)
  pub written : IsDrillText status (drill_text seed count) before.taken after.taken
  pub answered : IsAnswered Done ⊥ (Rose before.faults after.faults) status
  pub complete : ¬ Rose before.faults after.faults → (status ≡ Done) ⊎ (status ≡ OutOfMemory)
