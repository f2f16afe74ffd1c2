-- What comes of `check`.
use Rattle.std.specs.Prelude.{◌≡◌, ℕ, ◌⊎◌, List, Option, Some}
use Rattle.trace_compare.specs.Again.{FitsTrace}
use Rattle.trace_play.specs.CheckedInputs.{IsCheckOf}
use Rattle.trace_compare.specs.Compare.{outcome_told}
use Rattle.trace_play.specs.Checks.{Checks}
use Rattle.trace_compare.specs.Compare.{comparison_of, lines_found, lines_written}
use Rattle.line_run.specs.Judgement.{ended}
use Rattle.trace_meaning.specs.Judgement.{judged}
use Rattle.trace_meaning.specs.Output.{output_of}
use Rattle.trace_meaning.specs.Replays.{verdict_of}
use Rattle.trace_meaning.specs.FaultCounts.{HasReadCount, HasWriteCount}
use Rattle.trace_meaning.specs.declared.outcome.Outcome.{Outcome}
use Rattle.trace_replay.specs.Lawful.{IsLawfulRunOf}
use Rattle.command_run.specs.Command.{IsAnswered, RoseSource, RoseSink}
use Rattle.tool_status.specs.Streams.{StreamsTold}
use Rattle.tool_status.specs.Told.{status_told}
use Rattle.tool_status.specs.declared.status.Status.{Status}
use Rattle.tool_status.specs.declared.status.Status.TheVariants.{Done, OutOfMemory}

-- the status of how an input compares with its output
abbrev pub status_compared : List ℕ → Status
status_compared input = status_told (outcome_told (comparison_of input))

-- A trace was checked: what was read and written, by how it ended, whose count of faults rose, and that every law holds in
-- the run that it was compared with.
pub record IsChecked (before after : StreamsTold) (status : Status) : Type 0 where
  pub outcome : Outcome
  pub told : status ≡ status_told outcome
  pub checks : Checks before.src.left after.src.left before.out.taken after.out.taken outcome
  pub lawful : IsLawfulRunOf checks.seen
  pub reads : HasReadCount before.src.faults after.src.faults outcome
  pub writes : HasWriteCount before.out.faults after.out.faults outcome

-- ---- what follows

-- what has come of the check of an input
pub record HasComeOf (input : List ℕ) (left_after taken_before taken_after : Option (List ℕ)) (status : Status) : Type 0 where
  pub outcome : Outcome
  pub told : status ≡ status_told outcome
  pub is_of : IsCheckOf input outcome left_after taken_before taken_after

-- The same of a source that tells its input.
pub record ComesOfCheck (before after : StreamsTold) (status : Status) : Type 0 where
  -- what was read and written, by each status
  pub compared : (input : List ℕ) → before.src.left ≡ Some input → HasComeOf input after.src.left before.out.taken after.out.taken status
  -- the comparison has its status, but for want of memory and for faults
  pub answered : (input : List ℕ) → before.src.left ≡ Some input → IsAnswered (status_compared input) (RoseSource before after) (RoseSink before after) status
  pub complete : (input : List ℕ) → before.src.left ≡ Some input → ¬ RoseSource before after → ¬ RoseSink before after →
      (status ≡ status_compared input) ⊎ (status ≡ OutOfMemory)
  -- what agrees is the trace's own output, line by line, up to its `end`
  pub agreed : (input : List ℕ) → before.src.left ≡ Some input → status ≡ Done → lines_found (judged input) ≡ lines_written (judged input)
  -- the output of a trace that is read to its `end` agrees
  pub agrees : (trace : List ℕ) → before.src.left ≡ Some (output_of trace) → verdict_of trace ≡ ended → FitsTrace (output_of trace) →
      ¬ RoseSource before after → ¬ RoseSink before after → (status ≡ Done) ⊎ (status ≡ OutOfMemory)
