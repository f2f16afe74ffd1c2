-- What comes of `replay`.
use Rattle.std.specs.Prelude.{◌≡◌, ℕ, ◌⊎◌, List, Option, Some}
use Rattle.net_base.specs.declared.refusal.RefusalKind.{RefusalKind}
use Rattle.trace_compare.specs.Again.{TakesItsOwnOutput}
use Rattle.trace_meaning.specs.Inputs.{IsDecided, StopsReading, StopsWriting, IsOutputOfSome, IsOutputSoFar, IsProperFrontOfSome, IsFrontOfSome}
use Rattle.line_run.specs.Judgement.{Verdict, ended, differed, refused, too_long}
use Rattle.trace_meaning.specs.Output.{output_of}
use Rattle.trace_meaning.specs.Replays.{Replays, verdict_of}
use Rattle.line_run.specs.Runs.{TakesPrefix}
use Rattle.trace_meaning.specs.FaultCounts.{HasReadCount, HasWriteCount}
use Rattle.trace_meaning.specs.declared.outcome.Outcome.{Outcome}
use Rattle.trace_replay.specs.Lawful.{IsLawfulRunOf}
use Rattle.command_run.specs.Command.{IsAnswered, RoseSource, RoseSink}
use Rattle.tool_status.specs.Streams.{StreamsTold}
use Rattle.tool_status.specs.Told.{status_told}
use Rattle.tool_status.specs.declared.status.Status.{Status}
use Rattle.tool_status.specs.declared.status.Status.TheVariants.{Done, Differ, Usage, Refused, ReadFault, WriteFault, OutOfMemory, WorldFault, FileFault, TooLong, BadSettings, FileTooLarge}

-- the status of the line that decides
abbrev pub status_of : Verdict → Status
status_of ended = Done
status_of (differed line) = Differ line
status_of (refused line kind) = Refused line kind
status_of (too_long line) = TooLong line

-- A trace was replayed: what was read and written, by how it ended, whose count of faults rose, and that every law holds in
-- the run of the bytes that were read.
pub record IsReplayed (before after : StreamsTold) (status : Status) : Type 0 where
  pub outcome : Outcome
  pub told : status ≡ status_told outcome
  pub replays : Replays before.src.left after.src.left before.out.taken after.out.taken outcome
  pub lawful : IsLawfulRunOf replays.seen
  pub reads : HasReadCount before.src.faults after.src.faults outcome
  pub writes : HasWriteCount before.out.faults after.out.faults outcome

-- ---- what follows

-- Whatever the source tells, a sink that tells its bytes has the output of some input: all of it, where a line decides
-- or the source fails, a proper front after a write fault, a front where memory is wanting.
abbrev pub HasSomeOutput : Status → Option (List ℕ) → Option (List ℕ) → Type 0
HasSomeOutput Done taken_before taken_after = IsOutputOfSome ended taken_before taken_after
HasSomeOutput (Differ line) taken_before taken_after = ⊥
HasSomeOutput Usage taken_before taken_after = ⊥
HasSomeOutput (Refused line kind) taken_before taken_after = IsOutputOfSome (refused line kind) taken_before taken_after
HasSomeOutput ReadFault taken_before taken_after = IsOutputSoFar taken_before taken_after
HasSomeOutput WriteFault taken_before taken_after = IsProperFrontOfSome taken_before taken_after
HasSomeOutput OutOfMemory taken_before taken_after = IsFrontOfSome taken_before taken_after
HasSomeOutput WorldFault taken_before taken_after = ⊥
HasSomeOutput (FileFault which) taken_before taken_after = ⊥
HasSomeOutput (TooLong line) taken_before taken_after = IsOutputOfSome (too_long line) taken_before taken_after
HasSomeOutput (BadSettings what) taken_before taken_after = ⊥
HasSomeOutput (FileTooLarge which size) taken_before taken_after = ⊥

-- The same of a source that tells its input, of any sink that tells what it took, and of the output as a trace of its own.
pub record ComesOfReplay (before after : StreamsTold) (status : Status) : Type 0 where
  -- what was read and written, by each status
  pub done : (input : List ℕ) → before.src.left ≡ Some input → status ≡ Done → IsDecided input ended after.src.left before.out.taken after.out.taken
  pub refused_at : (input : List ℕ) (line : ℕ) (kind : RefusalKind) → before.src.left ≡ Some input → status ≡ Refused line kind →
      IsDecided input (refused line kind) after.src.left before.out.taken after.out.taken
  pub too_long_at : (input : List ℕ) (line : ℕ) → before.src.left ≡ Some input → status ≡ TooLong line →
      IsDecided input (too_long line) after.src.left before.out.taken after.out.taken
  pub read_fault : (input : List ℕ) → before.src.left ≡ Some input → status ≡ ReadFault → StopsReading input after.src.left before.out.taken after.out.taken
  pub write_fault : (input : List ℕ) → before.src.left ≡ Some input → status ≡ WriteFault → StopsWriting input after.src.left before.out.taken after.out.taken
  pub memory : (input : List ℕ) → before.src.left ≡ Some input → status ≡ OutOfMemory → TakesPrefix before.out.taken after.out.taken (output_of input)
  -- the line that decides has its status, but for want of memory and for faults
  pub answered : (input : List ℕ) → before.src.left ≡ Some input → IsAnswered (status_of (verdict_of input)) (RoseSource before after) (RoseSink before after) status
  pub complete : (input : List ℕ) → before.src.left ≡ Some input → ¬ RoseSource before after → ¬ RoseSink before after →
      (status ≡ status_of (verdict_of input)) ⊎ (status ≡ OutOfMemory)
  -- whatever the source tells, what a sink took that tells it is the output of some input
  pub output : HasSomeOutput status before.out.taken after.out.taken
  -- the output of a trace that is read to its `end`, replayed, is written again as it is
  pub again : status ≡ Done → TakesItsOwnOutput before.out.taken after.out.taken
