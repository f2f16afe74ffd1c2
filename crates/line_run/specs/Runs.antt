-- What a run over lines has read and written, by how it ended.
use Rattle.std.specs.Prelude.{◌≡◌, ℕ, ◌+◌, ◌≤◌, List, ◌++◌, length, All, Option, Some, Result, Ok, Err}
use Rattle.io_edge.specs.Causes.{Rose}
use Rattle.io_edge.specs.Lines.{HasNoLineFeed, whole_lines, ended_lines}
use Rattle.io_edge.specs.Told.{Gives, Takes, TakesProperPrefix}
use Rattle.net_base.specs.declared.refusal.RefusalKind.TheVariants.{NoEnd}
use Rattle.line_run.specs.Meaning.{Meaning}
use Rattle.line_run.specs.Judgement.{Verdict, ended, differed, refused, too_long, judged, output_of, verdict_of, Lead}
use Rattle.line_run.specs.declared.outcome.LineOutcome.{LineOutcome}
use Rattle.line_run.specs.declared.outcome.LineOutcome.TheVariants.{Done, Differ, Refused, ReadFault, WriteFault, OutOfMemory, TooLong}

-- how a verdict is told
abbrev pub outcome_of : Verdict → LineOutcome
outcome_of ended = Done
outcome_of (differed line) = Differ line
outcome_of (refused line kind) = Refused line kind
outcome_of (too_long line) = TooLong line

-- the bytes decide, whatever stands behind them at the source
pub record AreDecisive {S : Type 0} (means : S → List ℕ → Meaning S) (start : S) (seen : List ℕ) (left : Option (List ℕ)) (outcome : LineOutcome) : Type 0 where
  pub told : outcome ≡ outcome_of (verdict_of means start seen)
  pub settled : (more : List ℕ) → left ≡ Some more → judged means start (seen ++ more) ≡ judged means start seen

-- the bytes end inside a line or before the last one, and no line of them decides
abbrev pub AreUndecided : {S : Type 0} → (S → List ℕ → Meaning S) → S → List ℕ → Type 0
AreUndecided means start seen = verdict_of means start seen ≡ refused (length (whole_lines seen) + 1) NoEnd

-- a front of these bytes came behind what was taken
pub record TakesPrefix (before after : Option (List ℕ)) (bytes : List ℕ) : Type 0 where
  pub front : List ℕ
  pub rest : List ℕ
  pub split : bytes ≡ front ++ rest
  pub taken : Takes before after front

-- Some whole lines at the front of these bytes lead on, and the sink took exactly what they give: all that is written for
-- each of them, and no part of what is for the line behind them.
pub record TakesLines {S : Type 0} (means : S → List ℕ → Meaning S) (start : S) (seen : List ℕ) (before after : Option (List ℕ)) : Type 0 where
  pub texts : List (List ℕ)
  pub rest : List ℕ
  pub split : seen ≡ ended_lines texts ++ rest
  pub whole : All HasNoLineFeed texts
  -- the interpreter behind them, and what is written for them
  pub state : S
  pub lines : List (List ℕ)
  pub lead : Lead means start texts state lines
  pub taken : Takes before after (ended_lines lines)

-- the bytes that were read, what the source has left, and what the sink took, by the outcome
abbrev pub IsOutcome : {S : Type 0} → (S → List ℕ → Meaning S) → S → LineOutcome → List ℕ → Option (List ℕ) → Option (List ℕ) → Option (List ℕ) → Type 0
IsOutcome means start Done seen left before after = AreDecisive means start seen left Done × Takes before after (output_of means start seen)
IsOutcome means start (Differ line) seen left before after =
    AreDecisive means start seen left (Differ line) × Takes before after (output_of means start seen)
IsOutcome means start (Refused line kind) seen left before after =
    AreDecisive means start seen left (Refused line kind) × Takes before after (output_of means start seen)
IsOutcome means start (TooLong line) seen left before after =
    AreDecisive means start seen left (TooLong line) × Takes before after (output_of means start seen)
IsOutcome means start ReadFault seen left before after = AreUndecided means start seen × Takes before after (output_of means start seen)
IsOutcome means start WriteFault seen left before after = TakesProperPrefix before after (output_of means start seen)
IsOutcome means start OutOfMemory seen left before after = TakesLines means start seen before after

-- What lines mean, and the interpreter that they find at first; what the source has left and the sink has taken, before
-- the run and after it; and the outcome.
pub record Runs {S : Type 0} (means : S → List ℕ → Meaning S) (start : S) (left_before left_after taken_before taken_after : Option (List ℕ)) (outcome : LineOutcome) : Type 0 where
  -- the bytes that were read in this call
  pub seen : List ℕ
  pub gives : Gives left_before left_after seen
  pub is_outcome : IsOutcome means start outcome seen left_after taken_before taken_after

-- The source's count of faults rises with a read fault alone.
abbrev pub HasReadCount : ℕ → ℕ → LineOutcome → Type 0
HasReadCount before now ReadFault = (before ≤ now) × Rose before now
HasReadCount before now Done = now ≡ before
HasReadCount before now (Differ line) = now ≡ before
HasReadCount before now (Refused line kind) = now ≡ before
HasReadCount before now WriteFault = now ≡ before
HasReadCount before now OutOfMemory = now ≡ before
HasReadCount before now (TooLong line) = now ≡ before

-- The sink's count of faults rises with a write fault alone.
abbrev pub HasWriteCount : ℕ → ℕ → LineOutcome → Type 0
HasWriteCount before now WriteFault = (before ≤ now) × Rose before now
HasWriteCount before now Done = now ≡ before
HasWriteCount before now (Differ line) = now ≡ before
HasWriteCount before now (Refused line kind) = now ≡ before
HasWriteCount before now ReadFault = now ≡ before
HasWriteCount before now OutOfMemory = now ≡ before
HasWriteCount before now (TooLong line) = now ≡ before

-- the outcome, or that memory was wanting
abbrev pub outcome_or : {E : Type 0} → Result LineOutcome E → LineOutcome
outcome_or (Ok outcome) = outcome
outcome_or (Err wanting) = OutOfMemory
