-- What a call of `replay` has read and written, by how it ended.
use Rattle.std.specs.Prelude.{◌≡◌, ℕ, ◌+◌, List, ◌++◌, length, Option, Some, Result, Ok, Err}
use Rattle.io_edge.specs.Lines.{whole_lines}
use Rattle.io_edge.specs.Told.{Gives, Takes, TakesProperPrefix}
use Rattle.net_base.specs.declared.refusal.RefusalKind.TheVariants.{NoEnd}
use Rattle.line_run.specs.Judgement.{Verdict, ended, differed, refused, too_long}
use Rattle.line_run.specs.Runs.{TakesPrefix}
use Rattle.trace_meaning.specs.Judgement.{judged}
use Rattle.trace_meaning.specs.Output.{output_of}
use Rattle.trace_meaning.specs.declared.outcome.Outcome.{Outcome}
use Rattle.trace_meaning.specs.declared.outcome.Outcome.TheVariants.{Done, Differ, Refused, ReadFault, WriteFault, OutOfMemory, WorldFault, TooLong}

abbrev pub verdict_of : List ℕ → Verdict
verdict_of bytes = (judged bytes).verdict

-- how a verdict is told
abbrev pub outcome_of : Verdict → Outcome
outcome_of ended = Done
outcome_of (differed line) = Differ line
outcome_of (refused line kind) = Refused line kind
outcome_of (too_long line) = TooLong line

-- the bytes decide, whatever stands behind them at the source
pub record AreDecisive (seen : List ℕ) (left : Option (List ℕ)) (outcome : Outcome) : Type 0 where
  pub told : outcome ≡ outcome_of (verdict_of seen)
  pub settled : (more : List ℕ) → left ≡ Some more → judged (seen ++ more) ≡ judged seen

-- the bytes end inside a line or before `end`, and no line of them decides
abbrev pub AreUndecided : List ℕ → Type 0
AreUndecided seen = verdict_of seen ≡ refused (length (whole_lines seen) + 1) NoEnd

-- the bytes that were read, what the source has left, and what the sink took, by the outcome
abbrev pub IsOutcome : Outcome → List ℕ → Option (List ℕ) → Option (List ℕ) → Option (List ℕ) → Type 0
IsOutcome Done seen left before after = AreDecisive seen left Done × Takes before after (output_of seen)
IsOutcome (Refused line kind) seen left before after =
    AreDecisive seen left (Refused line kind) × Takes before after (output_of seen)
IsOutcome (TooLong line) seen left before after =
    AreDecisive seen left (TooLong line) × Takes before after (output_of seen)
IsOutcome ReadFault seen left before after = AreUndecided seen × Takes before after (output_of seen)
IsOutcome WriteFault seen left before after = TakesProperPrefix before after (output_of seen)
IsOutcome OutOfMemory seen left before after = TakesPrefix before after (output_of seen)
IsOutcome (Differ line) seen left before after = ⊥
IsOutcome WorldFault seen left before after = ⊥

-- the outcome, or that memory was wanting
abbrev pub outcome_or : {E : Type 0} → Result Outcome E → Outcome
outcome_or (Ok outcome) = outcome
outcome_or (Err wanting) = OutOfMemory

pub record Replays (left_before left_after taken_before taken_after : Option (List ℕ)) (outcome : Outcome) : Type 0 where
  -- the bytes that were read in this call
  pub seen : List ℕ
  pub gives : Gives left_before left_after seen
  pub is_outcome : IsOutcome outcome seen left_after taken_before taken_after
