-- What a check comes to, in terms of the whole input.
use Rattle.std.specs.Prelude.{◌≡◌, ℕ, List, Option}
use Rattle.io_edge.specs.Told.{Takes, TakesProperPrefix}
use Rattle.trace_compare.specs.Compare.{comparison_of, report_of}
use Rattle.trace_compare.specs.Compare.{outcome_told}
use Rattle.trace_play.specs.Checks.{AgreeSoFar}
use Rattle.line_run.specs.Inputs.{IsReadUpTo}
use Rattle.trace_meaning.specs.declared.outcome.Outcome.{Outcome}
use Rattle.trace_meaning.specs.declared.outcome.Outcome.TheVariants.{Done, Differ, Refused, ReadFault, WriteFault, OutOfMemory, WorldFault, TooLong}

-- The bytes that were read compare as the input does, that is told, and the sink took the whole report.
pub record IsReported (input : List ℕ) (outcome : Outcome) (left_after taken_before taken_after : Option (List ℕ)) : Type 0 where
  pub seen : List ℕ
  pub read : IsReadUpTo input seen left_after
  pub compares : comparison_of seen ≡ comparison_of input
  pub told : outcome ≡ outcome_told (comparison_of input)
  pub taken : Takes taken_before taken_after (report_of input)

-- The bytes that were read end inside a line or before `end`, no line of them decides, and none differs. The sink took
-- nothing.
pub record StopsComparing (input : List ℕ) (left_after taken_before taken_after : Option (List ℕ)) : Type 0 where
  pub seen : List ℕ
  pub read : IsReadUpTo input seen left_after
  pub agreeing : AgreeSoFar seen
  pub untouched : taken_after ≡ taken_before

-- The sink took a front of the report, and not all of it.
pub record StopsReporting (input : List ℕ) (left_after taken_before taken_after : Option (List ℕ)) : Type 0 where
  pub seen : List ℕ
  pub read : IsReadUpTo input seen left_after
  pub compares : comparison_of seen ≡ comparison_of input
  pub part : TakesProperPrefix taken_before taken_after (report_of input)

-- what has come of the input, by the outcome
abbrev pub IsCheckOf : List ℕ → Outcome → Option (List ℕ) → Option (List ℕ) → Option (List ℕ) → Type 0
IsCheckOf input Done left before after = IsReported input Done left before after
IsCheckOf input (Differ line) left before after = IsReported input (Differ line) left before after
IsCheckOf input (Refused line kind) left before after = IsReported input (Refused line kind) left before after
IsCheckOf input (TooLong line) left before after = IsReported input (TooLong line) left before after
IsCheckOf input ReadFault left before after = StopsComparing input left before after
IsCheckOf input WriteFault left before after = StopsReporting input left before after
IsCheckOf input OutOfMemory left before after = after ≡ before
IsCheckOf input WorldFault left before after = ⊥
