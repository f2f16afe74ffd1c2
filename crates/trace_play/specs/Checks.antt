-- What a call of `check` has read and written, by how it ended.
use Rattle.std.specs.Prelude.{◌≡◌, ℕ, ◌+◌, List, ◌++◌, length, Option, Some}
use Rattle.io_edge.specs.Lines.{whole_lines}
use Rattle.io_edge.specs.Told.{Gives, Takes, TakesProperPrefix}
use Rattle.net_base.specs.declared.refusal.RefusalKind.TheVariants.{NoEnd}
use Rattle.trace_compare.specs.Compare.{outcome_told, refused_at, comparison_of, report_of}
use Rattle.trace_meaning.specs.declared.outcome.Outcome.{Outcome}
use Rattle.trace_meaning.specs.declared.outcome.Outcome.TheVariants.{Done, Differ, Refused, ReadFault, WriteFault, OutOfMemory, WorldFault, TooLong}

-- what stands behind the bytes at the source changes nothing
abbrev pub AreSettled : List ℕ → Option (List ℕ) → Type 0
AreSettled seen left = (more : List ℕ) → left ≡ Some more → comparison_of (seen ++ more) ≡ comparison_of seen

-- the bytes decide how they compare, whatever stands behind them at the source
pub record AreCompared (seen : List ℕ) (left : Option (List ℕ)) (outcome : Outcome) : Type 0 where
  pub told : outcome ≡ outcome_told (comparison_of seen)
  pub settled : AreSettled seen left

-- The bytes end inside a line or before `end`; no line of them decides, and none differs.
abbrev pub AgreeSoFar : List ℕ → Type 0
AgreeSoFar seen = comparison_of seen ≡ refused_at (length (whole_lines seen) + 1) NoEnd

-- the bytes that were read, what the source has left, and what the sink took, by the outcome
abbrev pub IsChecked : Outcome → List ℕ → Option (List ℕ) → Option (List ℕ) → Option (List ℕ) → Type 0
IsChecked Done seen left before after = AreCompared seen left Done × Takes before after (report_of seen)
IsChecked (Differ line) seen left before after = AreCompared seen left (Differ line) × Takes before after (report_of seen)
IsChecked (Refused line kind) seen left before after = AreCompared seen left (Refused line kind) × (after ≡ before)
IsChecked (TooLong line) seen left before after = AreCompared seen left (TooLong line) × (after ≡ before)
IsChecked ReadFault seen left before after = AgreeSoFar seen × (after ≡ before)
IsChecked WriteFault seen left before after = AreSettled seen left × TakesProperPrefix before after (report_of seen)
IsChecked OutOfMemory seen left before after = after ≡ before
IsChecked WorldFault seen left before after = ⊥

pub record Checks (left_before left_after taken_before taken_after : Option (List ℕ)) (outcome : Outcome) : Type 0 where
  -- the bytes that were read in this call
  pub seen : List ℕ
  pub gives : Gives left_before left_after seen
  pub is_checked : IsChecked outcome seen left_after taken_before taken_after
