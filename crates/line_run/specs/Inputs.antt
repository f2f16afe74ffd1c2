-- What a run over lines comes to, in terms of the whole input.
use Rattle.std.specs.Prelude.{◌≡◌, ℕ, List, ◌++◌, Option, Some}
use Rattle.io_edge.specs.Told.{Takes, TakesProperPrefix}
use Rattle.line_run.specs.Meaning.{Meaning}
use Rattle.line_run.specs.Judgement.{Verdict, ended, differed, refused, too_long, output_of, verdict_of}
use Rattle.line_run.specs.Runs.{AreUndecided, TakesLines}
use Rattle.line_run.specs.declared.outcome.LineOutcome.{LineOutcome}
use Rattle.line_run.specs.declared.outcome.LineOutcome.TheVariants.{Done, Differ, Refused, ReadFault, WriteFault, OutOfMemory, TooLong}

-- The bytes that were read are a front of the input, and the rest is left.
pub record IsReadUpTo (input seen : List ℕ) (left_after : Option (List ℕ)) : Type 0 where
  pub rest : List ℕ
  pub split : input ≡ seen ++ rest
  pub left : left_after ≡ Some rest

-- The bytes that were read decide the input in one way, and the sink took its whole output.
pub record IsDecided {S : Type 0} (means : S → List ℕ → Meaning S) (start : S) (input : List ℕ) (verdict : Verdict) (left_after taken_before taken_after : Option (List ℕ)) : Type 0 where
  pub seen : List ℕ
  pub read : IsReadUpTo input seen left_after
  pub decides : verdict_of means start seen ≡ verdict
  pub verdict_is : verdict_of means start input ≡ verdict
  pub taken : Takes taken_before taken_after (output_of means start input)

-- The bytes that were read end inside a line or before the last one, and no line of them decides. The sink took exactly
-- what they give.
pub record StopsReading {S : Type 0} (means : S → List ℕ → Meaning S) (start : S) (input : List ℕ) (left_after taken_before taken_after : Option (List ℕ)) : Type 0 where
  pub seen : List ℕ
  pub read : IsReadUpTo input seen left_after
  pub undecided : AreUndecided means start seen
  pub taken : Takes taken_before taken_after (output_of means start seen)

-- The sink took a front of what the bytes that were read give, and not all of it.
pub record StopsWriting {S : Type 0} (means : S → List ℕ → Meaning S) (start : S) (input : List ℕ) (left_after taken_before taken_after : Option (List ℕ)) : Type 0 where
  pub seen : List ℕ
  pub read : IsReadUpTo input seen left_after
  pub part : TakesProperPrefix taken_before taken_after (output_of means start seen)

-- What an outcome says of an input that the source tells: what of it was read and is left, and what the sink took. Where
-- memory is wanting it took exactly what some lines at the front of the input give.
abbrev pub IsRunOver : {S : Type 0} → (S → List ℕ → Meaning S) → S → List ℕ → LineOutcome → Option (List ℕ) → Option (List ℕ) → Option (List ℕ) → Type 0
IsRunOver means start input Done left_after taken_before taken_after = IsDecided means start input ended left_after taken_before taken_after
IsRunOver means start input (Differ line) left_after taken_before taken_after = IsDecided means start input (differed line) left_after taken_before taken_after
IsRunOver means start input (Refused line kind) left_after taken_before taken_after = IsDecided means start input (refused line kind) left_after taken_before taken_after
IsRunOver means start input (TooLong line) left_after taken_before taken_after = IsDecided means start input (too_long line) left_after taken_before taken_after
IsRunOver means start input ReadFault left_after taken_before taken_after = StopsReading means start input left_after taken_before taken_after
IsRunOver means start input WriteFault left_after taken_before taken_after = StopsWriting means start input left_after taken_before taken_after
IsRunOver means start input OutOfMemory left_after taken_before taken_after = TakesLines means start input taken_before taken_after
