-- What a replay comes to, in terms of the whole input.
use Rattle.std.specs.Prelude.{◌≡◌, ℕ, List, take, Option}
use Rattle.io_edge.specs.Told.{Takes, TakesProperPrefix}
use Rattle.machine.specs.Machine.{Machine}
use Rattle.machine.specs.Run.{after_all}
use Rattle.trace_meaning.specs.Reading.{events_in}
use Rattle.line_run.specs.Inputs.{IsReadUpTo}
use Rattle.line_run.specs.Judgement.{Verdict}
use Rattle.trace_meaning.specs.Judgement.{judged}
use Rattle.trace_meaning.specs.Output.{start_in, output_of}
use Rattle.trace_meaning.specs.Replays.{verdict_of, AreUndecided}
use Rattle.line_run.specs.Runs.{TakesPrefix}

-- The bytes that were read decide the input in one way, and the sink took its whole output.
pub record IsDecided (input : List ℕ) (verdict : Verdict) (left_after taken_before taken_after : Option (List ℕ)) : Type 0 where
  pub seen : List ℕ
  pub read : IsReadUpTo input seen left_after
  pub decides : verdict_of seen ≡ verdict
  pub verdict_is : verdict_of input ≡ verdict
  pub taken : Takes taken_before taken_after (output_of input)

-- The bytes that were read end inside a line or before `end`, and no line of them decides. The sink took exactly
-- what they give.
pub record StopsReading (input : List ℕ) (left_after taken_before taken_after : Option (List ℕ)) : Type 0 where
  pub seen : List ℕ
  pub read : IsReadUpTo input seen left_after
  pub undecided : AreUndecided seen
  pub taken : Takes taken_before taken_after (output_of seen)

-- The sink took a front of what the bytes that were read give, and not all of it.
pub record StopsWriting (input : List ℕ) (left_after taken_before taken_after : Option (List ℕ)) : Type 0 where
  pub seen : List ℕ
  pub read : IsReadUpTo input seen left_after
  pub part : TakesProperPrefix taken_before taken_after (output_of seen)

-- The sink took the whole output of some input that is decided so.
pub record IsOutputOfSome (verdict : Verdict) (taken_before taken_after : Option (List ℕ)) : Type 0 where
  pub input : List ℕ
  pub verdict_is : verdict_of input ≡ verdict
  pub taken : Takes taken_before taken_after (output_of input)

-- The sink took what some input gives that ends inside a line or before `end`.
pub record IsOutputSoFar (taken_before taken_after : Option (List ℕ)) : Type 0 where
  pub input : List ℕ
  pub undecided : AreUndecided input
  pub taken : Takes taken_before taken_after (output_of input)

-- The sink took a front of the output of some input, and not all of it.
pub record IsProperFrontOfSome (taken_before taken_after : Option (List ℕ)) : Type 0 where
  pub input : List ℕ
  pub part : TakesProperPrefix taken_before taken_after (output_of input)

-- The sink took a front of the output of some input.
pub record IsFrontOfSome (taken_before taken_after : Option (List ℕ)) : Type 0 where
  pub input : List ℕ
  pub front : TakesPrefix taken_before taken_after (output_of input)

-- the machine after so many events of the lines of an input that pass
abbrev pub machine_after : ℕ → List ℕ → Machine
machine_after count input =
    let passed = (judged input).passed in after_all (start_in passed) (take count (events_in passed))
