-- A text that is written to a sink, whole or in part.
use Rattle.std.specs.Prelude.{ℕ, List, ◌⊎◌, Option, Result, OnOk, OnErr}
use Rattle.io_edge.specs.Causes.{Rose, HasCause}
use Rattle.io_edge.specs.Told.{Takes, TakesProperPrefix}
use Rattle.io_edge.specs.declared.failed.Failed.{Failed}

-- Where no call failed the sink took the whole text, else a front of it, and its count of faults rose.
pub record Says (taken_before taken_after : Option (List ℕ)) (faults_before faults_after : ℕ) (text : List ℕ) (result : Result (Unit {0}) Failed) : Type 0 where
  pub whole : OnOk result (Takes taken_before taken_after text)
  pub part : OnErr result (TakesProperPrefix taken_before taken_after text)
  pub cause : HasCause faults_before faults_after result

-- the sink took the whole text, or a front of it where its count of faults rose
abbrev pub IsTold : Option (List ℕ) → Option (List ℕ) → ℕ → ℕ → List ℕ → Type 0
IsTold taken_before taken_after faults_before faults_after text =
    Takes taken_before taken_after text ⊎ (Rose faults_before faults_after × TakesProperPrefix taken_before taken_after text)
