-- What a source and a sink tell of themselves.
use Rattle.std.specs.Prelude.{ℕ, List, Option}
use Rattle.tool_status.specs.Telling.{IsTold}

-- the bytes that a source has left, and how many of its calls failed
pub record SourceTold : Type 0 where
  pub left : Option (List ℕ)
  pub faults : ℕ

abbrev pub source_told : Option (List ℕ) → ℕ → SourceTold
source_told left faults = record { left = left; faults = faults }

-- the bytes that a sink took, and how many of its calls failed
pub record SinkTold : Type 0 where
  pub taken : Option (List ℕ)
  pub faults : ℕ

abbrev pub sink_told : Option (List ℕ) → ℕ → SinkTold
sink_told taken faults = record { taken = taken; faults = faults }

-- the sink took the whole text, or a front of it where its count of faults rose
abbrev pub IsSaid : SinkTold → SinkTold → List ℕ → Type 0
IsSaid before after text = IsTold before.taken after.taken before.faults after.faults text

-- a source and a sink
pub record StreamsTold : Type 0 where
  pub src : SourceTold
  pub out : SinkTold

abbrev pub streams_told : SourceTold → SinkTold → StreamsTold
streams_told src out = record { src = src; out = out }
