-- Lines that pass: they were read, and none of them decides.
use Rattle.std.specs.Prelude.{◌≡◌, ℕ, List, [], ◌∷◌, ◌++◌, map, None}
use Rattle.trace_meaning.specs.Reading.{Reading, readings_of}
use Rattle.trace_meaning.specs.Judgement.{verdict_at}

abbrev pub texts_of : List Reading → List (List ℕ)
texts_of = map (λ reading. reading.text)

-- each of the later lines passes behind those before it
unfoldable pub PassBehind : List Reading → List Reading → Type 0
PassBehind before [] = Unit {0}
PassBehind before (reading ∷ readings) = (verdict_at before reading ≡ None) × PassBehind (before ++ reading ∷ []) readings

-- lines from the front of a trace, none of which decides
pub record ArePassed (readings : List Reading) : Type 0 where
  pub read : readings ≡ readings_of (texts_of readings)
  pub pass : PassBehind [] readings
