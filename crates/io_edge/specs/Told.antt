-- The bytes that a source has left and those that a sink has taken, where they are told. A call never changes
-- whether they are told.
use Rattle.std.specs.Prelude.{◌≡◌, ℕ, ◌<◌, List, ◌++◌, length, Option}
use Rattle.std.specs.Io.KnownBytes.{prepend_known, append_known}

-- these bytes went from the front of what was left
abbrev pub Gives : Option (List ℕ) → Option (List ℕ) → List ℕ → Type 0
Gives before after bytes = before ≡ prepend_known bytes after

-- these bytes came behind what was taken
abbrev pub Takes : Option (List ℕ) → Option (List ℕ) → List ℕ → Type 0
Takes before after bytes = after ≡ append_known before bytes

-- a front of these bytes came behind what was taken, and not all of them
pub record TakesProperPrefix (before after : Option (List ℕ)) (bytes : List ℕ) : Type 0 where
  pub front : List ℕ
  pub rest : List ℕ
  pub split : bytes ≡ front ++ rest
  pub proper : 0 < length rest
  pub taken : Takes before after front

-- a front of the pending bytes came behind what was taken, and the rest is pending still
pub record TakesFront (before after : Option (List ℕ)) (pending rest : List ℕ) : Type 0 where
  pub front : List ℕ
  pub split : pending ≡ front ++ rest
  pub taken : Takes before after front
