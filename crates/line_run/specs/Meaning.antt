-- What a line means to an interpreter.
use Rattle.std.specs.Prelude.{◌≡◌, ℕ, List, ◌++◌, Result, Ok, Err}
use Rattle.io_edge.specs.Lines.{ended_lines}
use Rattle.net_base.specs.declared.refusal.RefusalKind.{RefusalKind}
use Rattle.line_run.specs.declared.stop.Stop.{Stop}
use Rattle.line_run.specs.declared.stop.Stop.TheVariants.{Ended, Differs, Refused, TooMany, OutOfMemory}

-- The interpreter that stands behind the line, and the lines that are written for it. A line that ends the input, as it
-- should or since it differs from what is wanted, may have such lines too; one that is refused, or is one too many, has none.
pub data Meaning (S : Type 0) : Type 0 where
  goes_on : S → List (List ℕ) → Meaning S
  ends : List (List ℕ) → Meaning S
  differs : List (List ℕ) → Meaning S
  is_refused : RefusalKind → Meaning S
  is_too_many : Meaning S

-- these lines were said behind what was pending
abbrev pub Says : List ℕ → List ℕ → List (List ℕ) → Type 0
Says before after lines = after ≡ before ++ ended_lines lines

-- A line was interpreted: the interpreter after it, and what is pending before and after it. Where memory is wanting
-- nothing is said.
abbrev pub IsInterpreted : {S : Type 0} → Meaning S → S → List ℕ → List ℕ → Result (Unit {0}) Stop → Type 0
IsInterpreted meaning next before after (Ok done) = (lines : List (List ℕ)) × (meaning ≡ goes_on next lines) × Says before after lines
IsInterpreted meaning next before after (Err Ended) = (lines : List (List ℕ)) × (meaning ≡ ends lines) × Says before after lines
IsInterpreted meaning next before after (Err Differs) = (lines : List (List ℕ)) × (meaning ≡ differs lines) × Says before after lines
IsInterpreted meaning next before after (Err (Refused kind)) = (meaning ≡ is_refused kind) × (after ≡ before)
IsInterpreted meaning next before after (Err TooMany) = (meaning ≡ is_too_many) × (after ≡ before)
IsInterpreted meaning next before after (Err OutOfMemory) = after ≡ before
