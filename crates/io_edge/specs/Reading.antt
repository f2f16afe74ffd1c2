-- What reading the next line answers, and what it keeps.
use Rattle.std.specs.Prelude.{◌≡◌, ℕ, ◌≤◌, Bool, true, false, List, [], ◌∷◌, ◌++◌, Option, Some, None, Result, Ok, Err, ⊤, ◌⊎◌}
use Rattle.std.specs.Io.KnownBytes.{IsAtEnd}
use Rattle.io_edge.specs.declared.got.Got.{Got}
use Rattle.io_edge.specs.declared.got.Got.TheVariants.{Line, Over}
use Rattle.io_edge.specs.declared.line_fault.LineFault.{LineFault}
use Rattle.io_edge.specs.declared.line_fault.LineFault.TheVariants.{Failed, TooLong, OutOfMemory}
use Rattle.io_edge.specs.Causes.{Rose}
use Rattle.io_edge.specs.Told.{Gives}
use Rattle.io_edge.specs.Lines.{FitsLine, IsPastLimit}

-- The answer to the bytes that were seen, with those that are kept and those that the source has left.
abbrev pub IsAnswer : List ℕ → List ℕ → Option (List ℕ) → Result Got LineFault → Type 0
IsAnswer seen kept left (Ok (Line line)) = FitsLine line × (seen ≡ line ++ 10 ∷ kept)
IsAnswer seen kept left (Ok Over) = FitsLine seen × (kept ≡ seen) × IsAtEnd left
IsAnswer seen kept left (Err TooLong) = IsPastLimit seen × (kept ≡ seen)
IsAnswer seen kept left (Err Failed) = FitsLine seen × (kept ≡ seen)
IsAnswer seen kept left (Err OutOfMemory) = ¬ IsPastLimit seen × (kept ≡ seen)

-- The bytes that were seen are those kept before and those taken from the source, which come behind them. None are
-- taken where those kept are no front of a line that may still be given.
pub record ReadsLine (left_before left_after : Option (List ℕ)) (kept_before kept_after : List ℕ) (result : Result Got LineFault) : Type 0 where
  pub taken : List ℕ
  pub gives : Gives left_before left_after taken
  pub none_needed : ¬ FitsLine kept_before → taken ≡ []
  pub answer : IsAnswer (kept_before ++ taken) kept_after left_after result

-- The answer to all that the input has left, in whatever readings it comes.
abbrev pub AnswersInput : List ℕ → Result Got LineFault → Type 0
AnswersInput input (Ok (Line line)) = FitsLine line × ((rest : List ℕ) × (input ≡ line ++ 10 ∷ rest))
AnswersInput input (Ok Over) = FitsLine input
AnswersInput input (Err TooLong) = IsPastLimit input
AnswersInput input (Err Failed) = ⊤
AnswersInput input (Err OutOfMemory) = ⊤

-- neither a fault of the source nor want of memory
abbrev pub IsOfInput : Result Got LineFault → Type 0
IsOfInput (Ok got) = ⊤
IsOfInput (Err TooLong) = ⊤
IsOfInput (Err Failed) = ⊥
IsOfInput (Err OutOfMemory) = ⊥

-- A fault of the source is answered only where its count of faults rose, and else the count stays.
abbrev pub HasReadCause : ℕ → ℕ → Result Got LineFault → Type 0
HasReadCause before now (Err Failed) = (before ≤ now) × Rose before now
HasReadCause before now (Err TooLong) = now ≡ before
HasReadCause before now (Err OutOfMemory) = now ≡ before
HasReadCause before now (Ok got) = now ≡ before

-- The line that is taken out of the bytes at hand, a front of it that is held and those ahead, with what is held and
-- ahead after it. None is taken where it does not end there.
abbrev pub TakesLine : List ℕ → List ℕ → List ℕ → Result (Option (List ℕ)) LineFault → Type 0
TakesLine seen held ahead (Ok (Some line)) = FitsLine line × (seen ≡ line ++ 10 ∷ ahead) × (held ≡ [])
TakesLine seen held ahead (Ok None) = FitsLine seen × (held ≡ seen) × (ahead ≡ [])
TakesLine seen held ahead (Err TooLong) = IsPastLimit seen
TakesLine seen held ahead (Err OutOfMemory) = ¬ IsPastLimit seen
TakesLine seen held ahead (Err Failed) = ⊥

-- The line that stands whole in the bytes kept is taken out of them, and is what the buffer holds. None is where they are
-- the front of a line, or of one that is too long.
abbrev pub TakesKept : {E : Type 0} → List ℕ → List ℕ → List ℕ → Result Bool E → Type 0
TakesKept before after line (Ok true) = FitsLine line × (before ≡ line ++ 10 ∷ after)
TakesKept before after line (Ok false) = (FitsLine before ⊎ IsPastLimit before) × (after ≡ before)
TakesKept before after line (Err wanting) = after ≡ before
