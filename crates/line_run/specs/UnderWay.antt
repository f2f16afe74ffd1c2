-- A run that is on its way, and how it goes on.
use Rattle.std.specs.Prelude.{◌≡◌, ℕ, ◌+◌, List, ◌∷◌, ◌++◌, length, All, Option, Result, Ok, Err}
use Rattle.io_edge.specs.Lines.{HasNoLineFeed, FitsLine, ended_lines}
use Rattle.io_edge.specs.Told.{Gives, Takes, TakesProperPrefix}
use Rattle.line_run.specs.Meaning.{Meaning, goes_on, ends, differs, is_refused, is_too_many, Says}
use Rattle.line_run.specs.Judgement.{Lead}
use Rattle.line_run.specs.Runs.{Runs}
use Rattle.line_run.specs.declared.outcome.LineOutcome.{LineOutcome}
use Rattle.line_run.specs.declared.stop.Stop.{Stop}
use Rattle.line_run.specs.declared.stop.Stop.TheVariants.{Ended, Differs, Refused as LineRefused, TooMany, OutOfMemory as NoMemory}
use Rattle.line_run.specs.declared.outcome.LineOutcome.TheVariants.{Done, Differ, Refused, ReadFault, WriteFault, OutOfMemory, TooLong}

-- What was said is what the sink took in this call, and behind it what is pending still.
pub record HasSaid (before now : Option (List ℕ)) (pending said : List ℕ) : Type 0 where
  pub written : List ℕ
  pub taken : Takes before now written
  pub all : said ≡ written ++ pending

-- Before the line with a number: the lines before it lead to this interpreter, and what they give was said. Behind them
-- some bytes that were read are kept.
pub record IsUnderWay {S : Type 0} (means : S → List ℕ → Meaning S) (start : S) (number : ℕ) (state : S) (kept pending : List ℕ) (left_before left_now taken_before taken_now : Option (List ℕ)) : Type 0 where
  pub texts : List (List ℕ)
  pub lines : List (List ℕ)
  pub lead : Lead means start texts state lines
  pub number_is : number ≡ length texts + 1
  pub whole : All HasNoLineFeed texts
  pub gives : Gives left_before left_now (ended_lines texts ++ kept)
  pub said : HasSaid taken_before taken_now pending (ended_lines lines)

-- What it comes to, once the sink takes what is pending, or a front of it and not all.
pub record IsEnding {S : Type 0} (means : S → List ℕ → Meaning S) (start : S) (left_before left_now taken_before taken_now : Option (List ℕ)) (pending : List ℕ) (outcome : LineOutcome) : Type 0 where
  pub whole : (taken_after : Option (List ℕ)) → Takes taken_now taken_after pending → Runs means start left_before left_now taken_before taken_after outcome
  pub part : (taken_after : Option (List ℕ)) → TakesProperPrefix taken_now taken_after pending → Runs means start left_before left_now taken_before taken_after WriteFault

-- It ends: after a fault nothing more is put, else what is pending is.
abbrev pub Ends : {S : Type 0} → (S → List ℕ → Meaning S) → S → Option (List ℕ) → Option (List ℕ) → Option (List ℕ) → Option (List ℕ) → List ℕ → LineOutcome → Type 0
Ends means start left_before left_now taken_before taken_now pending ReadFault = Runs means start left_before left_now taken_before taken_now ReadFault
Ends means start left_before left_now taken_before taken_now pending WriteFault = Runs means start left_before left_now taken_before taken_now WriteFault
Ends means start left_before left_now taken_before taken_now pending Done = IsEnding means start left_before left_now taken_before taken_now pending Done
Ends means start left_before left_now taken_before taken_now pending (Differ line) = IsEnding means start left_before left_now taken_before taken_now pending (Differ line)
Ends means start left_before left_now taken_before taken_now pending (Refused line kind) = IsEnding means start left_before left_now taken_before taken_now pending (Refused line kind)
Ends means start left_before left_now taken_before taken_now pending OutOfMemory = IsEnding means start left_before left_now taken_before taken_now pending OutOfMemory
Ends means start left_before left_now taken_before taken_now pending (TooLong line) = IsEnding means start left_before left_now taken_before taken_now pending (TooLong line)

-- The next line is there, in front of what is kept, or it ends.
abbrev pub IsLineNext : {S : Type 0} → (S → List ℕ → Meaning S) → S → ℕ → S → List ℕ → List ℕ → Option (List ℕ) → Option (List ℕ) → Option (List ℕ) → Option (List ℕ) → Result (List ℕ) LineOutcome → Type 0
IsLineNext means start number state kept pending left_before left_now taken_before taken_now (Ok line) =
    FitsLine line × IsUnderWay means start number state (line ++ 10 ∷ kept) pending left_before left_now taken_before taken_now
IsLineNext means start number state kept pending left_before left_now taken_before taken_now (Err outcome) = Ends means start left_before left_now taken_before taken_now pending outcome

-- It goes on to the line after, or ends.
abbrev pub IsTurn : {S : Type 0} → (S → List ℕ → Meaning S) → S → ℕ → S → List ℕ → List ℕ → Option (List ℕ) → Option (List ℕ) → Option (List ℕ) → Option (List ℕ) → Result (Unit {0}) LineOutcome → Type 0
IsTurn means start number next kept pending left_before left_now taken_before taken_now (Ok done) = IsUnderWay means start (number + 1) next kept pending left_before left_now taken_before taken_now
IsTurn means start number next kept pending left_before left_now taken_before taken_now (Err outcome) = Ends means start left_before left_now taken_before taken_now pending outcome

-- how the run ends where its interpreter stops at the line with a number
abbrev pub outcome_at : ℕ → Stop → LineOutcome
outcome_at number Ended = Done
outcome_at number Differs = Differ number
outcome_at number (LineRefused kind) = Refused number kind
outcome_at number TooMany = TooLong number
outcome_at number NoMemory = OutOfMemory

-- A line with a number was interpreted, and what it gives is said behind what was pending. How it ended is told.
abbrev pub IsInterpretedAt : {S : Type 0} → ℕ → Meaning S → S → List ℕ → List ℕ → Result (Unit {0}) LineOutcome → Type 0
IsInterpretedAt number meaning next before after (Ok done) = (lines : List (List ℕ)) × (meaning ≡ goes_on next lines) × Says before after lines
IsInterpretedAt number meaning next before after (Err Done) = (lines : List (List ℕ)) × (meaning ≡ ends lines) × Says before after lines
IsInterpretedAt number meaning next before after (Err (Differ line)) = (line ≡ number) × (lines : List (List ℕ)) × (meaning ≡ differs lines) × Says before after lines
IsInterpretedAt number meaning next before after (Err (Refused line kind)) = (line ≡ number) × (meaning ≡ is_refused kind) × (after ≡ before)
IsInterpretedAt number meaning next before after (Err (TooLong line)) = (line ≡ number) × (meaning ≡ is_too_many) × (after ≡ before)
IsInterpretedAt number meaning next before after (Err OutOfMemory) = after ≡ before
IsInterpretedAt number meaning next before after (Err ReadFault) = ⊥
IsInterpretedAt number meaning next before after (Err WriteFault) = ⊥
