-- How the lines of a trace compare with those that `replay` writes for it.
use Rattle.std.specs.Prelude.{◌≡◌, ℕ, ◌+◌, Bool, true, false, List, [], ◌∷◌, ◌++◌, length, codes, decimal, bytes_eq, if◌then◌else◌, Option, Some, None, Result, Ok, Err}
use Rattle.std.specs.List.{filter}
use Rattle.io_edge.specs.Lines.{HasNoLineFeed, ended_lines}
use Rattle.net_base.specs.declared.refusal.RefusalKind.{RefusalKind}
use Rattle.trace_text.specs.Lines.{is_action_line}
use Rattle.trace_text.specs.declared.line.Line.{Line}
use Rattle.trace_text.specs.declared.line.Line.TheVariants.{Head, Happen, Acted, End}
use Rattle.trace_text.specs.declared.line.LineRefusal.{LineRefusal}
use Rattle.trace_meaning.specs.Reading.{Reading, events_in}
use Rattle.line_run.specs.Judgement.{Verdict, ended, differed, refused, too_long}
use Rattle.trace_meaning.specs.Judgement.{Judgement, judged}
use Rattle.trace_meaning.specs.Output.{lines_for, last_lines}
use Rattle.trace_meaning.specs.Passing.{texts_of}
use Rattle.trace_meaning.specs.declared.outcome.Outcome.{Outcome}
use Rattle.trace_meaning.specs.declared.outcome.Outcome.TheVariants.{Done, Differ, Refused, TooLong}

-- the lines that are there: those that pass, and `end`
abbrev pub lines_found : Judgement → List (List ℕ)
lines_found j = texts_of j.passed ++ last_lines j.verdict

-- the lines of the output
abbrev pub lines_written : Judgement → List (List ℕ)
lines_written j = lines_for j.passed ++ last_lines j.verdict

-- A line that differs, with its number from 1, and the action that is due there, if any.
pub record Difference : Type 0 where
  pub line : ℕ
  pub found : List ℕ
  pub want : Option (List ℕ)

-- the action that is due where these lines of the output come next
abbrev pub action_due : List (List ℕ) → Option (List ℕ)
action_due [] = None
action_due (line ∷ lines) = if is_action_line line then Some line else None

abbrev pub difference_at : ℕ → List ℕ → List (List ℕ) → Difference
difference_at number found written = record { line = number; found = found; want = action_due written }

-- The first of the lines that are there, numbered from some number on, that isn't the line of the output at its place.
unfoldable pub first_difference : ℕ → List (List ℕ) → List (List ℕ) → Option Difference
first_difference number [] written = None
first_difference number (line ∷ found) [] = Some (difference_at number line [])
first_difference number (line ∷ found) (other ∷ written) =
    if bytes_eq line other then first_difference (number + 1) found written
    else Some (difference_at number line (other ∷ written))

-- Lines that agree up to `end`, with how many events and actions are among them; the first line that differs; or the line
-- that decides, where none before it differs.
pub data Comparison : Type 0 where
  agree : ℕ → ℕ → Comparison
  differ : Difference → Comparison
  refused_at : ℕ → RefusalKind → Comparison
  too_long_at : ℕ → Comparison

abbrev pub is_acted : Result Line LineRefusal → Bool
is_acted (Ok (Head head)) = false
is_acted (Ok (Happen event)) = false
is_acted (Ok Acted) = true
is_acted (Ok End) = false
is_acted (Err refusal) = false

-- how many action lines were read
abbrev pub actions_in : List Reading → ℕ
actions_in readings = length (filter (λ reading. is_acted reading.says) readings)

-- What it comes to where no line differs. No line of a trace differs by itself; that case is none of it.
abbrev pub agreement : List Reading → Verdict → Comparison
agreement passed ended = agree (length (events_in passed)) (actions_in passed)
agreement passed (differed line) = differ (difference_at line [] [])
agreement passed (refused line kind) = refused_at line kind
agreement passed (too_long line) = too_long_at line

abbrev pub difference_or : Comparison → Option Difference → Comparison
difference_or agreed None = agreed
difference_or agreed (Some difference) = differ difference

abbrev pub comparison_for : Judgement → Comparison
comparison_for j = difference_or (agreement j.passed j.verdict) (first_difference 1 (lines_found j) (lines_written j))

abbrev pub comparison_of : List ℕ → Comparison
comparison_of bytes = comparison_for (judged bytes)

-- ---- what is written of it

abbrev pub want_line : Option (List ℕ) → List ℕ
want_line None = codes "want no action"
want_line (Some line) = codes "want " ++ line

abbrev pub report_lines : Comparison → List (List ℕ)
report_lines (agree events actions) = (codes "agree " ++ (decimal events ++ (codes " " ++ decimal actions))) ∷ []
report_lines (differ difference) =
    (codes "differ " ++ decimal difference.line) ∷ (codes "found " ++ difference.found) ∷ want_line difference.want ∷ []
report_lines (refused_at line kind) = []
report_lines (too_long_at line) = []

-- what `check` writes for the bytes of a trace
abbrev pub report_of : List ℕ → List ℕ
report_of bytes = ended_lines (report_lines (comparison_of bytes))

-- how a comparison is told
abbrev pub outcome_told : Comparison → Outcome
outcome_told (agree events actions) = Done
outcome_told (differ difference) = Differ difference.line
outcome_told (refused_at line kind) = Refused line kind
outcome_told (too_long_at line) = TooLong line

-- ---- the lines of actions

-- the line of an action
pub record IsAction (line : List ℕ) : Type 0 where
  pub begins : is_action_line line ≡ true
  pub one_line : HasNoLineFeed line
