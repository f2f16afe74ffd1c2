-- Which line decides how a trace ends.
use Rattle.std.specs.Prelude.{ℕ, ◌+◌, nat_le, List, [], ◌∷◌, ◌++◌, length, if◌then◌else◌, Option, Some, None, Result, Ok, Err}
use Rattle.io_edge.specs.Lines.{whole_lines, unfinished_line}
use Rattle.trace_text.specs.declared.line.Line.{Line}
use Rattle.trace_text.specs.declared.line.Line.TheVariants.{Head, Happen, Acted, End}
use Rattle.trace_text.specs.declared.line.LineRefusal.{LineRefusal}
use Rattle.line_run.specs.Judgement.{Verdict, ended, refused, too_long, is_too_long, verdict_of_rest}
use Rattle.line_run.specs.Refusals.{kind_of}
use Rattle.trace_meaning.specs.Reading.{Reading, readings_of, events_in}

-- how many events a trace may have
abbrev pub most_events : ℕ
most_events = 1000000

-- what a line that is short enough decides, by its number and by how many events stand before it
abbrev pub verdict_by : ℕ → ℕ → Result Line LineRefusal → Option Verdict
verdict_by number events (Ok (Head head)) = None
verdict_by number events (Ok (Happen event)) = if nat_le most_events events then Some (too_long number) else None
verdict_by number events (Ok Acted) = None
verdict_by number events (Ok End) = Some ended
verdict_by number events (Err refusal) = Some (refused number (kind_of refusal))

abbrev pub number_behind : List Reading → ℕ
number_behind before = length before + 1

-- what a line decides, by those before it
abbrev pub verdict_at : List Reading → Reading → Option Verdict
verdict_at before reading =
    if is_too_long (number_behind before) reading.text then Some (too_long (number_behind before))
    else verdict_by (number_behind before) (length (events_in before)) reading.says

-- the lines before the one that decides, and what it decides
pub record Judgement : Type 0 where
  pub passed : List Reading
  pub verdict : Verdict

abbrev pub judged_at : Option Verdict → List Reading → Judgement → Judgement
judged_at None before later = later
judged_at (Some verdict) before later = record { passed = before; verdict = verdict }

-- The first line that decides, from the front; behind the last whole line the bytes that are left decide.
unfoldable pub judged_from : List Reading → List Reading → List ℕ → Judgement
judged_from before [] rest = record { passed = before; verdict = verdict_of_rest (number_behind before) rest }
judged_from before (reading ∷ readings) rest =
    judged_at (verdict_at before reading) before (judged_from (before ++ reading ∷ []) readings rest)

abbrev pub judged : List ℕ → Judgement
judged bytes = judged_from [] (readings_of (whole_lines bytes)) (unfinished_line bytes)
