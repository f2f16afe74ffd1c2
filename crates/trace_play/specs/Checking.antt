-- What a line of a trace means that is compared with what is written for it.
use Rattle.std.specs.Prelude.{ℕ, ◌+◌, ◌-◌, nat_le, List, [], ◌++◌, length, drop, codes, bytes_eq, if◌then◌else◌, Option, Some, None}
use Rattle.io_edge.specs.Lines.{ended_lines}
use Rattle.io_edge.specs.Pending.{front_line}
use Rattle.line_run.specs.Judgement.{most_lines}
use Rattle.line_run.specs.Meaning.{Meaning, goes_on, ends, differs, is_refused, is_too_many}
use Rattle.trace_compare.specs.Compare.{agree, differ, report_lines}
use Rattle.trace_play.specs.Playback.{Kept, nothing_kept, events_taken}
use Rattle.trace_play.specs.Played.{played}

-- what is kept of lines that agree with their output: their playback, how many they are, and what else of the output is due
pub record Agreed : Type 0 where
  pub playback : Kept
  pub lines : ℕ
  pub due : List ℕ

abbrev pub agreed : Kept → ℕ → List ℕ → Agreed
agreed playback lines due = record { playback = playback; lines = lines; due = due }

-- no line was read yet
abbrev pub nothing_agreed : Agreed
nothing_agreed = agreed nothing_kept 0 []

-- the line behind so many that agree is another one than is due, if any is
abbrev pub is_another : ℕ → List ℕ → Option (List ℕ) → Meaning Agreed
is_another lines found want = differs (report_lines (differ (record { line = lines + 1; found = found; want = want })))

-- A line passes, and this is due then. It is to be the first line of that.
abbrev pub passing : ℕ → Kept → List ℕ → List ℕ → Option (List ℕ) → Meaning Agreed
passing lines next text due None = is_another lines text None
passing lines next text due (Some first) =
    if bytes_eq first text then goes_on (agreed next (lines + 1) (drop (length text + 1) due)) []
    else is_another lines text (Some first)

-- At `end`, behind so many lines, events and actions, nothing is to be due.
abbrev pub ending : ℕ → ℕ → ℕ → Option (List ℕ) → Meaning Agreed
ending lines events actions None = ends (report_lines (agree events actions))
ending lines events actions (Some first) = is_another lines (codes "end") (Some first)

-- how many of the lines that agree are neither of the head nor events
abbrev pub actions_before : Agreed → ℕ
actions_before before = before.lines - length before.playback.heads - events_taken before.playback.engine

-- A line, by what it means where it is played. No line differs by itself; that case is none of it.
abbrev pub compared : Agreed → List ℕ → Meaning Kept → Meaning Agreed
compared before text (goes_on next said) =
    let due = before.due ++ ended_lines said in passing before.lines next text due (front_line due)
compared before text (ends said) = ending before.lines (events_taken before.playback.engine) (actions_before before) (front_line before.due)
compared before text (differs said) = differs said
compared before text (is_refused kind) = is_refused kind
compared before text is_too_many = is_too_many

-- behind as many lines as an input may have no run comes to one more
abbrev pub checked : Agreed → List ℕ → Meaning Agreed
checked before text =
    if nat_le most_lines before.lines then is_too_many else compared before text (played [] before.playback text)
