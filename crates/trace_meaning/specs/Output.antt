-- What `replay` writes for the bytes of a trace.
use Rattle.std.specs.Prelude.{ℕ, List, [], ◌∷◌, ◌++◌, map, codes, Option, Some, None}
use Rattle.std.specs.List.{filter_map, flat_map, zip}
use Rattle.io_edge.specs.Lines.{ended_lines}
use Rattle.machine.specs.Machine.{Machine, start_of}
use Rattle.machine.specs.Run.{actions_of}
use Rattle.net_base.specs.declared.action.Action.{Action}
use Rattle.trace_text.specs.Actions.{printed_action}
use Rattle.trace_meaning.specs.Reading.{Reading, heads_in, events_in, head_in, event_in}
use Rattle.trace_meaning.specs.Settings.{settings_in}
use Rattle.line_run.specs.Judgement.{Verdict, ended, differed, refused, too_long}
use Rattle.trace_meaning.specs.Judgement.{Judgement, judged}

abbrev pub text_if : {A : Type 0} → Option A → List ℕ → Option (List ℕ)
text_if None text = None
text_if (Some found) text = Some text

-- the head lines as they were read
abbrev pub head_texts : List Reading → List (List ℕ)
head_texts = filter_map (λ reading. text_if (head_in reading.says) reading.text)

-- the event lines as they were read
abbrev pub event_texts : List Reading → List (List ℕ)
event_texts = filter_map (λ reading. text_if (event_in reading.says) reading.text)

-- the machine before any event
abbrev pub start_in : List Reading → Machine
start_in readings = start_of (settings_in (heads_in readings))

-- an event line, and below it a line for each of its actions
abbrev pub told_event : (List ℕ × List Action) → List (List ℕ)
told_event event = event.0 ∷ map printed_action event.1

-- each event line with the machine's actions for it
abbrev pub told_events : List Reading → List (List ℕ)
told_events readings = flat_map told_event (zip (event_texts readings) (actions_of (start_in readings) (events_in readings)))

-- what is written for lines that pass: those of the head, and each event with its actions
abbrev pub lines_for : List Reading → List (List ℕ)
lines_for readings = head_texts readings ++ told_events readings

-- No line of a trace differs by itself; that case is none of it.
abbrev pub last_lines : Verdict → List (List ℕ)
last_lines ended = codes "end" ∷ []
last_lines (differed number) = []
last_lines (refused number kind) = []
last_lines (too_long number) = []

-- what is written for lines that pass and the one that decides
abbrev pub output_for : Judgement → List ℕ
output_for j = ended_lines (lines_for j.passed ++ last_lines j.verdict)

abbrev pub output_of : List ℕ → List ℕ
output_of bytes = output_for (judged bytes)
