-- What a line of a trace means behind those that were read.
use Rattle.std.specs.Prelude.{ℕ, ◌+◌, nat_le, List, [], ◌∷◌, ◌++◌, if◌then◌else◌, Some}
use Rattle.line_run.specs.Meaning.{Meaning, goes_on, ends, is_too_many}
use Rattle.line_run.specs.Refusals.{if_read}
use Rattle.machine.specs.Step.{step}
use Rattle.net_base.specs.declared.event.Event.{Event}
use Rattle.trace_meaning.specs.Judgement.{most_events}
use Rattle.trace_meaning.specs.Output.{told_event}
use Rattle.trace_meaning.specs.Reading.{said_at}
use Rattle.trace_play.specs.Playback.{Begun, Kept, events_taken, machine_before}
use Rattle.trace_text.specs.Stages.{stage_after}
use Rattle.trace_text.specs.declared.line.HeadLine.{HeadLine}
use Rattle.trace_text.specs.declared.line.Line.{Line}
use Rattle.trace_text.specs.declared.line.Line.TheVariants.{Head, Happen, Acted, End}

-- behind a line of the head
abbrev pub with_head : Kept → HeadLine → Kept
with_head before head = record { stage = stage_after before.stage (Head head); heads = before.heads ++ head ∷ []; engine = before.engine }

-- what steps, behind an event
abbrev pub stepped : Kept → Event → Begun
stepped before event = record { machine = (step (machine_before before) event).machine; events = events_taken before.engine + 1 }

-- behind an event line
abbrev pub with_event : Kept → Event → Kept
with_event before event = record { stage = stage_after before.stage (Happen event); heads = before.heads; engine = Some (stepped before event) }

-- A line, by what it says, with the lines that are written for the last one: a line of the head is written, an event line is
-- with the machine's actions below it, and an action line is not.
abbrev pub line_means : List (List ℕ) → Kept → List ℕ → Line → Meaning Kept
line_means last before text (Head head) = goes_on (with_head before head) (text ∷ [])
line_means last before text (Happen event) =
    if nat_le most_events (events_taken before.engine) then is_too_many
    else goes_on (with_event before event) (told_event (text, (step (machine_before before) event).actions))
line_means last before text Acted = goes_on before []
line_means last before text End = ends last

-- a line that is refused decides
abbrev pub played : List (List ℕ) → Kept → List ℕ → Meaning Kept
played last before text = if_read (said_at before.stage text) (line_means last before text)
