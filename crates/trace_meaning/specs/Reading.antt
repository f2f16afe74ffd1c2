-- The lines of a trace, each with what it says behind those before it.
use Rattle.std.specs.Prelude.{ℕ, List, [], ◌∷◌, Option, Some, None, Result, Ok, Err}
use Rattle.std.specs.List.{filter_map}
use Rattle.net_base.specs.declared.event.Event.{Event}
use Rattle.trace_text.specs.Lines.{line_of}
use Rattle.trace_text.specs.Stages.{first_stage, stage_after}
use Rattle.trace_text.specs.declared.line.HeadLine.{HeadLine}
use Rattle.trace_text.specs.declared.line.Line.{Line}
use Rattle.trace_text.specs.declared.line.Line.TheVariants.{Head, Happen, Acted, End}
use Rattle.trace_text.specs.declared.line.LineRefusal.{LineRefusal}
use Rattle.trace_text.specs.declared.stage.Stage.{Stage}

-- a line, without its line feed, and what it says
pub record Reading : Type 0 where
  pub text : List ℕ
  pub says : Result Line LineRefusal

-- a line that is refused leaves the stage as it is
abbrev pub stage_past : Stage → Result Line LineRefusal → Stage
stage_past stage (Ok line) = stage_after stage line
stage_past stage (Err refusal) = stage

-- what a line says at a stage, or why it is refused
unfoldable pub said_at : Stage → List ℕ → Result Line LineRefusal
said_at stage text = line_of stage text

abbrev pub reading_at : Stage → List ℕ → Reading
reading_at stage text = record { text = text; says = said_at stage text }

-- the stage that lines leave behind them
unfoldable pub stage_behind : List Reading → Stage → Stage
stage_behind [] stage = stage
stage_behind (reading ∷ readings) stage = stage_behind readings (stage_past stage reading.says)

-- each line read at the stage that those before it leave
unfoldable pub readings_from : Stage → List (List ℕ) → List Reading
readings_from stage [] = []
readings_from stage (text ∷ lines) =
    let reading = reading_at stage text in reading ∷ readings_from (stage_past stage reading.says) lines

abbrev pub readings_of : List (List ℕ) → List Reading
readings_of = readings_from first_stage

abbrev pub head_in : Result Line LineRefusal → Option HeadLine
head_in (Ok (Head head)) = Some head
head_in (Ok (Happen event)) = None
head_in (Ok Acted) = None
head_in (Ok End) = None
head_in (Err refusal) = None

abbrev pub event_in : Result Line LineRefusal → Option Event
event_in (Ok (Head head)) = None
event_in (Ok (Happen event)) = Some event
event_in (Ok Acted) = None
event_in (Ok End) = None
event_in (Err refusal) = None

-- what the head lines say
abbrev pub heads_in : List Reading → List HeadLine
heads_in = filter_map (λ reading. head_in reading.says)

-- the events of the event lines
abbrev pub events_in : List Reading → List Event
events_in = filter_map (λ reading. event_in reading.says)
