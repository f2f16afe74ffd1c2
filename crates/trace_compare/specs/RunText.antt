-- What is written of a run of the machine: a trace of its events and actions.
use Rattle.std.specs.Prelude.{ℕ, List, [], ◌∷◌, ◌++◌, map, codes}
use Rattle.std.specs.List.{flat_map, zip}
use Rattle.io_edge.specs.Lines.{ended_lines}
use Rattle.machine.specs.Machine.{Machine, start_of}
use Rattle.machine.specs.Run.{actions_of}
use Rattle.machine.specs.Step.{step}
use Rattle.net_base.specs.declared.event.Event.{Event}
use Rattle.net_base.specs.declared.settings.Settings.{Settings}
use Rattle.trace_text.specs.EventTexts.{printed_event}
use Rattle.trace_text.specs.HeadTexts.{printed_head}
use Rattle.trace_meaning.specs.Output.{told_event}

-- an event with its actions
unfoldable pub event_text : Machine → Event → List ℕ
event_text machine event = ended_lines (told_event (printed_event event, (step machine event).actions))

-- each event with its actions
unfoldable pub text_of : Machine → List Event → List ℕ
text_of m events = ended_lines (flat_map told_event (zip (map printed_event events) (actions_of m events)))

-- the head, and each event with its actions
abbrev pub text_up_to : Settings → List Event → List ℕ
text_up_to settings events = printed_head settings ++ text_of (start_of settings) events

abbrev pub whole_text : Settings → List Event → List ℕ
whole_text settings events = text_up_to settings events ++ ended_lines (codes "end" ∷ [])
