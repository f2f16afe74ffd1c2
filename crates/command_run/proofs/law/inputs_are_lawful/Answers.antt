use Rattle.std.proofs.Common.{take}
use Rattle.trace_meaning.specs.Judgement.{judged}
use Rattle.trace_meaning.specs.Reading.{heads_in, events_in}
use Rattle.trace_meaning.specs.Settings.{settings_in}
use Rattle.trace_meaning.proofs.Inputs.{settings_sound}
use Rattle.command_run.proofs.law.inputs_are_lawful.Goals as goal

pub returns-clause-records : goal.returns-clause-records
returns-clause-records c = λ input count.
    c.laws_of_records.ensures.runs (settings_in (heads_in (judged input).passed)) (take count (events_in (judged input).passed)) (settings_sound input)

pub returns-clause-events : goal.returns-clause-events
returns-clause-events c = λ input count event.
    c.laws_of_events.ensures.runs (settings_in (heads_in (judged input).passed)) (take count (events_in (judged input).passed)) event (settings_sound input)

pub returns-clause-pairs : goal.returns-clause-pairs
returns-clause-pairs c = c.led_pairs_are_lawful.ensures

pub returns-clause-clients : goal.returns-clause-clients
returns-clause-clients c = c.led_clients_are_lawful.ensures
