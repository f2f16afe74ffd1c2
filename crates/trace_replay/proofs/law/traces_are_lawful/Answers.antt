use Rattle.trace_meaning.specs.Judgement.{judged}
use Rattle.trace_meaning.specs.Reading.{heads_in, events_in}
use Rattle.trace_meaning.specs.Settings.{settings_in}
use Rattle.trace_meaning.proofs.Inputs.{settings_sound}
use Rattle.trace_replay.proofs.law.traces_are_lawful.Goals as goal

pub returns-clause-runs : goal.returns-clause-runs
returns-clause-runs c = λ seen. c.runs_are_lawful.ensures (settings_in (heads_in (judged seen).passed)) (events_in (judged seen).passed) (settings_sound seen)

pub returns-clause-replays : goal.returns-clause-replays
returns-clause-replays c = λ left0 left1 taken0 taken1 outcome r. record {
  replays = r;
  lawful = c.runs_are_lawful.ensures (settings_in (heads_in (judged r.seen).passed)) (events_in (judged r.seen).passed) (settings_sound r.seen);
}

pub returns-clause-checks : goal.returns-clause-checks
returns-clause-checks c = λ left0 left1 taken0 taken1 outcome r. record {
  checks = r;
  lawful = c.runs_are_lawful.ensures (settings_in (heads_in (judged r.seen).passed)) (events_in (judged r.seen).passed) (settings_sound r.seen);
}
