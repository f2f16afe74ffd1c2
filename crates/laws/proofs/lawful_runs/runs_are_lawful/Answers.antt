use Rattle.std.proofs.Common.{List}
use Rattle.laws.specs.Words.{AreSound, Event, Settings}
use Rattle.laws.specs.Runs.{IsLawfulRun}
use Rattle.laws.proofs.lawful_runs.runs_are_lawful.Goals as goal

pub returns : goal.returns
returns c =
    let lawful : (settings : Settings) (events : List Event) → AreSound settings → IsLawfulRun settings events =
    λ settings events sound. record {
      records = λ before after split. c.laws_of_records.ensures.runs settings before sound;
      each = λ before event after split. c.laws_of_events.ensures.runs settings before event sound;
    } in
    lawful
