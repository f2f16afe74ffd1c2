-- Every law, over a whole run.
use Rattle.std.specs.Prelude.{◌≡◌, List, ◌∷◌, ◌++◌}
use Rattle.laws.specs.Parts.{IsLawfulEvent}
use Rattle.laws.specs.Records.{IsLawfulRecord}
use Rattle.laws.specs.Words.{start_of, after_all, Event, Settings}

-- Every law holds in each record that the events reach, one after another, and at each event there.
pub record IsLawfulRun (settings : Settings) (events : List Event) : Type 0 where
  pub records : (before after : List Event) → events ≡ before ++ after → IsLawfulRecord (after_all (start_of settings) before)
  pub each : (before : List Event) (event : Event) (after : List Event) → events ≡ before ++ event ∷ after → IsLawfulEvent (after_all (start_of settings) before) event
