-- The laws of the machine in the runs that are driven in a world or drilled in a town.
use Rattle.std.specs.Prelude.{◌≡◌, ℕ, zero, suc, List, [], ◌∷◌, ◌++◌, length, Option}
use Rattle.io_edge.specs.Lines.{ended_lines}
use Rattle.io_edge.specs.Told.{Takes}
use Rattle.laws.specs.Runs.{IsLawfulRun}
use Rattle.machine.specs.Machine.{start_of}
use Rattle.machine.specs.Run.{after_all}
use Rattle.net_base.specs.declared.action.Action.{Action}
use Rattle.net_base.specs.declared.event.Event.{Event}
use Rattle.net_base.specs.declared.settings.Settings.{Settings}
use Rattle.node_engine.specs.Tally.{tally_of}
use Rattle.node_world.specs.Meanings.{with_more}
use Rattle.node_world.specs.Town.{next_of}
use Rattle.world_drive.specs.Drill.{town_settings, drilled, counts_of, tally_lines, IsDrilled}
use Rattle.world_play.specs.Drive.{all_actions, IsFrontOf}
use Rattle.trace_compare.specs.RunText.{whole_text}
use Rattle.trace_meaning.specs.declared.outcome.Outcome.{Outcome}
use Rattle.world_drive.specs.declared.tallies.Tallies.{Tallies}

-- ---- in a world

-- What was taken from a world, done there and written, where that is told, is of one run, and the run is lawful.
pub record DrivesLawfully (settings : Settings) (first : List Event) (taken_before taken_after : Option (List Event)) (done_before done_after : Option (List Action))
    (out_before out_after : Option (List ℕ)) : Type 0 where
  pub events : List Event
  pub taken : taken_after ≡ with_more taken_before events
  pub acts : List Action
  pub done : done_after ≡ with_more done_before acts
  pub done_of : IsFrontOf acts (all_actions settings (first ++ events))
  pub written : List ℕ
  pub out : Takes out_before out_after written
  pub written_of : IsFrontOf written (whole_text settings (first ++ events))
  pub lawful : IsLawfulRun settings (first ++ events)

-- ---- in a town

-- the events that the town of a seed gives, so many
unfoldable pub town_events : ℕ → ℕ → List Event
town_events seed zero = []
town_events seed (suc count) = town_events seed count ++ (next_of (drilled seed count).town).0 ∷ []

-- what is counted of a run
abbrev pub tallies_of : Settings → List Event → Tallies
tallies_of settings events = record {
  events = length events;
  counts = counts_of (all_actions settings events);
  established = (tally_of (after_all (start_of settings) events)).established;
  active = (tally_of (after_all (start_of settings) events)).active;
}

abbrev pub counted_text : Settings → List Event → List ℕ
counted_text settings events = ended_lines (tally_lines (tallies_of settings events))

-- What was written counts the run of the town's events, by the outcome, and the run is lawful.
pub record DrillsLawfully (seed count : ℕ) (out_before out_after : Option (List ℕ)) (outcome : Outcome) : Type 0 where
  pub written : IsDrilled (counted_text town_settings (town_events seed count)) out_before out_after outcome
  pub lawful : IsLawfulRun town_settings (town_events seed count)
