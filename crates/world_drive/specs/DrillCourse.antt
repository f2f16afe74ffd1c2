-- How a drill stands while it runs.
use Rattle.std.specs.Prelude.{◌≡◌, ◌+◌}
use Rattle.machine.specs.Machine.{Machine}
use Rattle.node_world.specs.Town.{Town}
use Rattle.world_drive.specs.Drill.{Drilled, counts_of}
use Rattle.world_drive.specs.declared.tallies.Counts.{Counts}

-- the town, the engine's machine and what was counted are those of the run
pub record StandsAt (town : Town) (machine : Machine) (counts : Counts) (d : Drilled) : Type 0 where
  pub town_is : town ≡ d.town
  pub machine_is : machine ≡ d.machine
  pub counts_are : counts ≡ counts_of d.actions

-- what was counted in two lists, one behind the other
abbrev pub counts_joined : Counts → Counts → Counts
counts_joined first second = record {
  actions = first.actions + second.actions;
  admitted = first.admitted + second.admitted;
  turned = first.turned + second.turned;
  dials = first.dials + second.dials;
  closes = first.closes + second.closes;
}
