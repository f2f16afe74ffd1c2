-- How far the town's beginning has come.
use Rattle.std.specs.Prelude.{List, [], drop}
use Rattle.net_base.specs.declared.event.Event.{Event}
use Rattle.node_world.specs.Town.{first_events}
use Rattle.node_world.specs.declared.town.start.Start.{Start}
use Rattle.node_world.specs.declared.town.start.Start.TheVariants.{Targets, Locals, Over}

-- those of the first events that are not given yet
abbrev pub first_of : Start → List Event
first_of Targets = first_events
first_of Locals = drop 1 first_events
first_of Over = []
