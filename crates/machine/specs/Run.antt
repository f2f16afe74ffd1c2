-- The run of the machine over a list of events.
use Rattle.std.specs.Prelude.{List, [], ◌∷◌}
use Rattle.net_base.specs.declared.action.Action.{Action}
use Rattle.net_base.specs.declared.event.Event.{Event}
use Rattle.machine.specs.Machine.{Machine}
use Rattle.machine.specs.Step.{step}

-- the machine after all of the events
unfoldable pub after_all : Machine → List Event → Machine
after_all m [] = m
after_all m (event ∷ events) = after_all (step m event).machine events

-- the actions of each event
unfoldable pub actions_of : Machine → List Event → List (List Action)
actions_of m [] = []
actions_of m (event ∷ events) = (step m event).actions ∷ actions_of (step m event).machine events
