-- What becomes of a trace that is kept.
use Rattle.std.specs.Prelude.{◌≡◌, List, [], ◌∷◌, ◌++◌, Option}
use Rattle.machine.specs.Machine.{start_of}
use Rattle.machine.specs.Run.{after_all}
use Rattle.machine.specs.Step.{step}
use Rattle.net_base.specs.Limits.{IsWithinLimits}
use Rattle.net_base.specs.declared.action.Action.{Action}
use Rattle.net_base.specs.declared.event.Event.{Event}
use Rattle.net_base.specs.declared.settings.Settings.{Settings}
use Rattle.network_sim.specs.Seat.{IsKept}
use Rattle.network_sim.specs.declared.kept.Kept.{Kept}

-- where it was the trace of some run, it is that of the run with this event behind it, of which these are the actions
abbrev pub KeepsOn : Event → List Action → Option Kept → Option Kept → Type 0
KeepsOn event actions before after = (settings : Settings) (events : List Event) → IsWithinLimits event →
    actions ≡ (step (after_all (start_of settings) events) event).actions → IsKept settings events before →
    IsKept settings (events ++ event ∷ []) after
