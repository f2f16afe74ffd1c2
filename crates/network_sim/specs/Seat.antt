-- What a node does with an event, and what it has come to.
use Rattle.std.specs.Prelude.{◌≡◌, ◌<◌, ℕ, Bool, false, List, ◌++◌, length, All, Option, Some, None}
use Rattle.machine.specs.Machine.{Machine, start_of}
use Rattle.machine.specs.Run.{after_all}
use Rattle.machine.specs.Step.{step}
use Rattle.net_base.specs.Bounds.{AreSound}
use Rattle.net_base.specs.Limits.{IsWithinLimits}
use Rattle.net_base.specs.declared.action.Action.{Action}
use Rattle.net_base.specs.declared.event.Event.{Event}
use Rattle.net_base.specs.declared.settings.Settings.{Settings}
use Rattle.network_sim.specs.declared.kept.Kept.{Kept}
use Rattle.trace_compare.specs.Again.{FitsTrace}
use Rattle.trace_compare.specs.RunText.{text_of}
use Rattle.trace_compare.specs.Written.{IsTraceable, IsAgreeing}
use Rattle.trace_text.specs.EventTexts.{IsKnownIn}
use Rattle.trace_text.specs.HeadTexts.{printed_head}

-- the record is the machine's next one, and the actions are those for the event; or nothing happened
abbrev pub Takes : Machine → Event → Machine → Option (List Action) → Type 0
Takes before event after None = after ≡ before
Takes before event after (Some actions) = (after ≡ (step before event).machine) × (actions ≡ (step before event).actions)

-- memory was never wanting, fewer than a million events were taken, and a trace may hold this one
abbrev pub MayTake : Bool → ℕ → Event → Type 0
MayTake is_lost count event = (is_lost ≡ false) × (count < 1000000) × IsWithinLimits event

-- nothing is taken of it exactly where it may not be taken
abbrev pub TakesWhereItMay : Bool → ℕ → Event → Option (List Action) → Type 0
TakesWhereItMay is_lost count event None = ¬ (MayTake is_lost count event)
TakesWhereItMay is_lost count event (Some actions) = MayTake is_lost count event

-- what is kept is the trace of the run of these events, without its end
pub record IsTraceOf (settings : Settings) (events : List Event) (kept : Kept) : Type 0 where
  pub head : kept.head ≡ printed_head settings
  pub lines : kept.lines ≡ text_of (start_of settings) events
  pub version : settings.version ≡ 2
  pub own : IsKnownIn 2 settings.own
  pub traceable : All IsTraceable events

-- nothing is kept, or that is
abbrev pub IsKept : Settings → List Event → Option Kept → Type 0
IsKept settings events None = Unit {0}
IsKept settings events (Some kept) = IsTraceOf settings events kept

-- From the first record of its settings the machine has come to this record by so many events, and where a trace is kept
-- it is that of this run.
pub record HasRun (machine : Machine) (count : ℕ) (kept : Option Kept) : Type 0 where
  pub settings : Settings
  pub events : List Event
  pub sound : AreSound settings
  pub counted : count ≡ length events
  pub reached : machine ≡ after_all (start_of settings) events
  pub told : IsKept settings events kept

-- where it keeps the limits of a trace, `check` finds it to agree
abbrev pub Agrees : List ℕ → List ℕ → Type 0
Agrees head lines = FitsTrace (head ++ lines) → IsAgreeing (head ++ lines)
