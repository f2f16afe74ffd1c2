-- What `drive` takes from a world, does there and writes: the machine over given events and those of the world.
use Rattle.std.specs.Prelude.{◌≡◌, ℕ, ◌+◌, ◌<◌, ◌≤◌, ◌⊎◌, Bool, true, List, [], ◌∷◌, ◌++◌, length, Option, Result, Ok, Err}
use Rattle.std.specs.List.{flat_map}
use Rattle.io_edge.specs.Told.{Takes}
use Rattle.machine.specs.Machine.{Machine, start_of}
use Rattle.machine.specs.Run.{actions_of}
use Rattle.net_base.specs.declared.action.Action.{Action}
use Rattle.net_base.specs.declared.event.Event.{Event}
use Rattle.net_base.specs.declared.settings.Settings.{Settings}
use Rattle.node_world.specs.Meanings.{with_more, Rose}
use Rattle.trace_compare.specs.RunText.{text_up_to, whole_text}
use Rattle.trace_compare.specs.Written.{IsWrittenTrace}
use Rattle.trace_meaning.specs.declared.outcome.Outcome.{Outcome}
use Rattle.trace_meaning.specs.declared.outcome.Outcome.TheVariants as outcome

-- ---- all actions

-- the actions of all events, in order
unfoldable pub acts_of : Machine → List Event → List Action
acts_of m events = flat_map (λ actions. actions) (actions_of m events)

-- all actions of a run
abbrev pub all_actions : Settings → List Event → List Action
all_actions settings events = acts_of (start_of settings) events

-- ---- how a drive ended

pub record IsFrontOf {T : Type 0} (front whole : List T) : Type 0 where
  pub rest : List T
  pub split : whole ≡ front ++ rest

-- as many events of the world as were asked for, or fewer and the world's last answer was its end
abbrev pub AreAll : ℕ → Bool → List Event → Type 0
AreAll count ended events = (length events ≡ count) ⊎ ((length events < count) × (ended ≡ true))

-- The drive broke off: what was written and done are fronts of the whole. Where an event of the world was taken, all
-- events before the last one are written, and their actions done.
pub record BreaksOff (settings : Settings) (first events : List Event) (written : List ℕ) (acts : List Action) : Type 0 where
  pub text : IsFrontOf written (whole_text settings (first ++ events))
  pub done : IsFrontOf acts (all_actions settings (first ++ events))
  pub written_before : (before : List Event) (last : Event) → events ≡ before ++ last ∷ [] → IsFrontOf (text_up_to settings (first ++ before)) written
  pub done_before : (before : List Event) (last : Event) → events ≡ before ++ last ∷ [] → IsFrontOf (all_actions settings (first ++ before)) acts

-- All is written up to one of the events: the last, or one whose actions are not all done.
pub record SaysUpTo (settings : Settings) (events : List Event) (written : List ℕ) (acts : List Action) : Type 0 where
  pub heard : List Event
  pub front : IsFrontOf heard events
  pub written_is : written ≡ text_up_to settings heard
  pub why : (heard ≡ events) ⊎ (length acts < length (all_actions settings heard))

-- by the outcome, with the events that were taken from the world, what was written and the actions that were done
abbrev pub IsDriven : Outcome → Settings → List Event → ℕ → Bool → List Event → List ℕ → List Action → Type 0
IsDriven outcome.Done settings first count ended events written acts =
    AreAll count ended events × (written ≡ whole_text settings (first ++ events)) × (acts ≡ all_actions settings (first ++ events))
IsDriven outcome.WriteFault settings first count ended events written acts =
    BreaksOff settings first events written acts × (length written < length (whole_text settings (first ++ events)))
-- only `end` is missing, where an event of the world was taken
IsDriven outcome.WorldFault settings first count ended events written acts =
    BreaksOff settings first events written acts × (0 < length events → written ≡ text_up_to settings (first ++ events)) × SaysUpTo settings (first ++ events) written acts
IsDriven outcome.OutOfMemory settings first count ended events written acts = BreaksOff settings first events written acts
IsDriven other settings first count ended events written acts = ⊥

abbrev pub outcome_of_drive : Result (Unit {0}) Outcome → Outcome
outcome_of_drive (Ok done) = outcome.Done
outcome_of_drive (Err other) = other

-- What was taken, done and written in a call of `drive`, in the meanings of its world and its sink.
pub record Drives (settings : Settings) (first : List Event) (count : ℕ) (taken_before taken_after : Option (List Event)) (done_before done_after : Option (List Action))
    (ended : Bool) (out_before out_after : Option (List ℕ)) (result : Outcome) : Type 0 where
  pub events : List Event
  pub taken : taken_after ≡ with_more taken_before events
  pub acts : List Action
  pub done : done_after ≡ with_more done_before acts
  pub written : List ℕ
  pub out : Takes out_before out_after written
  pub few : length events ≤ count
  pub is_driven : IsDriven result settings first count ended events written acts
  pub is_trace : IsWrittenTrace result settings (first ++ events) written

-- The world's count of faults rises with a world fault alone.
abbrev pub HasWorldCount : ℕ → ℕ → Outcome → Type 0
HasWorldCount before now outcome.WorldFault = (before ≤ now) × Rose before now
HasWorldCount before now other = now ≡ before
