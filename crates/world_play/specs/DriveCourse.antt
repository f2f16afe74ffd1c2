-- How a drive stands while it runs.
use Rattle.std.specs.Prelude.{◌≡◌, ℕ, ◌<◌, ◌⊎◌, Bool, List, [], ◌∷◌, ◌++◌, length, All, Option}
use Rattle.io_edge.specs.Lines.{ended_lines}
use Rattle.io_edge.specs.Told.{Takes, TakesProperPrefix}
use Rattle.machine.specs.Machine.{Machine}
use Rattle.machine.specs.Run.{after_all}
use Rattle.machine.specs.Step.{step}
use Rattle.net_base.specs.declared.action.Action.{Action}
use Rattle.net_base.specs.declared.event.Event.{Event}
use Rattle.node_world.specs.Meanings.{with_more}
use Rattle.trace_text.specs.EventTexts.{printed_event}
use Rattle.world_play.specs.Drive.{IsFrontOf, acts_of, AreAll}
use Rattle.trace_compare.specs.RunText.{text_of}
use Rattle.trace_meaning.specs.Output.{told_event}
use Rattle.trace_compare.specs.Written.{IsTraceable}
use Rattle.trace_meaning.specs.declared.outcome.Outcome.{Outcome}
use Rattle.trace_meaning.specs.declared.outcome.Outcome.TheVariants as outcome

-- The machine took these events: each is written with its actions, and they are done.
pub record Ran (m : Machine) (events : List Event) (next : Machine) (done_before done_now : Option (List Action)) (out_before out_now : Option (List ℕ)) : Type 0 where
  pub machine_is : next ≡ after_all m events
  pub done : done_now ≡ with_more done_before (acts_of m events)
  pub out : Takes out_before out_now (text_of m events)
  pub traceable : All IsTraceable events

-- why it broke off, by what was written of what is due
abbrev pub IsBreak : Outcome → List ℕ → List ℕ → Type 0
IsBreak outcome.WriteFault written due = length written < length due
IsBreak outcome.WorldFault written due = written ≡ due
IsBreak outcome.OutOfMemory written due = Unit {0}
IsBreak other written due = ⊥

-- it broke off in the middle of one event, behind those before it
pub record Broke (m : Machine) (before : List Event) (event : Event) (done_before done_now : Option (List Action)) (out_before out_now : Option (List ℕ)) (result : Outcome) : Type 0 where
  pub written : List ℕ
  pub out : Takes out_before out_now written
  pub acts : List Action
  pub done : done_now ≡ with_more done_before acts
  pub text_behind : IsFrontOf (text_of m before) written
  pub text_before : IsFrontOf written (text_of m (before ++ event ∷ []))
  pub acts_behind : IsFrontOf (acts_of m before) acts
  pub acts_before : IsFrontOf acts (acts_of m (before ++ event ∷ []))
  pub why : IsBreak result written (text_of m (before ++ event ∷ []))
  -- where the world fails, it is at an action of the event
  pub short : result ≡ outcome.WorldFault → length acts < length (acts_of m (before ++ event ∷ []))

-- what was written of an event that was not acted on
abbrev pub IsUnsaid : Option (List ℕ) → Option (List ℕ) → List ℕ → Outcome → Type 0
IsUnsaid before now text outcome.WriteFault = TakesProperPrefix before now text
IsUnsaid before now text outcome.OutOfMemory = now ≡ before
IsUnsaid before now text other = ⊥

-- some of the actions were done, and not all
pub record DoesFront (before now : Option (List Action)) (actions : List Action) : Type 0 where
  pub acts : List Action
  pub front : IsFrontOf acts actions
  pub proper : length acts < length actions
  pub done : now ≡ with_more before acts

-- why the world did not do an action
abbrev pub IsOfWorld : Outcome → Type 0
IsOfWorld outcome.WorldFault = Unit {0}
IsOfWorld outcome.OutOfMemory = Unit {0}
IsOfWorld other = ⊥

-- It broke off at one of these events.
pub record BrokeAt (m : Machine) (events : List Event) (done_before done_now : Option (List Action)) (out_before out_now : Option (List ℕ)) (result : Outcome) : Type 0 where
  pub before : List Event
  pub event : Event
  pub later : List Event
  pub split : events ≡ before ++ event ∷ later
  pub broke : Broke m before event done_before done_now out_before out_now result

-- as many events of a world as there were turns were taken whole
abbrev pub RanFor : Machine → ℕ → Machine → Option (List Event) → Option (List Event) → Option (List Action) → Option (List Action) → Option (List ℕ) → Option (List ℕ) → Type 0
RanFor m turns next taken_before taken_now done_before done_now out_before out_now =
    (events : List Event) × (taken_now ≡ with_more taken_before events) × (length events ≡ turns) × Ran m events next done_before done_now out_before out_now

-- The events of a world were taken, as many as were asked for or up to its end.
pub record Came (m : Machine) (count : ℕ) (taken_before taken_now : Option (List Event)) (ended : Bool) (done_before done_now : Option (List Action)) (out_before out_now : Option (List ℕ)) : Type 0 where
  pub events : List Event
  pub taken : taken_now ≡ with_more taken_before events
  pub all : AreAll count ended events
  pub next : Machine
  pub ran : Ran m events next done_before done_now out_before out_now

-- It broke off at the last event that was taken.
pub record StoppedAt (m : Machine) (count : ℕ) (taken_before taken_now : Option (List Event)) (done_before done_now : Option (List Action)) (out_before out_now : Option (List ℕ)) (result : Outcome) : Type 0 where
  pub before : List Event
  pub event : Event
  pub taken : taken_now ≡ with_more taken_before (before ++ event ∷ [])
  pub few : length before < count
  pub broke : Broke m before event done_before done_now out_before out_now result

-- It broke off where the world was asked for the event behind those that were taken.
pub record StoppedBehind (m : Machine) (count : ℕ) (taken_before taken_now : Option (List Event)) (done_before done_now : Option (List Action)) (out_before out_now : Option (List ℕ)) (result : Outcome) : Type 0 where
  pub events : List Event
  pub taken : taken_now ≡ with_more taken_before events
  pub few : length events < count
  pub next : Machine
  pub ran : Ran m events next done_before done_now out_before out_now
  pub why : IsOfWorld result

abbrev pub Stopped : Machine → ℕ → Option (List Event) → Option (List Event) → Option (List Action) → Option (List Action) → Option (List ℕ) → Option (List ℕ) → Outcome → Type 0
Stopped m count t0 t1 d0 d1 o0 o1 result = StoppedAt m count t0 t1 d0 d1 o0 o1 result ⊎ StoppedBehind m count t0 t1 d0 d1 o0 o1 result
