-- A world that follows a script.
use Rattle.std.specs.Prelude.{◌≡◌, ℕ, ◌+◌, ◌-◌, ◌^◌, min, Bool, true, false, ◌==◌, List, [], ◌∷◌, ◌++◌, if◌then◌else◌, Option, None, Result, Ok, Err}
use Rattle.std.specs.List.{list_any}
use Rattle.net_base.specs.declared.action.Action.{Action}
use Rattle.net_base.specs.declared.event.Event.{Event}
use Rattle.node_world.specs.declared.next.Next.{Next}
use Rattle.node_world.specs.declared.next.Next.TheVariants.{Event as Happens, End}
use Rattle.node_world.specs.declared.opening.Opening.{Opening}
use Rattle.node_world.specs.declared.refusal.WorldRefusal.{WorldRefusal}
use Rattle.node_world.specs.declared.refusal.WorldRefusal.TheVariants.{Failed, OutOfMemory}
use Rattle.net_base.specs.Calls.{Calls, next_fails, after_call}

pub record Script : Type 0 where
  -- what it was opened with, none where it is not open
  pub opening : Option Opening
  pub taken : List Event
  pub left : List Event
  -- the last call for an event answered the end
  pub ended : Bool
  pub done : List Action
  pub calls : Calls

abbrev pub new_script : List Event → List ℕ → Script
new_script events failing = record {
  opening = None;
  taken = [];
  left = events;
  ended = false;
  done = [];
  calls = record { made = 0; failing = failing; faults = 0 };
}

-- ---- the next event

abbrev pub first_of : List Event → Next
first_of [] = End
first_of (event ∷ left) = Happens event

abbrev pub next_answer : Script → Result Next WorldRefusal
next_answer script = if next_fails script.calls then Err Failed else Ok (first_of script.left)

abbrev pub called : Script → Script
called script = record script { ended = false; calls = after_call script.calls }

abbrev pub after_taking : List Event → Script → Script
after_taking [] script = record script { ended = true }
after_taking (event ∷ left) script = record script { taken = script.taken ++ event ∷ []; left = left }

abbrev pub after_next : Script → Script
after_next script = if next_fails script.calls then called script else after_taking script.left (called script)

-- ---- an action

-- a call that fails fails by a fault, and no other does
abbrev pub IsAnswerOf : {T : Type 0} → Calls → Result T WorldRefusal → Type 0
IsAnswerOf calls (Ok value) = next_fails calls ≡ false
IsAnswerOf calls (Err Failed) = next_fails calls ≡ true
IsAnswerOf calls (Err OutOfMemory) = next_fails calls ≡ false

abbrev pub after_act : {T E : Type 0} → Script → Action → Result T E → Script
after_act script action (Ok value) = record script { done = script.done ++ action ∷ []; calls = after_call script.calls }
after_act script action (Err refusal) = record script { calls = after_call script.calls }
