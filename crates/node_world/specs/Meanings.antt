-- What a world tells of itself, where it tells it, and when it may refuse. A call never changes whether a thing is told.
use Rattle.std.specs.Prelude.{◌≡◌, ℕ, ◌+◌, ◌-◌, ◌^◌, ◌≤◌, min, Bool, true, false, List, [], ◌∷◌, ◌++◌, Option, Some, Result, Ok, Err}
use Rattle.std.specs.Option.{option_map}
use Rattle.net_base.specs.Limits.{IsWithinLimits}
use Rattle.net_base.specs.declared.action.Action.{Action}
use Rattle.net_base.specs.declared.event.Event.{Event}
use Rattle.node_world.specs.declared.next.Next.{Next}
use Rattle.node_world.specs.declared.next.Next.TheVariants.{Event as Happens, End}
use Rattle.node_world.specs.declared.opening.Opening.{Opening}
use Rattle.node_world.specs.declared.refusal.WorldRefusal.{WorldRefusal}
use Rattle.node_world.specs.declared.refusal.WorldRefusal.TheVariants.{Failed, OutOfMemory}

-- what the world was opened with, where that is told: none before it was
abbrev pub opening_after : {T E : Type 0} → Option (Option Opening) → Opening → Result T E → Option (Option Opening)
opening_after told opening (Ok done) = option_map (λ before. Some opening) told
opening_after told opening (Err refusal) = told

-- a list, where it is told, with these items behind it
abbrev pub with_more : {T : Type 0} → Option (List T) → List T → Option (List T)
with_more told more = option_map (λ items. items ++ more) told

abbrev pub with_one_more : {T : Type 0} → Option (List T) → T → Option (List T)
with_one_more told item = with_more told (item ∷ [])

-- the events taken, where they are told: one more where one was given
abbrev pub taken_after : {E : Type 0} → Option (List Event) → Result Next E → Option (List Event)
taken_after told (Ok (Happens event)) = with_one_more told event
taken_after told (Ok End) = told
taken_after told (Err refusal) = told

-- the actions done, where they are told
abbrev pub done_after : {T E : Type 0} → Option (List Action) → Action → Result T E → Option (List Action)
done_after told action (Ok done) = with_one_more told action
done_after told action (Err refusal) = told

abbrev pub says_end : {E : Type 0} → Result Next E → Bool
says_end (Ok (Happens event)) = false
says_end (Ok End) = true
says_end (Err refusal) = false

-- an event that is given is one that there can be
abbrev pub IsNextWithinLimits : Next → Type 0
IsNextWithinLimits (Happens event) = IsWithinLimits event
IsNextWithinLimits End = Unit {0}

abbrev pub GivesWithinLimits : {E : Type 0} → Result Next E → Type 0
GivesWithinLimits (Ok next) = IsNextWithinLimits next
GivesWithinLimits (Err refusal) = Unit {0}

-- a count has risen, or stands at the last value of 64 bits
abbrev pub Rose : ℕ → ℕ → Type 0
Rose before now = min (before + 1) (2 ^ 64 - 1) ≤ now

-- A fault is answered only where the count of faults rose. The count never falls, and where no fault is answered it
-- stays.
abbrev pub HasCause : {T : Type 0} → ℕ → ℕ → Result T WorldRefusal → Type 0
HasCause before now (Ok value) = now ≡ before
HasCause before now (Err Failed) = (before ≤ now) × Rose before now
HasCause before now (Err OutOfMemory) = now ≡ before
