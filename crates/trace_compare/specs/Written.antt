-- The text of a run, read as a trace again.
use Rattle.std.specs.Prelude.{◌≡◌, ℕ, ◌⊎◌, List, All, Option}
use Rattle.io_edge.specs.Told.{Takes}
use Rattle.net_base.specs.Limits.{IsWithinLimits}
use Rattle.net_base.specs.declared.address.Addr.{Addr}
use Rattle.net_base.specs.declared.event.Event.{Event}
use Rattle.net_base.specs.declared.settings.Settings.{Settings}
use Rattle.trace_text.specs.EventTexts.{IsKnownIn, IsEventIn}
use Rattle.trace_compare.specs.Again.{FitsTrace}
use Rattle.trace_compare.specs.Compare.{outcome_told}
use Rattle.trace_compare.specs.Compare.{comparison_of}
use Rattle.trace_meaning.specs.declared.outcome.Outcome.{Outcome}
use Rattle.trace_meaning.specs.declared.outcome.Outcome.TheVariants as outcome

-- A trace of a version can hold this address of a node and these events.
pub record CanHold (version : ℕ) (own : Addr) (events : List Event) : Type 0 where
  pub own_known : IsKnownIn version own
  pub events_known : All (IsEventIn version) events

-- Version 2 has every address and event that the code can hold; version 1 is to have these.
abbrev pub FitsVersion : Settings → List Event → Type 0
FitsVersion settings events = (settings.version ≡ 2) ⊎ CanHold settings.version settings.own events

-- an event that a trace of version 2 can hold
abbrev pub IsTraceable : Event → Type 0
IsTraceable event = IsWithinLimits event × IsEventIn 2 event

-- the bytes, read as a trace up to its `end`, agree with what the machine does
abbrev pub IsAgreeing : List ℕ → Type 0
IsAgreeing bytes = outcome_told (comparison_of bytes) ≡ outcome.Done

-- With Done, what was written of these events agrees, where it keeps the limits of a trace.
abbrev pub IsWrittenTrace : Outcome → Settings → List Event → List ℕ → Type 0
IsWrittenTrace outcome.Done settings events written = FitsVersion settings events → FitsTrace written → IsAgreeing written
IsWrittenTrace other settings events written = Unit {0}

-- The sink took bytes which, where they keep the limits of a trace, agree.
pub record TakesAgreeing (taken_before taken_after : Option (List ℕ)) : Type 0 where
  pub written : List ℕ
  pub taken : Takes taken_before taken_after written
  pub agrees : FitsTrace written → IsAgreeing written
