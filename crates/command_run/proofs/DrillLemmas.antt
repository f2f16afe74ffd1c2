-- What has come of a drill, from what it wrote.
use Rattle.std.proofs.Common.{◌≡◌, ℕ, List, Option, inl, inr, sym, ◌∙◌, subst}
use Rattle.io_edge.specs.Causes.{Rose}
use Rattle.world_drive.specs.Drill.{IsDrilled, drill_text, town_settings}
use Rattle.world_drive.specs.Lawful.{counted_text, town_events}
use Rattle.trace_meaning.specs.FaultCounts.{HasWriteCount}
use Rattle.trace_meaning.specs.declared.outcome.Outcome.{Outcome}
use Rattle.trace_meaning.specs.declared.outcome.Outcome.TheVariants as outcome
use Rattle.command_run.specs.Command.{IsDrillStatus, IsAnswered}
use Rattle.command_run.specs.Drilled.{HasDrilled, IsDrillText, ComesOfDrill}
use Rattle.command_run.proofs.DueLemmas.{answered-due}
use Rattle.tool_status.specs.Streams.{SinkTold}
use Rattle.tool_status.specs.Told.{status_told}
use Rattle.tool_status.specs.declared.status.Status.{Status}
use Rattle.tool_status.specs.declared.status.Status.TheVariants.{Done, ReadFault, WriteFault}
use Rattle.tool_status.proofs.ToldLemmas.{outcome_is}

module _ (text : List ℕ) (t0 t1 : Option (List ℕ)) where
  drill_status : (o : Outcome) → IsDrilled text t0 t1 o → IsDrillStatus (status_told o)
  drill_status outcome.Done r = tt
  drill_status (outcome.Differ line) r = r
  drill_status (outcome.Refused line kind) r = r
  drill_status outcome.ReadFault r = r
  drill_status outcome.WriteFault r = tt
  drill_status outcome.OutOfMemory r = tt
  drill_status outcome.WorldFault r = r
  drill_status (outcome.TooLong line) r = r

  drill_written : (o : Outcome) → IsDrilled text t0 t1 o → IsDrillText (status_told o) text t0 t1
  drill_written outcome.Done r = r
  drill_written (outcome.Differ line) r = r
  drill_written (outcome.Refused line kind) r = r
  drill_written outcome.ReadFault r = r
  drill_written outcome.WriteFault r = r
  drill_written outcome.OutOfMemory r = r
  drill_written outcome.WorldFault r = r
  drill_written (outcome.TooLong line) r = r

  -- the status that is due
  drill_due : (w0 w1 : ℕ) (status : Status) (o : Outcome) → status ≡ status_told o → IsDrilled text t0 t1 o → HasWriteCount w0 w1 o → IsAnswered Done ⊥ (Rose w0 w1) status
  drill_due w0 w1 status outcome.Done told r writes = inl told
  drill_due w0 w1 status (outcome.Differ line) told r writes = absurd r
  drill_due w0 w1 status (outcome.Refused line kind) told r writes = absurd r
  drill_due w0 w1 status outcome.ReadFault told r writes = absurd r
  drill_due w0 w1 status outcome.WriteFault told r writes = inr (inr (inr (told, writes.1)))
  drill_due w0 w1 status outcome.OutOfMemory told r writes = inr (inl told)
  drill_due w0 w1 status outcome.WorldFault told r writes = absurd r
  drill_due w0 w1 status (outcome.TooLong line) told r writes = absurd r

module _ (seed count : ℕ) (b a : SinkTold) (status : Status) (r : HasDrilled seed count b a status) where
  abbrev text : List ℕ
  text = counted_text town_settings (town_events seed count)

  pub drilled-status : IsDrillStatus status
  drilled-status = subst (λ (s : Status). IsDrillStatus s) (sym r.told) (drill_status text b.taken a.taken r.outcome r.drilled)

  pub drilled-read : status ≡ ReadFault → ⊥
  drilled-read is = subst (λ (s : Status). IsDrillStatus s) is drilled-status

  pub drilled-write : status ≡ WriteFault → Rose b.faults a.faults
  drilled-write is =
      let writes : HasWriteCount b.faults a.faults outcome.WriteFault =
      subst (λ (x : Outcome). HasWriteCount b.faults a.faults x) (outcome_is r.outcome outcome.WriteFault (sym is ∙ r.told)) r.writes in
      writes.1

  drilled_due : IsAnswered Done ⊥ (Rose b.faults a.faults) status
  drilled_due = drill_due text b.taken a.taken b.faults a.faults status r.outcome r.told r.drilled r.writes

  drilled_text : IsDrillText status text b.taken a.taken
  drilled_text = subst (λ (s : Status). IsDrillText s text b.taken a.taken) (sym r.told) (drill_written text b.taken a.taken r.outcome r.drilled)

  -- by the law that a drill is counted of a run
  pub drilled-comes : drill_text seed count ≡ text → ComesOfDrill seed count b a status
  drilled-comes law = record {
    text = law;
    written = subst (λ (t : List ℕ). IsDrillText status t b.taken a.taken) (sym law) drilled_text;
    answered = drilled_due;
    complete = λ still. answered-due Done status ⊥ (Rose b.faults a.faults) drilled_due (λ none. none) still;
  }
