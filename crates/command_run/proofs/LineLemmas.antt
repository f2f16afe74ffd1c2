-- What has come of what lines led, from what was read and written.
use Rattle.std.proofs.Common.{◌≡◌, ℕ, List, Option, Some, inl, inr, sym, ap, ◌∙◌, subst}
use Rattle.io_edge.specs.Causes.{Rose}
use Rattle.line_run.specs.Inputs.{IsRunOver}
use Rattle.line_run.specs.Judgement.{Verdict, output_of}
use Rattle.line_run.specs.Meaning.{Meaning}
use Rattle.line_run.specs.Runs.{outcome_of, AreUndecided, Runs, HasReadCount, HasWriteCount}
use Rattle.line_run.specs.declared.outcome.LineOutcome.{LineOutcome}
use Rattle.line_run.specs.declared.outcome.LineOutcome.TheVariants as outcome
use Rattle.line_run.proofs.Differing.{NeverDiffers, none_differs}
use Rattle.line_run.proofs.Inputs.{Runs-input}
use Rattle.command_run.specs.Command.{IsAnswered, IsReplayStatus}
use Rattle.command_run.specs.Laws.{HasFailedReading, ReadsOn}
use Rattle.command_run.specs.Lined.{status_run, line_status, HasLed, ComesOfLines}
use Rattle.command_run.proofs.DueLemmas.{answered-due}
use Rattle.tool_status.specs.Streams.{StreamsTold}
use Rattle.tool_status.specs.declared.status.Status.{Status}
use Rattle.tool_status.specs.declared.status.Status.TheVariants.{ReadFault, WriteFault}

run_status : {S : Type 0} (means : S → List ℕ → Meaning S) (start : S) (l0 l1 t0 t1 : Option (List ℕ)) (o : LineOutcome) → NeverDiffers means → Runs means start l0 l1 t0 t1 o → IsReplayStatus (status_run o)
run_status means start l0 l1 t0 t1 outcome.Done never r = tt
run_status means start l0 l1 t0 t1 (outcome.Differ line) never r = none_differs means start l0 l1 t0 t1 line never r
run_status means start l0 l1 t0 t1 (outcome.Refused line kind) never r = tt
run_status means start l0 l1 t0 t1 outcome.ReadFault never r = tt
run_status means start l0 l1 t0 t1 outcome.WriteFault never r = tt
run_status means start l0 l1 t0 t1 outcome.OutOfMemory never r = tt
run_status means start l0 l1 t0 t1 (outcome.TooLong line) never r = tt

run_read : (before now : ℕ) (o : LineOutcome) → ReadFault ≡ status_run o → HasReadCount before now o → Rose before now
run_read before now outcome.Done e h = absurd cc
run_read before now (outcome.Differ line) e h = absurd cc
run_read before now (outcome.Refused line kind) e h = absurd cc
run_read before now outcome.ReadFault e h = h.1
run_read before now outcome.WriteFault e h = absurd cc
run_read before now outcome.OutOfMemory e h = absurd cc
run_read before now (outcome.TooLong line) e h = absurd cc

run_write : (before now : ℕ) (o : LineOutcome) → WriteFault ≡ status_run o → HasWriteCount before now o → Rose before now
run_write before now outcome.Done e h = absurd cc
run_write before now (outcome.Differ line) e h = absurd cc
run_write before now (outcome.Refused line kind) e h = absurd cc
run_write before now outcome.ReadFault e h = absurd cc
run_write before now outcome.WriteFault e h = h.1
run_write before now outcome.OutOfMemory e h = absurd cc
run_write before now (outcome.TooLong line) e h = absurd cc

-- the status that is due, by what has come of the input
due_over : {S : Type 0} (means : S → List ℕ → Meaning S) (start : S) (input : List ℕ) (l1 t0 t1 : Option (List ℕ)) (r0 r1 w0 w1 : ℕ) (status : Status) (o : LineOutcome) → status ≡ status_run o → IsRunOver means start input o l1 t0 t1 →
    HasReadCount r0 r1 o → HasWriteCount w0 w1 o → IsAnswered (line_status means start input) (Rose r0 r1) (Rose w0 w1) status
due_over means start input l1 t0 t1 r0 r1 w0 w1 status outcome.Done told over reads writes = inl (told ∙ sym (ap (λ (v : Verdict). status_run (outcome_of v)) over.verdict_is))
due_over means start input l1 t0 t1 r0 r1 w0 w1 status (outcome.Differ line) told over reads writes = inl (told ∙ sym (ap (λ (v : Verdict). status_run (outcome_of v)) over.verdict_is))
due_over means start input l1 t0 t1 r0 r1 w0 w1 status (outcome.Refused line kind) told over reads writes = inl (told ∙ sym (ap (λ (v : Verdict). status_run (outcome_of v)) over.verdict_is))
due_over means start input l1 t0 t1 r0 r1 w0 w1 status (outcome.TooLong line) told over reads writes = inl (told ∙ sym (ap (λ (v : Verdict). status_run (outcome_of v)) over.verdict_is))
due_over means start input l1 t0 t1 r0 r1 w0 w1 status outcome.ReadFault told over reads writes = inr (inr (inl (told, reads.1)))
due_over means start input l1 t0 t1 r0 r1 w0 w1 status outcome.WriteFault told over reads writes = inr (inr (inr (told, writes.1)))
due_over means start input l1 t0 t1 r0 r1 w0 w1 status outcome.OutOfMemory told over reads writes = inr (inl told)

module _ {S : Type 0} (means : S → List ℕ → Meaning S) (start : S) (lawful : ℕ → List ℕ → Type 0) (b a : StreamsTold) (status : Status) (p : HasLed means start lawful b a status) where
  pub led-status : NeverDiffers means → IsReplayStatus status
  led-status never = subst (λ (s : Status). IsReplayStatus s) (sym p.told) (run_status means start b.src.left a.src.left b.out.taken a.out.taken p.outcome never p.runs)

  pub led-read : status ≡ ReadFault → Rose b.src.faults a.src.faults
  led-read is = run_read b.src.faults a.src.faults p.outcome (sym is ∙ p.told) p.reads

  pub led-write : status ≡ WriteFault → Rose b.out.faults a.out.faults
  led-write is = run_write b.out.faults a.out.faults p.outcome (sym is ∙ p.told) p.writes

  led_over : (input : List ℕ) → b.src.left ≡ Some input → IsRunOver means start input p.outcome a.src.left b.out.taken a.out.taken
  led_over input told = Runs-input means start b.src.left a.src.left b.out.taken a.out.taken input p.outcome p.runs told

  led_due : (input : List ℕ) → b.src.left ≡ Some input → IsAnswered (line_status means start input) (Rose b.src.faults a.src.faults) (Rose b.out.faults a.out.faults) status
  led_due input told = due_over means start input a.src.left b.out.taken a.out.taken b.src.faults a.src.faults b.out.faults a.out.faults status p.outcome p.told (led_over input told) p.reads p.writes

  pub led-comes : ComesOfLines means start b a status
  led-comes = record {
    over = λ input told. record { outcome = p.outcome; told = p.told; over = led_over input told };
    answered = led_due;
    complete = λ input told calm still. answered-due (line_status means start input) status (Rose b.src.faults a.src.faults) (Rose b.out.faults a.out.faults) (led_due input told) calm still;
  }

  -- where a reading failed
  pub led-read_on : HasFailedReading b a → ReadsOn (AreUndecided means start) (output_of means start) b a
  led-read_on failed = by p.outcome p.runs p.reads p.writes
    where
      by : (o : LineOutcome) → Runs means start b.src.left a.src.left b.out.taken a.out.taken o → HasReadCount b.src.faults a.src.faults o → HasWriteCount b.out.faults a.out.faults o → ReadsOn (AreUndecided means start) (output_of means start) b a
      by outcome.ReadFault q reads writes = record { seen = q.seen; gives = q.gives; undecided = q.is_outcome.0; put = q.is_outcome.1; calm = writes }
      by outcome.Done q reads writes = absurd (failed reads)
      by (outcome.Differ line) q reads writes = absurd (failed reads)
      by (outcome.Refused line kind) q reads writes = absurd (failed reads)
      by outcome.WriteFault q reads writes = absurd (failed reads)
      by outcome.OutOfMemory q reads writes = absurd (failed reads)
      by (outcome.TooLong line) q reads writes = absurd (failed reads)
