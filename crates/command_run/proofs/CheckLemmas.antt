-- What has come of a check, from what it read and wrote.
use Rattle.std.proofs.Common.{◌≡◌, ℕ, ◌⊎◌, List, [], Option, Some, None, inl, inr, ⊎_elim, sym, ap, ◌∙◌, subst}
use Rattle.std.proofs.lemmas.List.{append-nil}
use Rattle.io_edge.specs.Causes.{Rose}
use Rattle.io_edge.specs.Told.{Takes}
use Rattle.trace_compare.specs.Again.{FitsTrace}
use Rattle.trace_play.specs.CheckedInputs.{IsCheckOf}
use Rattle.trace_compare.specs.Compare.{outcome_told}
use Rattle.trace_play.specs.Checks.{Checks, AgreeSoFar}
use Rattle.trace_compare.specs.Compare.{comparison_of}
use Rattle.line_run.specs.Judgement.{ended}
use Rattle.trace_meaning.specs.Output.{output_of}
use Rattle.trace_meaning.specs.Replays.{verdict_of}
use Rattle.trace_meaning.specs.FaultCounts.{HasReadCount, HasWriteCount}
use Rattle.trace_meaning.specs.declared.outcome.Outcome.{Outcome}
use Rattle.trace_meaning.specs.declared.outcome.Outcome.TheVariants as outcome
use Rattle.trace_compare.proofs.Agreeing.{agreeing_lines}
use Rattle.trace_play.proofs.CheckInputs.{Checks-input}
use Rattle.command_run.specs.Command.{IsCheckStatus, IsAnswered}
use Rattle.command_run.specs.Laws.{HasFailedReading, ReadsOn}
use Rattle.command_run.specs.Checked.{status_compared, IsChecked, ComesOfCheck}
use Rattle.command_run.proofs.DueLemmas.{answered-due}
use Rattle.tool_status.specs.Streams.{StreamsTold}
use Rattle.tool_status.specs.Told.{status_told}
use Rattle.tool_status.specs.declared.status.Status.{Status}
use Rattle.tool_status.specs.declared.status.Status.TheVariants.{ReadFault, WriteFault, OutOfMemory}
use Rattle.tool_status.proofs.ToldLemmas.{outcome_is}

takes_nothing : (before after : Option (List ℕ)) → after ≡ before → Takes before after []
takes_nothing None after same = same
takes_nothing (Some taken) after same = same ∙ ap (λ (bytes : List ℕ). Some bytes) (sym (append-nil taken))

module _ (l0 l1 t0 t1 : Option (List ℕ)) where
  check_status : (o : Outcome) → Checks l0 l1 t0 t1 o → IsCheckStatus (status_told o)
  check_status outcome.Done r = tt
  check_status (outcome.Differ line) r = tt
  check_status (outcome.Refused line kind) r = tt
  check_status outcome.ReadFault r = tt
  check_status outcome.WriteFault r = tt
  check_status outcome.OutOfMemory r = tt
  check_status outcome.WorldFault r = r.is_checked
  check_status (outcome.TooLong line) r = tt

  -- the status that is due
  check_due : (r0 r1 w0 w1 : ℕ) (status : Status) (input : List ℕ) (o : Outcome) → status ≡ status_told o → IsCheckOf input o l1 t0 t1 →
      HasReadCount r0 r1 o → HasWriteCount w0 w1 o → IsAnswered (status_compared input) (Rose r0 r1) (Rose w0 w1) status
  check_due r0 r1 w0 w1 status input outcome.Done told come reads writes = inl (told ∙ ap (λ (o : Outcome). status_told o) come.told)
  check_due r0 r1 w0 w1 status input (outcome.Differ line) told come reads writes = inl (told ∙ ap (λ (o : Outcome). status_told o) come.told)
  check_due r0 r1 w0 w1 status input (outcome.Refused line kind) told come reads writes = inl (told ∙ ap (λ (o : Outcome). status_told o) come.told)
  check_due r0 r1 w0 w1 status input outcome.ReadFault told come reads writes = inr (inr (inl (told, reads.1)))
  check_due r0 r1 w0 w1 status input outcome.WriteFault told come reads writes = inr (inr (inr (told, writes.1)))
  check_due r0 r1 w0 w1 status input outcome.OutOfMemory told come reads writes = inr (inl told)
  check_due r0 r1 w0 w1 status input outcome.WorldFault told come reads writes = absurd come
  check_due r0 r1 w0 w1 status input (outcome.TooLong line) told come reads writes = inl (told ∙ ap (λ (o : Outcome). status_told o) come.told)

module _ (b a : StreamsTold) (status : Status) (r : IsChecked b a status) where
  pub checked-status : IsCheckStatus status
  checked-status = subst (λ (s : Status). IsCheckStatus s) (sym r.told) (check_status b.src.left a.src.left b.out.taken a.out.taken r.outcome r.checks)

  pub checked-read : status ≡ ReadFault → Rose b.src.faults a.src.faults
  checked-read is =
      let reads : HasReadCount b.src.faults a.src.faults outcome.ReadFault =
      subst (λ (x : Outcome). HasReadCount b.src.faults a.src.faults x) (outcome_is r.outcome outcome.ReadFault (sym is ∙ r.told)) r.reads in
      reads.1

  pub checked-write : status ≡ WriteFault → Rose b.out.faults a.out.faults
  checked-write is =
      let writes : HasWriteCount b.out.faults a.out.faults outcome.WriteFault =
      subst (λ (x : Outcome). HasWriteCount b.out.faults a.out.faults x) (outcome_is r.outcome outcome.WriteFault (sym is ∙ r.told)) r.writes in
      writes.1

  checked_come : (input : List ℕ) → b.src.left ≡ Some input → IsCheckOf input r.outcome a.src.left b.out.taken a.out.taken
  checked_come input is = Checks-input b.src.left a.src.left b.out.taken a.out.taken input r.outcome r.checks is

  checked_due : (input : List ℕ) → b.src.left ≡ Some input → IsAnswered (status_compared input) (Rose b.src.faults a.src.faults) (Rose b.out.faults a.out.faults) status
  checked_due input is = check_due b.src.left a.src.left b.out.taken a.out.taken b.src.faults a.src.faults b.out.faults a.out.faults status input r.outcome r.told (checked_come input is) r.reads r.writes

  checked_complete : (input : List ℕ) → b.src.left ≡ Some input → ¬ Rose b.src.faults a.src.faults → ¬ Rose b.out.faults a.out.faults → (status ≡ status_compared input) ⊎ (status ≡ OutOfMemory)
  checked_complete input is calm still = answered-due (status_compared input) status (Rose b.src.faults a.src.faults) (Rose b.out.faults a.out.faults) (checked_due input is) calm still

  -- with an outcome of which the status is known
  come_as : (o : Outcome) (input : List ℕ) → status ≡ status_told o → b.src.left ≡ Some input → IsCheckOf input o a.src.left b.out.taken a.out.taken
  come_as o input is told = subst (λ (x : Outcome). IsCheckOf input x a.src.left b.out.taken a.out.taken) (outcome_is r.outcome o (sym is ∙ r.told)) (checked_come input told)

  -- by the law that outputs agree
  pub checked-comes : ((trace : List ℕ) → verdict_of trace ≡ ended → FitsTrace (output_of trace) → outcome_told (comparison_of (output_of trace)) ≡ outcome.Done) →
      ComesOfCheck b a status
  checked-comes law = record {
    compared = λ input told. record { outcome = r.outcome; told = r.told; is_of = checked_come input told };
    answered = checked_due;
    complete = checked_complete;
    agreed = λ input told is. let done : IsCheckOf input outcome.Done a.src.left b.out.taken a.out.taken = come_as outcome.Done input is told in agreeing_lines input (sym done.told);
    agrees = λ trace told ends fits calm still.
        ⊎_elim (λ is. inl (is ∙ ap (λ (o : Outcome). status_told o) (law trace ends fits))) (λ wanting. inr wanting) (checked_complete (output_of trace) told calm still);
  }

  -- where a reading failed
  pub checked-read_on : HasFailedReading b a → ReadsOn AgreeSoFar (λ _. []) b a
  checked-read_on failed = by r.outcome r.checks r.reads r.writes
    where
      by : (o : Outcome) → Checks b.src.left a.src.left b.out.taken a.out.taken o → HasReadCount b.src.faults a.src.faults o → HasWriteCount b.out.faults a.out.faults o → ReadsOn AgreeSoFar (λ _. []) b a
      by outcome.ReadFault p reads writes = record { seen = p.seen; gives = p.gives; undecided = p.is_checked.0; put = takes_nothing b.out.taken a.out.taken p.is_checked.1; calm = writes }
      by (outcome.Differ line) p reads writes = absurd (failed reads)
      by (outcome.Refused line kind) p reads writes = absurd (failed reads)
      by outcome.Done p reads writes = absurd (failed reads)
      by outcome.WriteFault p reads writes = absurd (failed reads)
      by outcome.OutOfMemory p reads writes = absurd (failed reads)
      by outcome.WorldFault p reads writes = absurd (failed reads)
      by (outcome.TooLong line) p reads writes = absurd (failed reads)
