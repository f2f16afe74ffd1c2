-- What has come of a replay, from what it read and wrote.
use Rattle.std.proofs.Common.{◌≡◌, ℕ, List, Option, Some, inl, inr, sym, ap, ◌∙◌, subst}
use Rattle.io_edge.specs.Causes.{Rose}
use Rattle.line_run.specs.Judgement.{Verdict}
use Rattle.trace_meaning.specs.Output.{output_of}
use Rattle.trace_meaning.specs.Replays.{verdict_of, Replays, AreUndecided}
use Rattle.trace_meaning.specs.FaultCounts.{HasReadCount, HasWriteCount}
use Rattle.trace_meaning.specs.declared.outcome.Outcome.{Outcome}
use Rattle.trace_meaning.specs.declared.outcome.Outcome.TheVariants as outcome
use Rattle.trace_compare.proofs.Again.{some_own_output}
use Rattle.trace_meaning.proofs.Inputs.{Replays-done, Replays-refused, Replays-too_long, Replays-read_fault, Replays-write_fault, Replays-memory, some_done, some_refused, some_too_long, some_read_fault, some_write_fault, some_memory}
use Rattle.command_run.specs.Command.{IsReplayStatus, IsAnswered}
use Rattle.command_run.specs.Laws.{HasFailedReading, ReadsOn}
use Rattle.command_run.specs.Replayed.{status_of, HasSomeOutput, IsReplayed, ComesOfReplay}
use Rattle.command_run.proofs.DueLemmas.{answered-due}
use Rattle.tool_status.specs.Streams.{StreamsTold}
use Rattle.tool_status.specs.Told.{status_told}
use Rattle.tool_status.specs.declared.status.Status.{Status}
use Rattle.tool_status.specs.declared.status.Status.TheVariants.{ReadFault, WriteFault}
use Rattle.tool_status.proofs.ToldLemmas.{outcome_is}

module _ (l0 l1 t0 t1 : Option (List ℕ)) where
  replay_status : (o : Outcome) → Replays l0 l1 t0 t1 o → IsReplayStatus (status_told o)
  replay_status outcome.Done r = tt
  replay_status (outcome.Differ line) r = r.is_outcome
  replay_status (outcome.Refused line kind) r = tt
  replay_status outcome.ReadFault r = tt
  replay_status outcome.WriteFault r = tt
  replay_status outcome.OutOfMemory r = tt
  replay_status outcome.WorldFault r = r.is_outcome
  replay_status (outcome.TooLong line) r = tt

  replay_output : (o : Outcome) → Replays l0 l1 t0 t1 o → HasSomeOutput (status_told o) t0 t1
  replay_output outcome.Done r = some_done l0 l1 t0 t1 r
  replay_output (outcome.Differ line) r = r.is_outcome
  replay_output (outcome.Refused line kind) r = some_refused l0 l1 t0 t1 line kind r
  replay_output outcome.ReadFault r = some_read_fault l0 l1 t0 t1 r
  replay_output outcome.WriteFault r = some_write_fault l0 l1 t0 t1 r
  replay_output outcome.OutOfMemory r = some_memory l0 l1 t0 t1 r
  replay_output outcome.WorldFault r = r.is_outcome
  replay_output (outcome.TooLong line) r = some_too_long l0 l1 t0 t1 line r

  -- the status that is due
  replay_due : (r0 r1 w0 w1 : ℕ) (status : Status) (input : List ℕ) (o : Outcome) → status ≡ status_told o → Replays l0 l1 t0 t1 o → l0 ≡ Some input →
      HasReadCount r0 r1 o → HasWriteCount w0 w1 o → IsAnswered (status_of (verdict_of input)) (Rose r0 r1) (Rose w0 w1) status
  replay_due r0 r1 w0 w1 status input outcome.Done told r is reads writes =
      inl (told ∙ sym (ap (λ (v : Verdict). status_of v) (Replays-done l0 l1 t0 t1 input r is).verdict_is))
  replay_due r0 r1 w0 w1 status input (outcome.Differ line) told r is reads writes = absurd r.is_outcome
  replay_due r0 r1 w0 w1 status input (outcome.Refused line kind) told r is reads writes =
      inl (told ∙ sym (ap (λ (v : Verdict). status_of v) (Replays-refused l0 l1 t0 t1 input line kind r is).verdict_is))
  replay_due r0 r1 w0 w1 status input outcome.ReadFault told r is reads writes = inr (inr (inl (told, reads.1)))
  replay_due r0 r1 w0 w1 status input outcome.WriteFault told r is reads writes = inr (inr (inr (told, writes.1)))
  replay_due r0 r1 w0 w1 status input outcome.OutOfMemory told r is reads writes = inr (inl told)
  replay_due r0 r1 w0 w1 status input outcome.WorldFault told r is reads writes = absurd r.is_outcome
  replay_due r0 r1 w0 w1 status input (outcome.TooLong line) told r is reads writes =
      inl (told ∙ sym (ap (λ (v : Verdict). status_of v) (Replays-too_long l0 l1 t0 t1 input line r is).verdict_is))

module _ (b a : StreamsTold) (status : Status) (r : IsReplayed b a status) where
  -- with an outcome of which the status is known
  replays_as : (o : Outcome) → status ≡ status_told o → Replays b.src.left a.src.left b.out.taken a.out.taken o
  replays_as o is = subst (λ (x : Outcome). Replays b.src.left a.src.left b.out.taken a.out.taken x) (outcome_is r.outcome o (sym is ∙ r.told)) r.replays

  pub replayed-status : IsReplayStatus status
  replayed-status = subst (λ (s : Status). IsReplayStatus s) (sym r.told) (replay_status b.src.left a.src.left b.out.taken a.out.taken r.outcome r.replays)

  pub replayed-read : status ≡ ReadFault → Rose b.src.faults a.src.faults
  replayed-read is =
      let reads : HasReadCount b.src.faults a.src.faults outcome.ReadFault =
      subst (λ (x : Outcome). HasReadCount b.src.faults a.src.faults x) (outcome_is r.outcome outcome.ReadFault (sym is ∙ r.told)) r.reads in
      reads.1

  pub replayed-write : status ≡ WriteFault → Rose b.out.faults a.out.faults
  replayed-write is =
      let writes : HasWriteCount b.out.faults a.out.faults outcome.WriteFault =
      subst (λ (x : Outcome). HasWriteCount b.out.faults a.out.faults x) (outcome_is r.outcome outcome.WriteFault (sym is ∙ r.told)) r.writes in
      writes.1

  replayed_due : (input : List ℕ) → b.src.left ≡ Some input → IsAnswered (status_of (verdict_of input)) (Rose b.src.faults a.src.faults) (Rose b.out.faults a.out.faults) status
  replayed_due input is = replay_due b.src.left a.src.left b.out.taken a.out.taken b.src.faults a.src.faults b.out.faults a.out.faults status input r.outcome r.told r.replays is r.reads r.writes

  replayed_output : HasSomeOutput status b.out.taken a.out.taken
  replayed_output = subst (λ (s : Status). HasSomeOutput s b.out.taken a.out.taken) (sym r.told) (replay_output b.src.left a.src.left b.out.taken a.out.taken r.outcome r.replays)

  pub replayed-comes : ComesOfReplay b a status
  replayed-comes = record {
    done = λ input told is. Replays-done b.src.left a.src.left b.out.taken a.out.taken input (replays_as outcome.Done is) told;
    refused_at = λ input line kind told is. Replays-refused b.src.left a.src.left b.out.taken a.out.taken input line kind (replays_as (outcome.Refused line kind) is) told;
    too_long_at = λ input line told is. Replays-too_long b.src.left a.src.left b.out.taken a.out.taken input line (replays_as (outcome.TooLong line) is) told;
    read_fault = λ input told is. Replays-read_fault b.src.left a.src.left b.out.taken a.out.taken input (replays_as outcome.ReadFault is) told;
    write_fault = λ input told is. Replays-write_fault b.src.left a.src.left b.out.taken a.out.taken input (replays_as outcome.WriteFault is) told;
    memory = λ input told is. Replays-memory b.src.left a.src.left b.out.taken a.out.taken input (replays_as outcome.OutOfMemory is) told;
    answered = replayed_due;
    complete = λ input told calm still. answered-due (status_of (verdict_of input)) status (Rose b.src.faults a.src.faults) (Rose b.out.faults a.out.faults) (replayed_due input told) calm still;
    output = replayed_output;
    again = λ is. some_own_output b.out.taken a.out.taken (subst (λ (s : Status). HasSomeOutput s b.out.taken a.out.taken) is replayed_output);
  }

  -- where a reading failed
  pub replayed-read_on : HasFailedReading b a → ReadsOn AreUndecided output_of b a
  replayed-read_on failed = by r.outcome r.replays r.reads r.writes
    where
      by : (o : Outcome) → Replays b.src.left a.src.left b.out.taken a.out.taken o → HasReadCount b.src.faults a.src.faults o → HasWriteCount b.out.faults a.out.faults o → ReadsOn AreUndecided output_of b a
      by outcome.ReadFault p reads writes = record { seen = p.seen; gives = p.gives; undecided = p.is_outcome.0; put = p.is_outcome.1; calm = writes }
      by (outcome.Differ line) p reads writes = absurd (failed reads)
      by (outcome.Refused line kind) p reads writes = absurd (failed reads)
      by outcome.Done p reads writes = absurd (failed reads)
      by outcome.WriteFault p reads writes = absurd (failed reads)
      by outcome.OutOfMemory p reads writes = absurd (failed reads)
      by outcome.WorldFault p reads writes = absurd (failed reads)
      by (outcome.TooLong line) p reads writes = absurd (failed reads)
