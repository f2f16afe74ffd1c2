-- What a replay comes to, in terms of the whole input: proofs.
use Rattle.std.proofs.Common.{◌≡◌, ℕ, List, [], ◌++◌, Option, Some, refl, sym, ap, ◌∙◌, subst}
use Rattle.std.proofs.lemmas.List.{append_assoc}
use Rattle.io_edge.specs.Lines.{whole_lines, unfinished_line}
use Rattle.io_edge.specs.Told.{Gives, Takes}
use Rattle.io_edge.proofs.ToldLemmas.{Gives-told}
use Rattle.net_base.specs.Bounds.{AreSound}
use Rattle.net_base.specs.declared.refusal.RefusalKind.{RefusalKind}
use Rattle.trace_meaning.specs.Reading.{stage_behind, heads_in}
use Rattle.trace_meaning.specs.Settings.{settings_in}
use Rattle.line_run.specs.Judgement.{Verdict, ended, differed, refused, too_long}
use Rattle.trace_meaning.specs.Judgement.{judged}
use Rattle.trace_meaning.specs.Output.{output_for, output_of}
use Rattle.trace_meaning.specs.Passing.{ArePassed}
use Rattle.trace_meaning.specs.Replays.{verdict_of, outcome_of, AreDecisive, Replays}
use Rattle.line_run.specs.Runs.{TakesPrefix}
use Rattle.trace_meaning.specs.Inputs.{IsDecided, StopsReading, StopsWriting, IsOutputOfSome, IsOutputSoFar, IsProperFrontOfSome, IsFrontOfSome}
use Rattle.line_run.specs.Inputs.{IsReadUpTo}
use Rattle.trace_meaning.specs.declared.outcome.Outcome.{Outcome}
use Rattle.trace_meaning.specs.declared.outcome.Outcome.TheVariants.{Done, Refused, ReadFault, WriteFault, OutOfMemory, TooLong}
use Rattle.trace_meaning.proofs.Heads.{AreSound-heads}
use Rattle.trace_meaning.proofs.Readings.{AreFront-passed}
use Rattle.trace_meaning.proofs.Prefixes.{judged_from-continues, ArePassed-lines, output_of-front}

-- ---- what is told of a verdict tells it

verdict_done : (verdict : Verdict) → Done ≡ outcome_of verdict → verdict ≡ ended
verdict_done ended e = refl
verdict_done (differed line) e = absurd cc
verdict_done (refused line kind) e = absurd cc
verdict_done (too_long line) e = absurd cc

verdict_refused : (verdict : Verdict) (line : ℕ) (kind : RefusalKind) → Refused line kind ≡ outcome_of verdict → verdict ≡ refused line kind
verdict_refused ended line kind e = absurd cc
verdict_refused (differed n) line kind e = absurd cc
verdict_refused (refused n k) line kind e = cc
verdict_refused (too_long n) line kind e = absurd cc

verdict_too_long : (verdict : Verdict) (line : ℕ) → TooLong line ≡ outcome_of verdict → verdict ≡ too_long line
verdict_too_long ended line e = absurd cc
verdict_too_long (differed n) line e = absurd cc
verdict_too_long (refused n k) line e = absurd cc
verdict_too_long (too_long n) line e = cc

-- ---- the whole input

pub read_up_to : (before after : Option (List ℕ)) (input seen : List ℕ) → Gives before after seen → before ≡ Some input → IsReadUpTo input seen after
read_up_to before after input seen gives told =
    let left = Gives-told before after input seen gives told in
    record { rest = left.0; split = left.2; left = left.1 }

-- bytes that decide are judged as the whole input
judged_whole : (before after : Option (List ℕ)) (input seen : List ℕ) (outcome : Outcome) → Gives before after seen → before ≡ Some input →
    AreDecisive seen after outcome → judged input ≡ judged seen
judged_whole before after input seen outcome gives told decisive =
    let read = read_up_to before after input seen gives told in
    ap judged read.split ∙ decisive.settled read.rest read.left

decided : (before after : Option (List ℕ)) (input seen : List ℕ) (outcome : Outcome) (verdict : Verdict) (t0 t1 : Option (List ℕ)) → Gives before after seen → before ≡ Some input →
    AreDecisive seen after outcome → Takes t0 t1 (output_of seen) → verdict_of seen ≡ verdict → IsDecided input verdict after t0 t1
decided before after input seen outcome verdict t0 t1 gives told decisive takes is =
    let same = judged_whole before after input seen outcome gives told decisive in
    record {
      seen = seen;
      read = read_up_to before after input seen gives told;
      decides = is;
      verdict_is = ap (λ j. j.verdict) same ∙ is;
      taken = subst (λ (bytes : List ℕ). Takes t0 t1 bytes) (sym (ap output_for same)) takes;
    }

pub Replays-done : (l0 l1 t0 t1 : Option (List ℕ)) (input : List ℕ) → Replays l0 l1 t0 t1 Done → l0 ≡ Some input → IsDecided input ended l1 t0 t1
Replays-done l0 l1 t0 t1 input r told =
    decided l0 l1 input r.seen Done ended t0 t1 r.gives told r.is_outcome.0 r.is_outcome.1 (verdict_done (verdict_of r.seen) r.is_outcome.0.told)

pub Replays-refused : (l0 l1 t0 t1 : Option (List ℕ)) (input : List ℕ) (line : ℕ) (kind : RefusalKind) → Replays l0 l1 t0 t1 (Refused line kind) → l0 ≡ Some input →
    IsDecided input (refused line kind) l1 t0 t1
Replays-refused l0 l1 t0 t1 input line kind r told =
    decided l0 l1 input r.seen (Refused line kind) (refused line kind) t0 t1 r.gives told r.is_outcome.0 r.is_outcome.1 (verdict_refused (verdict_of r.seen) line kind r.is_outcome.0.told)

pub Replays-too_long : (l0 l1 t0 t1 : Option (List ℕ)) (input : List ℕ) (line : ℕ) → Replays l0 l1 t0 t1 (TooLong line) → l0 ≡ Some input → IsDecided input (too_long line) l1 t0 t1
Replays-too_long l0 l1 t0 t1 input line r told =
    decided l0 l1 input r.seen (TooLong line) (too_long line) t0 t1 r.gives told r.is_outcome.0 r.is_outcome.1 (verdict_too_long (verdict_of r.seen) line r.is_outcome.0.told)

pub Replays-read_fault : (l0 l1 t0 t1 : Option (List ℕ)) (input : List ℕ) → Replays l0 l1 t0 t1 ReadFault → l0 ≡ Some input → StopsReading input l1 t0 t1
Replays-read_fault l0 l1 t0 t1 input r told = record {
  seen = r.seen;
  read = read_up_to l0 l1 input r.seen r.gives told;
  undecided = r.is_outcome.0;
  taken = r.is_outcome.1;
}

pub Replays-write_fault : (l0 l1 t0 t1 : Option (List ℕ)) (input : List ℕ) → Replays l0 l1 t0 t1 WriteFault → l0 ≡ Some input → StopsWriting input l1 t0 t1
Replays-write_fault l0 l1 t0 t1 input r told = record {
  seen = r.seen;
  read = read_up_to l0 l1 input r.seen r.gives told;
  part = r.is_outcome;
}

pub Replays-memory : (l0 l1 t0 t1 : Option (List ℕ)) (input : List ℕ) → Replays l0 l1 t0 t1 OutOfMemory → l0 ≡ Some input → TakesPrefix t0 t1 (output_of input)
Replays-memory l0 l1 t0 t1 input r told =
    let read = read_up_to l0 l1 input r.seen r.gives told in
    let whole = output_of-front r.seen read.rest in
    record {
      front = r.is_outcome.front;
      rest = r.is_outcome.rest ++ whole.rest;
      split = ap output_of read.split ∙ whole.split ∙ ap (λ (bytes : List ℕ). bytes ++ whole.rest) r.is_outcome.split
          ∙ append_assoc r.is_outcome.front r.is_outcome.rest whole.rest;
      taken = r.is_outcome.taken;
    }

-- ---- whatever the source tells

pub some_done : (l0 l1 t0 t1 : Option (List ℕ)) → Replays l0 l1 t0 t1 Done → IsOutputOfSome ended t0 t1
some_done l0 l1 t0 t1 r = record { input = r.seen; verdict_is = verdict_done (verdict_of r.seen) r.is_outcome.0.told; taken = r.is_outcome.1 }

pub some_refused : (l0 l1 t0 t1 : Option (List ℕ)) (line : ℕ) (kind : RefusalKind) → Replays l0 l1 t0 t1 (Refused line kind) → IsOutputOfSome (refused line kind) t0 t1
some_refused l0 l1 t0 t1 line kind r = record { input = r.seen; verdict_is = verdict_refused (verdict_of r.seen) line kind r.is_outcome.0.told; taken = r.is_outcome.1 }

pub some_too_long : (l0 l1 t0 t1 : Option (List ℕ)) (line : ℕ) → Replays l0 l1 t0 t1 (TooLong line) → IsOutputOfSome (too_long line) t0 t1
some_too_long l0 l1 t0 t1 line r = record { input = r.seen; verdict_is = verdict_too_long (verdict_of r.seen) line r.is_outcome.0.told; taken = r.is_outcome.1 }

pub some_read_fault : (l0 l1 t0 t1 : Option (List ℕ)) → Replays l0 l1 t0 t1 ReadFault → IsOutputSoFar t0 t1
some_read_fault l0 l1 t0 t1 r = record { input = r.seen; undecided = r.is_outcome.0; taken = r.is_outcome.1 }

pub some_write_fault : (l0 l1 t0 t1 : Option (List ℕ)) → Replays l0 l1 t0 t1 WriteFault → IsProperFrontOfSome t0 t1
some_write_fault l0 l1 t0 t1 r = record { input = r.seen; part = r.is_outcome }

pub some_memory : (l0 l1 t0 t1 : Option (List ℕ)) → Replays l0 l1 t0 t1 OutOfMemory → IsFrontOfSome t0 t1
some_memory l0 l1 t0 t1 r = record { input = r.seen; front = r.is_outcome }

-- ---- the settings

-- the lines in front of the one that decides have passed
passed_of : (input : List ℕ) → ArePassed (judged input).passed
unfolding stage_behind
passed_of input =
    let on = judged_from-continues [] (whole_lines input) (unfinished_line input) in
    subst ArePassed (sym on.passed) (ArePassed-lines on.texts on.pass)

-- their settings are sound, so the machine that they are replayed on keeps the laws
pub settings_sound : (input : List ℕ) → AreSound (settings_in (heads_in (judged input).passed))
settings_sound input = AreSound-heads _ _ (AreFront-passed (judged input).passed (passed_of input)).head
