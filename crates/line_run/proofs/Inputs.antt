-- What a run over lines comes to, in terms of the whole input: proofs.
use Rattle.std.proofs.Common.{◌≡◌, ℕ, List, ◌++◌, Option, Some, refl, sym, ap, ◌∙◌, subst}
use Rattle.std.proofs.lemmas.List.{append_assoc}
use Rattle.io_edge.specs.Lines.{ended_lines}
use Rattle.io_edge.specs.Told.{Gives, Takes}
use Rattle.io_edge.proofs.ToldLemmas.{Gives-told}
use Rattle.net_base.specs.declared.refusal.RefusalKind.{RefusalKind}
use Rattle.line_run.specs.Meaning.{Meaning}
use Rattle.line_run.specs.Judgement.{Verdict, ended, differed, refused, too_long, Judgement, judged, output_of, verdict_of}
use Rattle.line_run.specs.Runs.{outcome_of, AreDecisive, TakesPrefix, TakesLines, Runs}
use Rattle.line_run.specs.Inputs.{IsReadUpTo, IsDecided, IsRunOver}
use Rattle.line_run.specs.declared.outcome.LineOutcome.{LineOutcome}
use Rattle.line_run.specs.declared.outcome.LineOutcome.TheVariants.{Done, Differ, Refused, ReadFault, WriteFault, OutOfMemory, TooLong}
use Rattle.line_run.proofs.Judging.{output_behind}

-- ---- what is told of a verdict tells it

verdict_done : (verdict : Verdict) → Done ≡ outcome_of verdict → verdict ≡ ended
verdict_done ended e = refl
verdict_done (differed line) e = absurd cc
verdict_done (refused line kind) e = absurd cc
verdict_done (too_long line) e = absurd cc

pub verdict_differed : (verdict : Verdict) (line : ℕ) → Differ line ≡ outcome_of verdict → verdict ≡ differed line
verdict_differed ended line e = absurd cc
verdict_differed (differed n) line e = cc
verdict_differed (refused n k) line e = absurd cc
verdict_differed (too_long n) line e = absurd cc

verdict_refused : (verdict : Verdict) (line : ℕ) (kind : RefusalKind) → Refused line kind ≡ outcome_of verdict → verdict ≡ refused line kind
verdict_refused ended line kind e = absurd cc
verdict_refused (differed n) line kind e = absurd cc
verdict_refused (refused n k) line kind e = cc
verdict_refused (too_long n) line kind e = absurd cc

verdict_too_long : (verdict : Verdict) (line : ℕ) → TooLong line ≡ outcome_of verdict → verdict ≡ too_long line
verdict_too_long ended line e = absurd cc
verdict_too_long (differed n) line e = absurd cc
verdict_too_long (refused n k) line e = absurd cc
verdict_too_long (too_long n) line e = cc

-- ---- the whole input

read_up_to : (before after : Option (List ℕ)) (input seen : List ℕ) → Gives before after seen → before ≡ Some input → IsReadUpTo input seen after
read_up_to before after input seen gives told =
    let left = Gives-told before after input seen gives told in
    record { rest = left.0; split = left.2; left = left.1 }

-- bytes that decide are judged as the whole input
decided : {S : Type 0} (means : S → List ℕ → Meaning S) (start : S) (before after : Option (List ℕ)) (input seen : List ℕ) (outcome : LineOutcome) (verdict : Verdict) (t0 t1 : Option (List ℕ)) →
    Gives before after seen → before ≡ Some input → AreDecisive means start seen after outcome → Takes t0 t1 (output_of means start seen) → verdict_of means start seen ≡ verdict →
    IsDecided means start input verdict after t0 t1
decided means start before after input seen outcome verdict t0 t1 gives told decisive takes is =
    let read = read_up_to before after input seen gives told in
    let same : judged means start input ≡ judged means start seen = ap (judged means start) read.split ∙ decisive.settled read.rest read.left in
    record {
      seen = seen;
      read = read;
      decides = is;
      verdict_is = ap (λ (j : Judgement). j.verdict) same ∙ is;
      taken = subst (λ (bytes : List ℕ). Takes t0 t1 bytes) (sym (ap (λ (j : Judgement). ended_lines j.lines) same)) takes;
    }

pub Runs-input : {S : Type 0} (means : S → List ℕ → Meaning S) (start : S) (l0 l1 t0 t1 : Option (List ℕ)) (input : List ℕ) (outcome : LineOutcome) → Runs means start l0 l1 t0 t1 outcome →
    l0 ≡ Some input → IsRunOver means start input outcome l1 t0 t1
Runs-input means start l0 l1 t0 t1 input Done r told =
    decided means start l0 l1 input r.seen Done ended t0 t1 r.gives told r.is_outcome.0 r.is_outcome.1 (verdict_done (verdict_of means start r.seen) r.is_outcome.0.told)
Runs-input means start l0 l1 t0 t1 input (Differ line) r told =
    decided means start l0 l1 input r.seen (Differ line) (differed line) t0 t1 r.gives told r.is_outcome.0 r.is_outcome.1 (verdict_differed (verdict_of means start r.seen) line r.is_outcome.0.told)
Runs-input means start l0 l1 t0 t1 input (Refused line kind) r told =
    decided means start l0 l1 input r.seen (Refused line kind) (refused line kind) t0 t1 r.gives told r.is_outcome.0 r.is_outcome.1
    (verdict_refused (verdict_of means start r.seen) line kind r.is_outcome.0.told)
Runs-input means start l0 l1 t0 t1 input (TooLong line) r told =
    decided means start l0 l1 input r.seen (TooLong line) (too_long line) t0 t1 r.gives told r.is_outcome.0 r.is_outcome.1
    (verdict_too_long (verdict_of means start r.seen) line r.is_outcome.0.told)
Runs-input means start l0 l1 t0 t1 input ReadFault r told = record {
  seen = r.seen;
  read = read_up_to l0 l1 input r.seen r.gives told;
  undecided = r.is_outcome.0;
  taken = r.is_outcome.1;
}
Runs-input means start l0 l1 t0 t1 input WriteFault r told = record {
  seen = r.seen;
  read = read_up_to l0 l1 input r.seen r.gives told;
  part = r.is_outcome;
}
Runs-input means start l0 l1 t0 t1 input OutOfMemory r told =
    let read = read_up_to l0 l1 input r.seen r.gives told in
    record {
      texts = r.is_outcome.texts;
      rest = r.is_outcome.rest ++ read.rest;
      split = read.split ∙ ap (λ (bytes : List ℕ). bytes ++ read.rest) r.is_outcome.split ∙ append_assoc (ended_lines r.is_outcome.texts) r.is_outcome.rest read.rest;
      whole = r.is_outcome.whole;
      state = r.is_outcome.state;
      lines = r.is_outcome.lines;
      lead = r.is_outcome.lead;
      taken = r.is_outcome.taken;
    }

-- ---- where memory is wanting

-- what some lines give is a front of the whole output
pub lines_prefix : {S : Type 0} (means : S → List ℕ → Meaning S) (start : S) (bytes : List ℕ) (before after : Option (List ℕ)) → TakesLines means start bytes before after →
    TakesPrefix before after (output_of means start bytes)
lines_prefix means start bytes before after takes =
    let begins = output_behind means start takes.state takes.texts takes.lines takes.rest takes.lead takes.whole in
    record { front = ended_lines takes.lines; rest = begins.rest; split = ap (output_of means start) takes.split ∙ begins.split; taken = takes.taken }
