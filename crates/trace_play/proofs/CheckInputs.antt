-- What a check comes to, in terms of the whole input: proofs.
use Rattle.std.proofs.Common.{◌≡◌, ℕ, List, [], Option, Some, refl, sym, ap, ◌∙◌, subst}
use Rattle.io_edge.specs.Lines.{ended_lines}
use Rattle.io_edge.specs.Told.{Gives, Takes, TakesProperPrefix}
use Rattle.io_edge.proofs.ToldLemmas.{Takes-nothing}
use Rattle.net_base.specs.declared.refusal.RefusalKind.{RefusalKind}
use Rattle.trace_compare.specs.Compare.{Comparison, agree, differ, refused_at, too_long_at, comparison_of, report_lines, report_of}
use Rattle.trace_compare.specs.Compare.{outcome_told}
use Rattle.trace_play.specs.Checks.{AreSettled, AreCompared, Checks}
use Rattle.trace_play.specs.CheckedInputs.{IsReported, IsCheckOf}
use Rattle.trace_meaning.specs.declared.outcome.Outcome.{Outcome}
use Rattle.trace_meaning.specs.declared.outcome.Outcome.TheVariants.{Done, Differ, Refused, ReadFault, WriteFault, OutOfMemory, WorldFault, TooLong}
use Rattle.trace_meaning.proofs.Inputs.{read_up_to}

-- the whole input compares as the bytes that were read
compares_whole : (l0 l1 : Option (List ℕ)) (input seen : List ℕ) → Gives l0 l1 seen → l0 ≡ Some input → AreSettled seen l1 → comparison_of seen ≡ comparison_of input
compares_whole l0 l1 input seen gives told settled =
    let read = read_up_to l0 l1 input seen gives told in
    sym (ap comparison_of read.split ∙ settled read.rest read.left)

report_same : (input seen : List ℕ) → comparison_of seen ≡ comparison_of input → report_of seen ≡ report_of input
report_same input seen same = ap (λ (c : Comparison). ended_lines (report_lines c)) same

reported : (l0 l1 t0 t1 : Option (List ℕ)) (input seen : List ℕ) (outcome : Outcome) → Gives l0 l1 seen → l0 ≡ Some input → AreCompared seen l1 outcome → Takes t0 t1 (report_of seen) →
    IsReported input outcome l1 t0 t1
reported l0 l1 t0 t1 input seen outcome gives told compared takes =
    let same = compares_whole l0 l1 input seen gives told compared.settled in
    record {
      seen = seen;
      read = read_up_to l0 l1 input seen gives told;
      compares = same;
      told = compared.told ∙ ap outcome_told same;
      taken = subst (λ (bytes : List ℕ). Takes t0 t1 bytes) (report_same input seen same) takes;
    }

-- a trace that is refused or too long has an empty report
pub silent_refused : (c : Comparison) (line : ℕ) (kind : RefusalKind) → Refused line kind ≡ outcome_told c → report_lines c ≡ []
silent_refused (agree events actions) line kind e = absurd cc
silent_refused (differ difference) line kind e = absurd cc
silent_refused (refused_at n k) line kind e = refl
silent_refused (too_long_at n) line kind e = refl

pub silent_too_long : (c : Comparison) (line : ℕ) → TooLong line ≡ outcome_told c → report_lines c ≡ []
silent_too_long (agree events actions) line e = absurd cc
silent_too_long (differ difference) line e = absurd cc
silent_too_long (refused_at n k) line e = refl
silent_too_long (too_long_at n) line e = refl

takes_silent : (t0 t1 : Option (List ℕ)) (seen : List ℕ) → report_lines (comparison_of seen) ≡ [] → t1 ≡ t0 → Takes t0 t1 (report_of seen)
takes_silent t0 t1 seen silent same =
    let empty : report_of seen ≡ [] = ap ended_lines silent in
    subst (λ (bytes : List ℕ). Takes t0 t1 bytes) (sym empty) (subst (λ (t : Option (List ℕ)). Takes t0 t []) (sym same) (Takes-nothing t0))

pub Checks-input : (l0 l1 t0 t1 : Option (List ℕ)) (input : List ℕ) (outcome : Outcome) → Checks l0 l1 t0 t1 outcome → l0 ≡ Some input → IsCheckOf input outcome l1 t0 t1
Checks-input l0 l1 t0 t1 input Done c told = reported l0 l1 t0 t1 input c.seen Done c.gives told c.is_checked.0 c.is_checked.1
Checks-input l0 l1 t0 t1 input (Differ line) c told = reported l0 l1 t0 t1 input c.seen (Differ line) c.gives told c.is_checked.0 c.is_checked.1
Checks-input l0 l1 t0 t1 input (Refused line kind) c told =
    reported l0 l1 t0 t1 input c.seen (Refused line kind) c.gives told c.is_checked.0
    (takes_silent t0 t1 c.seen (silent_refused (comparison_of c.seen) line kind c.is_checked.0.told) c.is_checked.1)
Checks-input l0 l1 t0 t1 input (TooLong line) c told =
    reported l0 l1 t0 t1 input c.seen (TooLong line) c.gives told c.is_checked.0
    (takes_silent t0 t1 c.seen (silent_too_long (comparison_of c.seen) line c.is_checked.0.told) c.is_checked.1)
Checks-input l0 l1 t0 t1 input ReadFault c told = record {
  seen = c.seen;
  read = read_up_to l0 l1 input c.seen c.gives told;
  agreeing = c.is_checked.0;
  untouched = c.is_checked.1;
}
Checks-input l0 l1 t0 t1 input WriteFault c told =
    let same = compares_whole l0 l1 input c.seen c.gives told c.is_checked.0 in
    record {
      seen = c.seen;
      read = read_up_to l0 l1 input c.seen c.gives told;
      compares = same;
      part = subst (λ (bytes : List ℕ). TakesProperPrefix t0 t1 bytes) (report_same input c.seen same) c.is_checked.1;
    }
Checks-input l0 l1 t0 t1 input OutOfMemory c told = c.is_checked
Checks-input l0 l1 t0 t1 input WorldFault c told = absurd c.is_checked
