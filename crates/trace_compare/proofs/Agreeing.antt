-- A trace that agrees has exactly the lines of its output.
use Rattle.std.proofs.Common.{◌≡◌, ℕ, ◌+◌, Bool, true, false, cond, eqb, List, [], ◌∷◌, ◌++◌, length, All, Option, Some, None, Ok, inl, inr, refl, sym, ap, ◌∙◌, subst, arith}
use Rattle.std.specs.Prelude.{codes, bytes_eq}
use Rattle.std.proofs.lemmas.List.{append-nil, length-append}
use Rattle.std.proofs.lemmas.List.Elements.{All-nil, All-cons, All-head, All-tail, All-append}
use Rattle.std.proofs.lemmas.Slice.Eq.{bytes_eq-Decides}
use Rattle.io_edge.specs.Lines.{whole_lines, unfinished_line}
use Rattle.trace_text.specs.Lines.{first_line, second_line, later_line}
use Rattle.trace_text.specs.Stages.{first_stage}
use Rattle.trace_text.specs.Words.{words_of}
use Rattle.trace_text.specs.declared.line.Line.{Line}
use Rattle.trace_text.specs.declared.line.Line.TheVariants.{End}
use Rattle.trace_text.specs.declared.stage.Stage.{Stage}
use Rattle.trace_meaning.specs.Reading.{Reading, said_at, reading_at, stage_behind, events_in}
use Rattle.line_run.specs.Judgement.{Verdict, ended, differed, refused, too_long}
use Rattle.trace_meaning.specs.Judgement.{verdict_by, number_behind, Judgement, judged}
use Rattle.trace_meaning.specs.Output.{lines_for, last_lines}
use Rattle.trace_meaning.specs.Passing.{texts_of}
use Rattle.trace_compare.specs.Compare.{lines_found, lines_written, Difference, difference_at, first_difference, agreement, difference_or, comparison_for, comparison_of}
use Rattle.trace_compare.specs.Compare.{outcome_told}
use Rattle.trace_compare.specs.Compare.{IsAction}
use Rattle.trace_meaning.specs.declared.outcome.Outcome.TheVariants.{Done}
use Rattle.trace_compare.proofs.Added.{IsAdded, adds}
use Rattle.trace_compare.proofs.Comparing.{action_apart}
use Rattle.trace_meaning.proofs.Prefixes.{judged_from-continues}
use Rattle.trace_meaning.proofs.Readings.{Passes, AreFront, AreFront-none, AreFront-more, line_at, passed_behind}

-- ---- no line of the output before the last is `end`

abbrev IsNoEnd : List ℕ → Type 0
IsNoEnd line = ¬ (line ≡ codes "end")

by_place : (first second : Bool) (stage : Stage) (line : Line) →
    cond first (first_line (words_of (codes "end"))) (cond second (second_line stage.version (words_of (codes "end"))) (later_line stage (words_of (codes "end")))) ≡ Ok line → line ≡ End
by_place true second stage line e = absurd cc
by_place false true stage line e = absurd cc
by_place false false stage line e = cc

end_says : (stage : Stage) (line : Line) → said_at stage (codes "end") ≡ Ok line → line ≡ End
unfolding said_at
end_says stage line says = by_place (eqb stage.seen 0) (eqb stage.seen 1) stage line says

-- a line that passes is none
passes_no_end : (before : List Reading) (text : List ℕ) → Passes before (reading_at (stage_behind before first_stage) text) → IsNoEnd text
passes_no_end before text passes same =
    let stage = stage_behind before first_stage in
    let found = line_at before stage text passes in
    let is : found.0 ≡ End = end_says stage found.0 (ap (said_at stage) (sym same) ∙ found.1) in
    let by : verdict_by (number_behind before) (length (events_in before)) (Ok found.0) ≡ None = rw (← found.1) passes.by in
    let last : verdict_by (number_behind before) (length (events_in before)) (Ok End) ≡ None =
    subst (λ (line : Line). verdict_by (number_behind before) (length (events_in before)) (Ok line) ≡ None) is by in
    absurd cc

actions_no_end : (lines : List (List ℕ)) → All IsAction lines → All IsNoEnd lines
actions_no_end [] all = All-nil IsNoEnd
actions_no_end (line ∷ lines) all =
    All-cons IsNoEnd line lines (action_apart line (codes "end") (All-head IsAction line lines all).begins refl) (actions_no_end lines (All-tail IsAction line lines all))

added_no_end : (text : List ℕ) (lines : List (List ℕ)) → IsNoEnd text → IsAdded text lines → All IsNoEnd lines
added_no_end text lines apart (inl none) = rw none.0 (All-nil IsNoEnd)
added_no_end text lines apart (inr some) = rw some.1 (All-cons IsNoEnd text some.0 apart (actions_no_end some.0 some.2))

record HasNoEnd (readings : List Reading) : Type 0 where
  is_front : AreFront readings
  all : All IsNoEnd (lines_for readings)

HasNoEnd-more : (before : List Reading) (text : List ℕ) → HasNoEnd before → Passes before (reading_at (stage_behind before first_stage) text) →
    HasNoEnd (before ++ reading_at (stage_behind before first_stage) text ∷ [])
HasNoEnd-more before text so passes =
    let added = adds before text so.is_front passes in
    record {
      is_front = AreFront-more before text so.is_front passes;
      all = subst (All IsNoEnd) (sym added.output)
          (All-append IsNoEnd (lines_for before) added.lines so.all (added_no_end text added.lines (passes_no_end before text passes) added.kind));
    }

HasNoEnd-none : HasNoEnd []
unfolding stage_behind
HasNoEnd-none = record { is_front = AreFront-none; all = All-nil IsNoEnd }

no_end_of : (input : List ℕ) → HasNoEnd (judged input).passed
unfolding stage_behind
no_end_of input =
    let on = judged_from-continues [] (whole_lines input) (unfinished_line input) in
    subst HasNoEnd (sym on.passed) (passed_behind HasNoEnd HasNoEnd-more [] on.texts HasNoEnd-none on.pass)

-- ---- lines of which none differs

-- what the one list has behind the other
record Exceeds (written found : List (List ℕ)) : Type 0 where
  more : List (List ℕ)
  split : written ≡ found ++ more

none_differs : (number : ℕ) (found written : List (List ℕ)) → first_difference number found written ≡ None → Exceeds written found
unfolding first_difference
none_differs number [] written e = record { more = written; split = refl }
none_differs number (line ∷ found) [] e = absurd cc
none_differs number (line ∷ found) (other ∷ written) e = by_test (bytes_eq line other) refl (none_differs (number + 1) found written) e
  where
    by_test : (b : Bool) → bytes_eq line other ≡ b → (first_difference (number + 1) found written ≡ None → Exceeds written found) →
        cond b (first_difference (number + 1) found written) (Some (difference_at number line (other ∷ written))) ≡ None → Exceeds (other ∷ written) (line ∷ found)
    by_test true is later e =
        let rest = later e in
        let same : other ≡ line = sym ((bytes_eq-Decides line other).0 is) in
        record { more = rest.more; split = ap (λ (l : List ℕ). l ∷ written) same ∙ ap (λ (ls : List (List ℕ)). line ∷ ls) rest.split }
    by_test false is later e = absurd cc

-- two lists that end in one line, which is nowhere before it in the longer
same_end : (xs ys : List (List ℕ)) (end : List ℕ) (more : List (List ℕ)) → All (λ x. ¬ (x ≡ end)) xs → xs ++ end ∷ [] ≡ (ys ++ end ∷ []) ++ more → more ≡ []
same_end [] [] end more apart e = cc
same_end [] (y ∷ ys) end more apart e =
    let rest : [] ≡ (ys ++ end ∷ []) ++ more = cc in
    let none : 0 ≡ length ((ys ++ end ∷ []) ++ more) = ap length rest in
    absurd (omega (arith, none, length-append (ys ++ end ∷ []) more, length-append ys (end ∷ [])))
same_end (x ∷ xs) [] end more apart e =
    let same : x ≡ end = cc in
    absurd (All-head (λ x. ¬ (x ≡ end)) x xs apart same)
same_end (x ∷ xs) (y ∷ ys) end more apart e =
    let rest : xs ++ end ∷ [] ≡ (ys ++ end ∷ []) ++ more = cc in
    same_end xs ys end more (All-tail (λ x. ¬ (x ≡ end)) x xs apart) rest

-- ---- a trace that agrees

-- it is read to its `end`, and none of its lines differs
record AgreesToItsEnd (j : Judgement) : Type 0 where
  ends : j.verdict ≡ ended
  none : first_difference 1 (lines_found j) (lines_written j) ≡ None

agrees_to_end : (j : Judgement) → outcome_told (comparison_for j) ≡ Done → AgreesToItsEnd j
agrees_to_end j e = by_difference (first_difference 1 (lines_found j) (lines_written j)) refl e
  where
    by_verdict : (verdict : Verdict) → j.verdict ≡ verdict → outcome_told (agreement j.passed verdict) ≡ Done → j.verdict ≡ ended
    by_verdict ended is e = is
    by_verdict (differed line) is e = absurd cc
    by_verdict (refused line kind) is e = absurd cc
    by_verdict (too_long line) is e = absurd cc

    by_difference : (found : Option Difference) → first_difference 1 (lines_found j) (lines_written j) ≡ found →
        outcome_told (difference_or (agreement j.passed j.verdict) found) ≡ Done → AgreesToItsEnd j
    by_difference None is e = record { ends = by_verdict j.verdict refl e; none = is }
    by_difference (Some difference) is e = absurd cc

pub agreeing_lines : (input : List ℕ) → outcome_told (comparison_of input) ≡ Done → lines_found (judged input) ≡ lines_written (judged input)
agreeing_lines input e =
    let j = judged input in
    let so = agrees_to_end j e in
    let over = none_differs 1 (lines_found j) (lines_written j) so.none in
    let last : last_lines j.verdict ≡ codes "end" ∷ [] = ap last_lines so.ends in
    let ends : lines_for j.passed ++ codes "end" ∷ [] ≡ (texts_of j.passed ++ codes "end" ∷ []) ++ over.more =
    ap (λ (ls : List (List ℕ)). lines_for j.passed ++ ls) (sym last) ∙ over.split
    ∙ ap (λ (ls : List (List ℕ)). (texts_of j.passed ++ ls) ++ over.more) last in
    let nothing : over.more ≡ [] = same_end (lines_for j.passed) (texts_of j.passed) (codes "end") over.more (no_end_of input).all ends in
    sym (over.split ∙ ap (λ (ls : List (List ℕ)). lines_found j ++ ls) nothing ∙ append-nil (lines_found j))
