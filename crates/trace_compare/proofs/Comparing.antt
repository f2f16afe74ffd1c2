-- How lines compare with those of their output, whatever stands behind them.
use Rattle.std.proofs.Common.{◌≡◌, ℕ, ◌+◌, Bool, true, false, List, [], ◌∷◌, ◌++◌, length, All, Option, Some, None, inl, inr, refl, sym, ap, ◌∙◌, arith}
use Rattle.std.specs.Prelude.{codes, bytes_eq}
use Rattle.std.proofs.lemmas.Bool.{both_ways}
use Rattle.std.proofs.lemmas.List.{append_assoc, append-nil, length-map, map-append}
use Rattle.std.proofs.lemmas.List.Elements.{All-head}
use Rattle.std.proofs.lemmas.Slice.Eq.{bytes_eq-Decides}
use Rattle.trace_text.specs.Lines.{is_action_line}
use Rattle.trace_text.specs.Stages.{first_stage}
use Rattle.trace_meaning.specs.Reading.{Reading, reading_at, stage_behind, readings_from, events_in}
use Rattle.line_run.specs.Judgement.{Verdict, ended}
use Rattle.trace_meaning.specs.Judgement.{Judgement, judged_from}
use Rattle.trace_meaning.specs.Output.{lines_for, last_lines, output_of}
use Rattle.trace_meaning.specs.Passing.{texts_of, ArePassed}
use Rattle.trace_meaning.specs.Replays.{verdict_of}
use Rattle.trace_compare.specs.Again.{FitsTrace}
use Rattle.trace_compare.specs.Compare.{lines_found, lines_written, difference_at, action_due, first_difference, agree, differ, agreement, difference_or, actions_in, comparison_for, comparison_of}
use Rattle.trace_compare.specs.Compare.{outcome_told}
use Rattle.trace_compare.specs.Compare.{IsAction}
use Rattle.trace_meaning.specs.declared.outcome.Outcome.TheVariants.{Done}
use Rattle.trace_compare.proofs.Added.{IsAdded, Adds, BeginsQuietly, BeginsQuietly-last, goes_on_quietly}
use Rattle.trace_compare.proofs.Again.{output_lines}
use Rattle.trace_meaning.proofs.Judging.{judgement_of}
use Rattle.trace_meaning.proofs.Prefixes.{judged_from-continues}
use Rattle.trace_meaning.proofs.Readings.{AreFront-passed}

-- ---- lists of lines

bytes_same : (line : List ℕ) → bytes_eq line line ≡ true
bytes_same line = (bytes_eq-Decides line line).1 refl

bytes_other : (line other : List ℕ) → ¬ (line ≡ other) → bytes_eq line other ≡ false
bytes_other line other apart = by_test (bytes_eq line other) refl
  where
    by_test : (b : Bool) → bytes_eq line other ≡ b → b ≡ false
    by_test true is = absurd (apart ((bytes_eq-Decides line other).0 is))
    by_test false is = refl

-- the lines that both have are gone over
difference_past : (number : ℕ) (lines found written : List (List ℕ)) →
    first_difference number (lines ++ found) (lines ++ written) ≡ first_difference (number + length lines) found written
unfolding first_difference
difference_past number [] found written =
    let same : number ≡ number + length {A = List ℕ} [] = omega arith in
    ap (λ (n : ℕ). first_difference n found written) same
difference_past number (line ∷ lines) found written =
    let same : number + 1 + length lines ≡ number + length (line ∷ lines) = omega arith in
    rw (bytes_same line) (difference_past (number + 1) lines found written ∙ ap (λ (n : ℕ). first_difference n found written) same)

difference_none : (number : ℕ) (lines written : List (List ℕ)) → first_difference number (lines ++ []) (lines ++ written) ≡ None
unfolding first_difference
difference_none number lines written = difference_past number lines [] written

-- the next line of the output, if any, is another one
abbrev IsOther : List ℕ → List (List ℕ) → Type 0
IsOther line [] = Unit {0}
IsOther line (other ∷ written) = bytes_eq line other ≡ false

difference_here : (number : ℕ) (line : List ℕ) (found written : List (List ℕ)) → IsOther line written →
    first_difference number (line ∷ found) written ≡ Some (difference_at number line written)
unfolding first_difference
difference_here number line found [] other = refl
difference_here number line found (next ∷ written) other = rw other refl

-- ---- a judgement

compared_differs : (j : Judgement) (lines found written : List (List ℕ)) (line : List ℕ) (want : Option (List ℕ)) → lines_found j ≡ lines ++ line ∷ found → lines_written j ≡ lines ++ written →
    IsOther line written → action_due written ≡ want → comparison_for j ≡ differ (record { line = 1 + length lines; found = line; want = want })
compared_differs j lines found written line want there output other due =
    ap (difference_or (agreement j.passed j.verdict))
    (ap (λ (ls : List (List ℕ)). first_difference 1 ls (lines_written j)) there
    ∙ ap (λ (ls : List (List ℕ)). first_difference 1 (lines ++ line ∷ found) ls) output
    ∙ difference_past 1 lines (line ∷ found) written
    ∙ difference_here (1 + length lines) line found written other)
    ∙ ap (λ (w : Option (List ℕ)). differ (record { line = 1 + length lines; found = line; want = w })) due

compared_agrees : (readings : List Reading) (due : List (List ℕ)) (verdict : Verdict) → lines_for readings ≡ texts_of readings ++ due →
    first_difference 1 (texts_of readings ++ last_lines verdict) (texts_of readings ++ (due ++ last_lines verdict)) ≡ None →
    comparison_for (judgement_of readings verdict) ≡ agreement readings verdict
compared_agrees readings due verdict agrees none =
    ap (difference_or (agreement readings verdict))
    (ap (λ (ls : List (List ℕ)). first_difference 1 (texts_of readings ++ last_lines verdict) ls)
    (ap (λ (ls : List (List ℕ)). ls ++ last_lines verdict) agrees ∙ append_assoc (texts_of readings) due (last_lines verdict)) ∙ none)

-- a line decides of which nothing is written
pub compared_silent : (readings : List Reading) (due : List (List ℕ)) (verdict : Verdict) → lines_for readings ≡ texts_of readings ++ due → last_lines verdict ≡ [] →
    comparison_for (judgement_of readings verdict) ≡ agreement readings verdict
compared_silent readings due verdict agrees silent =
    compared_agrees readings due verdict agrees (rw silent (difference_none 1 (texts_of readings) (due ++ [])))

-- `end` is there, and nothing is due
pub compared_ended : (readings : List Reading) → lines_for readings ≡ texts_of readings →
    comparison_for (judgement_of readings ended) ≡ agree (length (events_in readings)) (actions_in readings)
compared_ended readings agrees =
    let lines = texts_of readings in
    let none : first_difference 1 (lines ++ codes "end" ∷ []) (lines ++ codes "end" ∷ []) ≡ None = difference_same 1 (lines ++ codes "end" ∷ []) in
    compared_agrees readings [] ended (agrees ∙ sym (append-nil lines)) none
  where
    difference_same : (number : ℕ) (lines : List (List ℕ)) → first_difference number lines lines ≡ None
    difference_same number lines =
        ap (λ (ls : List (List ℕ)). first_difference number ls ls) (sym (append-nil lines)) ∙ difference_none number lines []

-- ---- what is due

abbrev pub first_of : List (List ℕ) → Option (List ℕ)
first_of [] = None
first_of (line ∷ lines) = Some line

pub action_apart : (line other : List ℕ) → is_action_line line ≡ true → is_action_line other ≡ false → ¬ (line ≡ other)
action_apart line other acts quiet same = both_ways (is_action_line line) (ap is_action_line same ∙ quiet) acts

quiet_due : (lines : List (List ℕ)) → BeginsQuietly lines → action_due lines ≡ None
quiet_due [] quiet = refl
quiet_due (line ∷ lines) quiet = rw quiet refl

quiet_other : (line : List ℕ) (lines : List (List ℕ)) → is_action_line line ≡ true → BeginsQuietly lines → IsOther line lines
quiet_other line [] acts quiet = tt
quiet_other line (next ∷ lines) acts quiet = bytes_other line next (action_apart line next acts quiet)

-- what is due of the output at a line that differs
record IsDue (line : List ℕ) (written : List (List ℕ)) (want : Option (List ℕ)) : Type 0 where
  other : IsOther line written
  due : action_due written ≡ want

-- an action is due
due_first : (line due : List ℕ) (written : List (List ℕ)) → ¬ (line ≡ due) → IsAction due → IsDue line (due ∷ written) (Some due)
due_first line due written apart action = record { other = bytes_other line due apart; due = rw action.begins refl }

-- the first of the lines that are due, with those of the line itself, is another one; or none is, and none of an action follows
due_next : (due lines written : List (List ℕ)) (line : List ℕ) → All IsAction due → IsAdded line lines → ¬ (first_of (due ++ lines) ≡ Some line) → BeginsQuietly written →
    IsDue line ((due ++ lines) ++ written) (first_of (due ++ lines))
due_next [] lines written line actions (inl none) apart quiet =
    rw none.0 (record { other = quiet_other line written none.1 quiet; due = quiet_due written quiet })
due_next [] lines written line actions (inr some) apart quiet = absurd (apart (ap first_of some.1))
due_next (next ∷ due) lines written line actions added apart quiet =
    due_first line next ((due ++ lines) ++ written) (λ same. apart (ap (λ (l : List ℕ). Some l) (sym same))) (All-head IsAction next due actions)

-- ---- a line that passes and differs

texts_push : (readings : List Reading) (reading : Reading) → texts_of (readings ++ reading ∷ []) ≡ texts_of readings ++ reading.text ∷ []
texts_push readings reading = map-append (λ (r : Reading). r.text) readings (reading ∷ [])

-- whatever lines stand behind it
pub line_differs : (readings : List Reading) (text : List ℕ) (texts : List (List ℕ)) (rest : List ℕ) (due : List (List ℕ)) → let reading = reading_at (stage_behind readings first_stage) text in
    lines_for readings ≡ texts_of readings ++ due → All IsAction due → (added : Adds readings reading) → ¬ (first_of (due ++ added.lines) ≡ Some text) → ArePassed (readings ++ reading ∷ []) →
    comparison_for (judged_from (readings ++ reading ∷ []) (readings_from (stage_behind (readings ++ reading ∷ []) first_stage) texts) rest)
    ≡ differ (record { line = 1 + length readings; found = text; want = first_of (due ++ added.lines) })
line_differs readings text texts rest due agrees actions added apart passed =
    let stage = stage_behind readings first_stage in
    let reading = reading_at stage text in
    let further = readings ++ reading ∷ [] in
    let j = judged_from further (readings_from (stage_behind further first_stage) texts) rest in
    let on = judged_from-continues further texts rest in
    let later = readings_from (stage_behind further first_stage) on.texts in
    let quiet = goes_on_quietly further on.texts (AreFront-passed further passed) on.pass in
    let last = last_lines j.verdict in
    let found : lines_found j ≡ texts_of readings ++ text ∷ (texts_of later ++ last) =
    ap (λ (rs : List Reading). texts_of rs ++ last) (on.passed ∙ append_assoc readings (reading ∷ []) later)
    ∙ ap (λ (ls : List (List ℕ)). ls ++ last) (map-append (λ (r : Reading). r.text) readings (reading ∷ later))
    ∙ append_assoc (texts_of readings) (text ∷ texts_of later) last in
    let written : lines_written j ≡ texts_of readings ++ ((due ++ added.lines) ++ (quiet.rest ++ last)) =
    ap (λ (rs : List Reading). lines_for rs ++ last) on.passed
    ∙ ap (λ (ls : List (List ℕ)). ls ++ last) (quiet.split ∙ ap (λ (ls : List (List ℕ)). ls ++ quiet.rest) (added.output ∙ ap (λ (ls : List (List ℕ)). ls ++ added.lines) agrees
    ∙ append_assoc (texts_of readings) due added.lines) ∙ append_assoc (texts_of readings) (due ++ added.lines) quiet.rest)
    ∙ append_assoc (texts_of readings) ((due ++ added.lines) ++ quiet.rest) last
    ∙ ap (λ (ls : List (List ℕ)). texts_of readings ++ ls) (append_assoc (due ++ added.lines) quiet.rest last) in
    let is = due_next due added.lines (quiet.rest ++ last) text actions added.kind apart (BeginsQuietly-last quiet.rest j.verdict quiet.quiet) in
    compared_differs j (texts_of readings) (texts_of later ++ last) _ text _ found written is.other is.due
    ∙ ap (λ (n : ℕ). differ (record { line = 1 + n; found = text; want = first_of (due ++ added.lines) })) (length-map readings (λ (r : Reading). r.text))

-- ---- `end` while an action is due

pub end_differs : (readings : List Reading) (next : List ℕ) (due : List (List ℕ)) → lines_for readings ≡ texts_of readings ++ next ∷ due → IsAction next →
    comparison_for (judgement_of readings ended) ≡ differ (record { line = 1 + length readings; found = codes "end"; want = Some next })
end_differs readings next due agrees action =
    let is = due_first (codes "end") next (due ++ codes "end" ∷ []) (λ same. action_apart next (codes "end") action.begins refl (sym same)) action in
    compared_differs (judgement_of readings ended) (texts_of readings) [] (next ∷ (due ++ codes "end" ∷ [])) (codes "end") (Some next) refl
    (ap (λ (ls : List (List ℕ)). ls ++ codes "end" ∷ []) agrees ∙ append_assoc (texts_of readings) (next ∷ due) (codes "end" ∷ [])) is.other is.due
    ∙ ap (λ (n : ℕ). differ (record { line = 1 + n; found = codes "end"; want = Some next })) (length-map readings (λ (r : Reading). r.text))

-- ---- an output

-- what `replay` wrote for a trace that ended agrees
pub output_agrees : (input : List ℕ) → verdict_of input ≡ ended → FitsTrace (output_of input) → outcome_told (comparison_of (output_of input)) ≡ Done
output_agrees input e fits =
    let read = output_lines input e fits in
    ap outcome_told (ap comparison_for read.ends ∙ compared_ended read.readings read.same)
