-- The output of a front of a trace is a front of its output.
use Rattle.std.proofs.Common.{◌≡◌, ℕ, Bool, true, false, cond, List, [], ◌∷◌, ◌++◌, length, All, Option, Some, None, Ok, ◌⊎◌, inl, inr, ⊎_elim, refl, sym, ap, ◌∙◌}
use Rattle.std.proofs.lemmas.List.{append_assoc, append-nil}
use Rattle.std.proofs.lemmas.List.Concat.{flat_map-append}
use Rattle.io_edge.specs.Lines.{HasNoLineFeed, whole_lines, unfinished_line, ended_lines}
use Rattle.io_edge.proofs.LineLemmas.{whole_lines-append}
use Rattle.net_base.specs.declared.refusal.RefusalKind.TheVariants.{NoEnd}
use Rattle.trace_text.specs.Stages.{first_stage}
use Rattle.trace_text.specs.declared.line.Line.{Line}
use Rattle.trace_text.specs.declared.line.Line.TheVariants.{Head, Happen, Acted, End}
use Rattle.trace_meaning.specs.Reading.{Reading, said_at, stage_past, reading_at, stage_behind, readings_from, readings_of, events_in}
use Rattle.line_run.specs.Judgement.{Verdict, refused, too_long, is_too_long, verdict_of_rest}
use Rattle.trace_meaning.specs.Judgement.{verdict_by, verdict_at, number_behind, Judgement, judged_at, judged_from, judged}
use Rattle.trace_meaning.specs.Output.{lines_for, last_lines, output_for, output_of}
use Rattle.trace_meaning.specs.Passing.{texts_of, PassBehind, ArePassed}
use Rattle.trace_meaning.proofs.Grammar.{IsLineAt}
use Rattle.trace_meaning.proofs.Readings.{stage_behind-push, readings_from-append, texts-readings_from, Passes, AreFront, AreFront-more, AreFront-passed, no_events_before_head, line_at, passed_behind}
use Rattle.trace_meaning.proofs.Outputs.{lines_for-head, lines_for-acted, lines_for-event, told_behind}
use Rattle.trace_meaning.proofs.Judging.{judged_from-passes, judged_behind}

-- the whole list begins with the front
pub record Begins {A : Type 0} (whole front : List A) : Type 0 where
  pub rest : List A
  pub split : whole ≡ front ++ rest

pub Begins-same : {A : Type 0} (xs : List A) → Begins xs xs
Begins-same xs = record { rest = []; split = sym (append-nil xs) }

pub Begins-from : {A : Type 0} (xs ys : List A) → xs ≡ ys → Begins xs ys
Begins-from xs ys same = record { rest = []; split = same ∙ sym (append-nil ys) }

pub Begins-more : {A : Type 0} (xs ys zs : List A) → Begins xs ys → Begins ys zs → Begins xs zs
Begins-more {A} xs ys zs a b = record {
  rest = b.rest ++ a.rest;
  split = a.split ∙ ap (λ (l : List A). l ++ a.rest) b.split ∙ append_assoc zs b.rest a.rest;
}

pub Begins-ended : (xs ys : List (List ℕ)) → Begins xs ys → Begins (ended_lines xs) (ended_lines ys)
Begins-ended xs ys a = record {
  rest = ended_lines a.rest;
  split = ap ended_lines a.split ∙ flat_map-append (λ line. line ++ 10 ∷ []) ys a.rest;
}

-- ---- the lines that are written

lines_for-said : (readings : List Reading) (text : List ℕ) (line : Line) (n : ℕ) → AreFront readings → IsLineAt (stage_behind readings first_stage) line →
    verdict_by n (length (events_in readings)) (Ok line) ≡ None → Begins (lines_for (readings ++ record { text = text; says = Ok line } ∷ [])) (lines_for readings)
lines_for-said readings text (Head head) n front at passes =
    let none = no_events_before_head _ _ (events_in readings) head front at in
    record { rest = text ∷ []; split = lines_for-head readings text head none }
lines_for-said readings text (Happen event) n front at passes = record { rest = told_behind readings text event; split = lines_for-event readings text event }
lines_for-said readings text Acted n front at passes = Begins-from _ _ (lines_for-acted readings text)
lines_for-said readings text End n front at passes = absurd cc

lines_for-more : (readings : List Reading) (text : List ℕ) → AreFront readings → Passes readings (reading_at (stage_behind readings first_stage) text) →
    Begins (lines_for (readings ++ reading_at (stage_behind readings first_stage) text ∷ [])) (lines_for readings)
lines_for-more readings text front passes =
    let stage = stage_behind readings first_stage in
    let found = line_at readings stage text passes in
    let by : verdict_by (number_behind readings) (length (events_in readings)) (Ok found.0) ≡ None = rw (← found.1) passes.by in
    rw found.1 (lines_for-said readings text found.0 (number_behind readings) front found.2 by)

-- lines that pass, and more of them behind
record Grows (front readings : List Reading) : Type 0 where
  front_is : AreFront readings
  begins : Begins (lines_for readings) (lines_for front)

-- what lines that pass give begins what they give with more lines behind them
pub lines_for-behind : (readings : List Reading) (texts : List (List ℕ)) → AreFront readings → PassBehind readings (readings_from (stage_behind readings first_stage) texts) →
    Begins (lines_for (readings ++ readings_from (stage_behind readings first_stage) texts)) (lines_for readings)
lines_for-behind readings texts front pass =
    let grown = passed_behind (Grows readings)
    (λ before text so_far passes. record {
      front_is = AreFront-more before text so_far.front_is passes;
      begins = Begins-more _ _ _ (lines_for-more before text so_far.front_is passes) so_far.begins;
    })
    readings texts (record { front_is = front; begins = Begins-same (lines_for readings) }) pass in
    grown.begins

-- ---- what is judged behind lines that pass

-- the judgement is over these lines, and more of them that pass
pub record Continues (before : List Reading) (j : Judgement) : Type 0 where
  pub texts : List (List ℕ)
  pub passed : j.passed ≡ before ++ readings_from (stage_behind before first_stage) texts
  pub pass : PassBehind before (readings_from (stage_behind before first_stage) texts)

Continues-none : (before : List Reading) (j : Judgement) → j.passed ≡ before → Continues before j
unfolding readings_from PassBehind
Continues-none before j same = record { texts = []; passed = same ∙ sym (append-nil before); pass = tt }

Continues-more : (before : List Reading) (text : List ℕ) (j : Judgement) → verdict_at before (reading_at (stage_behind before first_stage) text) ≡ None →
    Continues (before ++ reading_at (stage_behind before first_stage) text ∷ []) j → Continues before j
unfolding readings_from PassBehind
Continues-more before text j none on =
    let reading = reading_at (stage_behind before first_stage) text in
    let stage : stage_behind (before ++ reading ∷ []) first_stage ≡ stage_past (stage_behind before first_stage) reading.says = stage_behind-push before reading first_stage in
    let passed = rw (stage, append_assoc) at on.passed in
    let pass = rw stage at on.pass in
    record { texts = text ∷ on.texts; passed = passed; pass = (none, pass) }

pub judged_from-continues : (before : List Reading) (texts : List (List ℕ)) (rest : List ℕ) →
    Continues before (judged_from before (readings_from (stage_behind before first_stage) texts) rest)
unfolding judged_from readings_from
judged_from-continues before [] rest = Continues-none before _ refl
judged_from-continues before (text ∷ texts) rest =
    by_verdict (verdict_at before (reading_at (stage_behind before first_stage) text)) refl
    (judged_from-continues (before ++ reading_at (stage_behind before first_stage) text ∷ []) texts rest)
  where
    by_verdict : (verdict : Option Verdict) → verdict_at before (reading_at (stage_behind before first_stage) text) ≡ verdict →
        Continues (before ++ reading_at (stage_behind before first_stage) text ∷ [])
        (judged_from (before ++ reading_at (stage_behind before first_stage) text ∷ [])
        (readings_from (stage_behind (before ++ reading_at (stage_behind before first_stage) text ∷ []) first_stage) texts) rest) →
        Continues before (judged_at verdict before (judged_from (before ++ reading_at (stage_behind before first_stage) text ∷ [])
        (readings_from (stage_past (stage_behind before first_stage) (said_at (stage_behind before first_stage) text)) texts) rest))
    by_verdict None is on =
        let stage = stage_behind-push before (reading_at (stage_behind before first_stage) text) first_stage in
        Continues-more before text _ is (rw stage at on)
    by_verdict (Some verdict) is on = Continues-none before _ refl

output_for-begins : (before : List Reading) (j : Judgement) → AreFront before → Continues before j → Begins (output_for j) (ended_lines (lines_for before))
output_for-begins before j front on =
    let more : Begins (lines_for j.passed) (lines_for before) = rw on.passed (lines_for-behind before on.texts front on.pass) in
    Begins-ended _ _ (Begins-more _ _ _ (record { rest = last_lines j.verdict; split = refl }) more)

-- what lines that pass give begins the output, whatever stands behind them
pub output_behind : (readings : List Reading) (tail : List ℕ) → ArePassed readings → All HasNoLineFeed (texts_of readings) →
    Begins (output_of (ended_lines (texts_of readings) ++ tail)) (ended_lines (lines_for readings))
output_behind readings tail passed clean =
    rw (judged_behind readings tail passed clean)
    (output_for-begins readings _ (AreFront-passed readings passed) (judged_from-continues readings (whole_lines tail) (unfinished_line tail)))

-- ---- further bytes

-- one of these lines decides, whatever follows them, or they all pass
abbrev pub DecideAlone : List Reading → List Reading → Type 0
DecideAlone before readings = (more other : List Reading) (rest last : List ℕ) →
    judged_from before (readings ++ more) rest ≡ judged_from before (readings ++ other) last

pub decided_or_passed : (before readings : List Reading) → DecideAlone before readings ⊎ PassBehind before readings
unfolding judged_from PassBehind
decided_or_passed before [] = inr tt
decided_or_passed before (reading ∷ readings) = by_verdict (verdict_at before reading) refl (decided_or_passed (before ++ reading ∷ []) readings)
  where
    by_verdict : (verdict : Option Verdict) → verdict_at before reading ≡ verdict → DecideAlone (before ++ reading ∷ []) readings ⊎ PassBehind (before ++ reading ∷ []) readings →
        DecideAlone before (reading ∷ readings) ⊎ PassBehind before (reading ∷ readings)
    by_verdict None is (inl alone) = inl (λ more other rest last. rw is (alone more other rest last))
    by_verdict None is (inr pass) = inr (is, pass)
    by_verdict (Some verdict) is on = inl (λ more other rest last. rw is refl)

pub read_further : (xs more : List ℕ) → readings_of (whole_lines (xs ++ more))
    ≡ readings_of (whole_lines xs) ++ readings_from (stage_behind (readings_of (whole_lines xs)) first_stage) (whole_lines (unfinished_line xs ++ more))
read_further xs more =
    ap readings_of (whole_lines-append xs more) ∙ readings_from-append first_stage (whole_lines xs) (whole_lines (unfinished_line xs ++ more))

-- no line is written for what stands behind the last line feed
pub last_lines-rest : (number : ℕ) (rest : List ℕ) → last_lines (verdict_of_rest number rest) ≡ []
last_lines-rest number rest = by_length (is_too_long number rest)
  where
    by_length : (b : Bool) → last_lines (cond b (too_long number) (refused number NoEnd)) ≡ []
    by_length true = refl
    by_length false = refl

output_of-rest : (readings : List Reading) (rest : List ℕ) → output_for (judged_from readings [] rest) ≡ ended_lines (lines_for readings)
unfolding judged_from
output_of-rest readings rest = rw (last_lines-rest (number_behind readings) rest) (ap ended_lines (append-nil (lines_for readings)))

pub ArePassed-lines : (lines : List (List ℕ)) → PassBehind [] (readings_of lines) → ArePassed (readings_of lines)
ArePassed-lines lines pass = record { read = ap readings_of (sym (texts-readings_from first_stage lines)); pass = pass }

-- a decision stays, whatever follows
pub alone_further : (xs more : List ℕ) → DecideAlone [] (readings_of (whole_lines xs)) → judged (xs ++ more) ≡ judged xs
alone_further xs more alone =
    ap (λ (rs : List Reading). judged_from [] rs (unfinished_line (xs ++ more))) (read_further xs more)
    ∙ alone _ [] (unfinished_line (xs ++ more)) (unfinished_line xs)
    ∙ ap (λ (rs : List Reading). judged_from [] rs (unfinished_line xs)) (append-nil (readings_of (whole_lines xs)))

pub passed_alone : (xs : List ℕ) → PassBehind [] (readings_of (whole_lines xs)) → judged xs ≡ judged_from (readings_of (whole_lines xs)) [] (unfinished_line xs)
passed_alone xs pass =
    ap (λ (rs : List Reading). judged_from [] rs (unfinished_line xs)) (sym (append-nil (readings_of (whole_lines xs))))
    ∙ judged_from-passes [] (readings_of (whole_lines xs)) [] (unfinished_line xs) pass

passed_further : (xs more : List ℕ) → PassBehind [] (readings_of (whole_lines xs)) → Begins (output_of (xs ++ more)) (output_of xs)
passed_further xs more pass =
    let readings = readings_of (whole_lines xs) in
    let later = readings_from (stage_behind readings first_stage) (whole_lines (unfinished_line xs ++ more)) in
    let whole : judged (xs ++ more) ≡ judged_from readings later (unfinished_line (xs ++ more)) =
    ap (λ (rs : List Reading). judged_from [] rs (unfinished_line (xs ++ more))) (read_further xs more)
    ∙ judged_from-passes [] readings later (unfinished_line (xs ++ more)) pass in
    let front = AreFront-passed readings (ArePassed-lines (whole_lines xs) pass) in
    rw (whole, passed_alone xs pass, output_of-rest readings (unfinished_line xs))
    (output_for-begins readings _ front (judged_from-continues readings (whole_lines (unfinished_line xs ++ more)) (unfinished_line (xs ++ more))))

-- what some bytes give begins what they give with more bytes behind them
pub output_of-front : (xs more : List ℕ) → Begins (output_of (xs ++ more)) (output_of xs)
output_of-front xs more =
    ⊎_elim (λ alone. Begins-from _ _ (ap output_for (alone_further xs more alone))) (passed_further xs more)
    (decided_or_passed [] (readings_of (whole_lines xs)))
