-- A verdict's number says which lines have passed, so bytes behind those that decide change nothing.
use Rattle.std.proofs.Common.{◌≡◌, ℕ, ◌+◌, Bool, true, false, cond, leb, List, [], ◌∷◌, ◌++◌, length, Option, Some, None, Result, Ok, Err, ⊎_elim, refl, sym, ap, ◌∙◌, subst, arith}
use Rattle.std.proofs.lemmas.List.{append-nil, length-append, nil_from_length}
use Rattle.io_edge.specs.Lines.{whole_lines, unfinished_line}
use Rattle.net_base.specs.declared.refusal.RefusalKind.TheVariants.{NoEnd}
use Rattle.trace_text.specs.Stages.{first_stage}
use Rattle.trace_text.specs.declared.line.Line.{Line}
use Rattle.trace_text.specs.declared.line.Line.TheVariants.{Head, Happen, Acted, End}
use Rattle.trace_text.specs.declared.line.LineRefusal.{LineRefusal}
use Rattle.line_run.specs.Judgement.{Verdict, ended, differed, refused, too_long, is_too_long, verdict_of_rest}
use Rattle.line_run.specs.Refusals.{kind_of}
use Rattle.trace_meaning.specs.Reading.{Reading, stage_behind, readings_from, readings_of, events_in}
use Rattle.trace_meaning.specs.Judgement.{most_events, verdict_by, verdict_at, number_behind, Judgement, judged_at, judged_from, judged}
use Rattle.trace_meaning.specs.Passing.{PassBehind}
use Rattle.trace_meaning.specs.Replays.{verdict_of}
use Rattle.trace_meaning.proofs.Judging.{judged_from-passes}
use Rattle.trace_meaning.proofs.Prefixes.{judged_from-continues, decided_or_passed, read_further, alone_further, passed_alone}

-- the line with this number decides
abbrev HasNumber : ℕ → Verdict → Type 0
HasNumber n ended = Unit {0}
HasNumber n (differed line) = line ≡ n
HasNumber n (refused line kind) = line ≡ n
HasNumber n (too_long line) = line ≡ n

rest_number : (n : ℕ) (rest : List ℕ) → HasNumber n (verdict_of_rest n rest)
rest_number n rest = by_length (is_too_long n rest)
  where
    by_length : (b : Bool) → HasNumber n (cond b (too_long n) (refused n NoEnd))
    by_length true = refl
    by_length false = refl

rest_number_is : (m n : ℕ) (rest : List ℕ) → HasNumber m (verdict_of_rest n rest) → n ≡ m
rest_number_is m n rest = by_length (is_too_long n rest)
  where
    by_length : (b : Bool) → HasNumber m (cond b (too_long n) (refused n NoEnd)) → n ≡ m
    by_length true is = is
    by_length false is = is

verdict_number : (before : List Reading) (reading : Reading) (verdict : Verdict) → verdict_at before reading ≡ Some verdict → HasNumber (number_behind before) verdict
verdict_number before reading verdict = by_length (is_too_long (number_behind before) reading.text)
  where
    by_many : (b : Bool) → cond b (Some (too_long (number_behind before))) None ≡ Some verdict → HasNumber (number_behind before) verdict
    by_many true is = let same : too_long (number_behind before) ≡ verdict = cc in subst (HasNumber (number_behind before)) same refl
    by_many false is = absurd cc

    by_says : (says : Result Line LineRefusal) → verdict_by (number_behind before) (length (events_in before)) says ≡ Some verdict → HasNumber (number_behind before) verdict
    by_says (Ok (Head head)) is = absurd cc
    by_says (Ok (Happen event)) is = by_many (leb most_events (length (events_in before))) is
    by_says (Ok Acted) is = absurd cc
    by_says (Ok End) is = let same : ended ≡ verdict = cc in subst (HasNumber (number_behind before)) same tt
    by_says (Err refusal) is = let same : refused (number_behind before) (kind_of refusal) ≡ verdict = cc in subst (HasNumber (number_behind before)) same refl

    by_length : (b : Bool) → cond b (Some (too_long (number_behind before))) (verdict_by (number_behind before) (length (events_in before)) reading.says) ≡ Some verdict →
        HasNumber (number_behind before) verdict
    by_length true is = let same : too_long (number_behind before) ≡ verdict = cc in subst (HasNumber (number_behind before)) same refl
    by_length false is = by_says reading.says is

-- the verdict is that of the line behind those that have passed
judged_number : (before readings : List Reading) (rest : List ℕ) →
    HasNumber (number_behind (judged_from before readings rest).passed) (judged_from before readings rest).verdict
unfolding judged_from
judged_number before [] rest = rest_number (number_behind before) rest
judged_number before (reading ∷ readings) rest = by_verdict (verdict_at before reading) refl (judged_number (before ++ reading ∷ []) readings rest)
  where
    by_verdict : (verdict : Option Verdict) → verdict_at before reading ≡ verdict →
        HasNumber (number_behind (judged_from (before ++ reading ∷ []) readings rest).passed) (judged_from (before ++ reading ∷ []) readings rest).verdict →
        HasNumber (number_behind (judged_at verdict before (judged_from (before ++ reading ∷ []) readings rest)).passed) (judged_at verdict before (judged_from (before ++ reading ∷ []) readings rest)).verdict
    by_verdict None is later = later
    by_verdict (Some verdict) is later = verdict_number before reading verdict is

judgement_is : (j : Judgement) (passed : List Reading) (verdict : Verdict) → j.passed ≡ passed → j.verdict ≡ verdict → j ≡ record { passed = passed; verdict = verdict }
judgement_is j passed verdict p v = rw (← p, ← v) refl

-- where no line decides, more bytes that leave the verdict leave the lines that have passed
passed_settled : (xs more : List ℕ) → PassBehind [] (readings_of (whole_lines xs)) → verdict_of (xs ++ more) ≡ verdict_of xs → judged (xs ++ more) ≡ judged xs
unfolding judged_from
passed_settled xs more pass same =
    let readings = readings_of (whole_lines xs) in
    let texts = whole_lines (unfinished_line xs ++ more) in
    let j = judged_from readings (readings_from (stage_behind readings first_stage) texts) (unfinished_line (xs ++ more)) in
    let whole : judged (xs ++ more) ≡ j =
    ap (λ (rs : List Reading). judged_from [] rs (unfinished_line (xs ++ more))) (read_further xs more)
    ∙ judged_from-passes [] readings (readings_from (stage_behind readings first_stage) texts) (unfinished_line (xs ++ more)) pass in
    let verdict : j.verdict ≡ verdict_of_rest (number_behind readings) (unfinished_line xs) =
    ap (λ (k : Judgement). k.verdict) (sym whole) ∙ same ∙ ap (λ (k : Judgement). k.verdict) (passed_alone xs pass) in
    let number : number_behind readings ≡ number_behind j.passed =
    rest_number_is (number_behind j.passed) (number_behind readings) (unfinished_line xs)
    (subst (HasNumber (number_behind j.passed)) verdict (judged_number readings (readings_from (stage_behind readings first_stage) texts) (unfinished_line (xs ++ more)))) in
    let on = judged_from-continues readings texts (unfinished_line (xs ++ more)) in
    let more_read = readings_from (stage_behind readings first_stage) on.texts in
    let count : length j.passed ≡ length readings + length more_read = ap length on.passed ∙ length-append readings more_read in
    let none : more_read ≡ [] = nil_from_length more_read (omega (arith, count, number)) in
    let passed : j.passed ≡ readings = on.passed ∙ ap (λ (rs : List Reading). readings ++ rs) none ∙ append-nil readings in
    whole ∙ judgement_is j readings _ passed verdict ∙ sym (passed_alone xs pass)

pub judged_settled : (xs more : List ℕ) → verdict_of (xs ++ more) ≡ verdict_of xs → judged (xs ++ more) ≡ judged xs
judged_settled xs more same =
    ⊎_elim (λ alone. alone_further xs more alone) (λ pass. passed_settled xs more pass same)
    (decided_or_passed [] (readings_of (whole_lines xs)))
