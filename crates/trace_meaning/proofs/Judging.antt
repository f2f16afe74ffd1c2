-- The line that decides, by what was read so far and what stands behind it.
use Rattle.std.proofs.Common.{◌≡◌, ℕ, ◌<◌, ◌≤◌, false, ltb, List, [], ◌∷◌, ◌++◌, length, All, Some, None, refl, sym, ap, ◌∙◌, subst, arith}
use Rattle.std.proofs.lemmas.Bool.{or_from, le-ltb}
use Rattle.std.proofs.lemmas.List.{append_assoc, append-nil, map-append}
use Rattle.io_edge.specs.Lines.{HasNoLineFeed, whole_lines, unfinished_line, ended_lines, line_limit}
use Rattle.io_edge.proofs.LineLemmas.{whole_lines-ended, unfinished_line-ended, whole_lines-line}
use Rattle.trace_text.specs.Stages.{first_stage}
use Rattle.trace_meaning.specs.Reading.{Reading, reading_at, stage_behind, readings_from, readings_of, events_in}
use Rattle.line_run.specs.Judgement.{Verdict, most_lines, is_too_long}
use Rattle.trace_meaning.specs.Judgement.{verdict_by, verdict_at, number_behind, Judgement, judged_from, judged}
use Rattle.trace_meaning.specs.Passing.{texts_of, PassBehind, ArePassed}
use Rattle.trace_meaning.proofs.Readings.{readings_from-append}

-- ---- from a front that passes

-- a line that passes decides nothing
pub judged_from-passes : (before : List Reading) (later more : List Reading) (rest : List ℕ) → PassBehind before later →
    judged_from before (later ++ more) rest ≡ judged_from (before ++ later) more rest
unfolding judged_from PassBehind
judged_from-passes before [] more rest pass = rw (append-nil before) refl
judged_from-passes before (reading ∷ later) more rest pass =
    let here : verdict_at before reading ≡ None = pass.0 in
    let on = judged_from-passes (before ++ reading ∷ []) later more rest pass.1 in
    rw here (on ∙ ap (λ (rs : List Reading). judged_from rs more rest) (append_assoc before (reading ∷ []) later))

-- the lines in front of some bytes have passed
pub judged_behind : (readings : List Reading) (tail : List ℕ) → ArePassed readings → All HasNoLineFeed (texts_of readings) →
    judged (ended_lines (texts_of readings) ++ tail)
    ≡ judged_from readings (readings_from (stage_behind readings first_stage) (whole_lines tail)) (unfinished_line tail)
unfolding stage_behind
judged_behind readings tail passed clean =
    let texts = texts_of readings in
    let read : readings_of (whole_lines (ended_lines texts ++ tail)) ≡ readings ++ readings_from (stage_behind readings first_stage) (whole_lines tail) =
    ap readings_of (whole_lines-ended texts tail clean)
    ∙ readings_from-append first_stage texts (whole_lines tail)
    ∙ ap (λ (rs : List Reading). rs ++ readings_from (stage_behind rs first_stage) (whole_lines tail)) (sym passed.read) in
    rw (read, unfinished_line-ended texts tail clean) (judged_from-passes [] readings _ (unfinished_line tail) passed.pass)

-- ---- what decides behind it

abbrev pub judgement_of : List Reading → Verdict → Judgement
judgement_of passed verdict = record { passed = passed; verdict = verdict }

decides_first : (before : List Reading) (reading : Reading) (later : List Reading) (rest : List ℕ) (verdict : Verdict) →
    verdict_at before reading ≡ Some verdict → judged_from before (reading ∷ later) rest ≡ judgement_of before verdict
unfolding judged_from
decides_first before reading later rest verdict e = rw e refl

-- a whole line that decides
pub judged_line : (readings : List Reading) (line more : List ℕ) (verdict : Verdict) → ArePassed readings → All HasNoLineFeed (texts_of readings) → HasNoLineFeed line →
    verdict_at readings (reading_at (stage_behind readings first_stage) line) ≡ Some verdict →
    judged (ended_lines (texts_of readings) ++ (line ++ 10 ∷ more)) ≡ judgement_of readings verdict
unfolding readings_from
judged_line readings line more verdict passed clean one decides =
    let stage = stage_behind readings first_stage in
    judged_behind readings (line ++ 10 ∷ more) passed clean
    ∙ ap (λ (lines : List (List ℕ)). judged_from readings (readings_from stage lines) (unfinished_line (line ++ 10 ∷ more))) (whole_lines-line line more one)
    ∙ decides_first readings (reading_at stage line) _ _ verdict decides

-- short enough by both
short_enough : (readings : List Reading) (text : List ℕ) → length readings < most_lines → length text ≤ line_limit → is_too_long (number_behind readings) text ≡ false
short_enough readings text few short =
    or_from (ltb most_lines (number_behind readings)) (ltb line_limit (length text))
    (le-ltb most_lines (number_behind readings) (omega arith)) (le-ltb line_limit (length text) short)

-- one whole line decides by what it says
pub verdict_at-short : (readings : List Reading) (reading : Reading) → length readings < most_lines → length reading.text ≤ line_limit →
    verdict_at readings reading ≡ verdict_by (number_behind readings) (length (events_in readings)) reading.says
verdict_at-short readings reading few short = rw (short_enough readings reading.text few short) refl

-- ---- one line more

pub PassBehind-push : (before later : List Reading) (reading : Reading) → PassBehind before later → verdict_at (before ++ later) reading ≡ None →
    PassBehind before (later ++ reading ∷ [])
unfolding PassBehind
PassBehind-push before [] reading pass none = (subst (λ (rs : List Reading). verdict_at rs reading ≡ None) (append-nil before) none, tt)
PassBehind-push before (first ∷ later) reading pass none = (
  pass.0,
  PassBehind-push (before ++ first ∷ []) later reading pass.1
      (subst (λ (rs : List Reading). verdict_at rs reading ≡ None) (sym (append_assoc before (first ∷ []) later)) none),
)

pub ArePassed-none : ArePassed []
unfolding readings_from PassBehind
ArePassed-none = record { read = refl; pass = tt }

pub ArePassed-more : (readings : List Reading) (text : List ℕ) → ArePassed readings → verdict_at readings (reading_at (stage_behind readings first_stage) text) ≡ None →
    ArePassed (readings ++ reading_at (stage_behind readings first_stage) text ∷ [])
unfolding readings_from
ArePassed-more readings text passed none =
    let stage = stage_behind readings first_stage in
    let reading = reading_at stage text in
    let texts = texts_of readings in
    let pushed : texts_of (readings ++ reading ∷ []) ≡ texts ++ text ∷ [] = map-append (λ (r : Reading). r.text) readings (reading ∷ []) in
    let again : readings_of (texts ++ text ∷ []) ≡ readings ++ reading ∷ [] =
    readings_from-append first_stage texts (text ∷ [])
    ∙ ap (λ (rs : List Reading). rs ++ readings_from (stage_behind rs first_stage) (text ∷ [])) (sym passed.read) in
    record { read = sym (ap readings_of pushed ∙ again); pass = PassBehind-push [] readings reading passed.pass none }
