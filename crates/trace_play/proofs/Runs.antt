-- What a run over the lines of a trace, each by what it means, comes to.
use Rattle.std.proofs.Common.{◌≡◌, ℕ, ◌+◌, Bool, true, false, cond, List, [], ◌∷◌, ◌++◌, Option, Some, refl, sym, ap, ◌∙◌, subst}
use Rattle.std.specs.Prelude.{codes}
use Rattle.std.proofs.lemmas.List.{append_assoc, length_push}
use Rattle.io_edge.specs.Lines.{whole_lines, unfinished_line, ended_lines}
use Rattle.io_edge.specs.Told.{Takes, TakesProperPrefix}
use Rattle.io_edge.proofs.ToldLemmas.{Gives-nothing, Takes-nothing}
use Rattle.line_run.specs.Judgement.{Verdict, ended, differed, refused, too_long, Judgement as LineJudgement, silently, behind, is_too_long, judged_by, verdict_of_rest, judged_from as lines_from, judged as lines_judged, output_of as lines_output, verdict_of as lines_verdict}
use Rattle.line_run.specs.Meaning.{Meaning, goes_on, ends, differs, is_refused, is_too_many}
use Rattle.line_run.specs.Runs as run
use Rattle.line_run.specs.declared.outcome.LineOutcome.{LineOutcome}
use Rattle.line_run.specs.declared.outcome.LineOutcome.TheVariants.{Done, Differ, Refused, ReadFault, WriteFault, OutOfMemory, TooLong}
use Rattle.trace_text.specs.Stages.{first_stage}
use Rattle.trace_text.specs.declared.stage.Stage.{Stage}
use Rattle.trace_meaning.specs.FaultCounts as trace
use Rattle.trace_meaning.specs.Judgement.{verdict_at, number_behind, Judgement, judged_at, judged_from, judged}
use Rattle.trace_meaning.specs.Output.{lines_for, last_lines, output_of}
use Rattle.trace_meaning.specs.Reading.{Reading, reading_at, stage_behind, stage_past, readings_from}
use Rattle.trace_meaning.specs.Replays.{verdict_of, outcome_of, Replays, AreDecisive}
use Rattle.trace_meaning.specs.Told.{outcome_run}
use Rattle.trace_meaning.proofs.Prefixes.{last_lines-rest}
use Rattle.trace_meaning.proofs.Readings.{stage_behind-push}
use Rattle.trace_meaning.proofs.Settled.{judged_settled}
use Rattle.trace_play.specs.Playback.{Kept, nothing_kept, StandsBehind, GoesOn}
use Rattle.trace_play.specs.Played.{played}
use Rattle.trace_play.proofs.Playing.{StandsBehind-none, ComesTo, line_comes, never_differs}
use Rattle.line_run.proofs.Differing.{none_differs}
use Rattle.line_run.proofs.Inputs.{lines_prefix}

abbrev last : List (List ℕ)
last = codes "end" ∷ []

-- what is written of a trace, and what decides it
abbrev whole_of : Judgement → LineJudgement
whole_of j = record { lines = lines_for j.passed ++ last_lines j.verdict; verdict = j.verdict }

-- one line more, with what is judged of those behind it
line_judged : (readings : List Reading) (before : Kept) (text : List ℕ) (later : Kept → LineJudgement) (j : Judgement) → StandsBehind before readings →
    is_too_long (number_behind readings) text ≡ false →
    ((next : Kept) (said : List (List ℕ)) → GoesOn readings (reading_at (stage_behind readings first_stage) text) next said →
    behind (lines_for (readings ++ reading_at (stage_behind readings first_stage) text ∷ [])) (later next) ≡ whole_of j) →
    behind (lines_for readings) (judged_by (number_behind readings) (played last before text) later)
    ≡ whole_of (judged_at (verdict_at readings (reading_at (stage_behind readings first_stage) text)) readings j)
line_judged readings before text later j stands short on = by_meaning (played last before text) (line_comes last before readings text stands short)
  where
    reading : Reading
    reading = reading_at (stage_behind readings first_stage) text

    by_meaning : (m : Meaning Kept) → ComesTo last readings reading m →
        behind (lines_for readings) (judged_by (number_behind readings) m later) ≡ whole_of (judged_at (verdict_at readings reading) readings j)
    by_meaning (goes_on next said) goes =
        let said_behind : behind (lines_for readings) (behind said (later next)) ≡ behind (lines_for (readings ++ reading ∷ [])) (later next) =
        ap (λ (ls : List (List ℕ)). record { lines = ls; verdict = (later next).verdict })
        (sym (append_assoc (lines_for readings) said (later next).lines) ∙ ap (λ (ls : List (List ℕ)). ls ++ (later next).lines) (sym goes.lines)) in
        said_behind ∙ on next said goes ∙ ap (λ (v : Option Verdict). whole_of (judged_at v readings j)) (sym goes.passes)
    by_meaning (ends lines) is =
        ap (λ (ls : List (List ℕ)). record { lines = lines_for readings ++ ls; verdict = ended }) is.1
        ∙ ap (λ (v : Option Verdict). whole_of (judged_at v readings j)) (sym is.0)
    by_meaning (differs lines) is = absurd is
    by_meaning (is_refused kind) is = ap (λ (v : Option Verdict). whole_of (judged_at v readings j)) (sym is)
    by_meaning is_too_many is = ap (λ (v : Option Verdict). whole_of (judged_at v readings j)) (sym is)

-- it comes to the same behind one line more
abbrev Later : List Reading → List (List ℕ) → List ℕ → Type 0
Later readings texts rest = (next : Kept) → StandsBehind next readings →
    behind (lines_for readings) (lines_from (played last) (number_behind readings) next texts rest)
    ≡ whole_of (judged_from readings (readings_from (stage_behind readings first_stage) texts) rest)

-- behind lines that pass
judged_played : (readings : List Reading) (before : Kept) (texts : List (List ℕ)) (rest : List ℕ) → StandsBehind before readings →
    behind (lines_for readings) (lines_from (played last) (number_behind readings) before texts rest)
    ≡ whole_of (judged_from readings (readings_from (stage_behind readings first_stage) texts) rest)
unfolding lines_from judged_from readings_from
judged_played readings before [] rest stands =
    ap (λ (ls : List (List ℕ)). record { lines = lines_for readings ++ ls; verdict = verdict_of_rest (number_behind readings) rest })
    (sym (last_lines-rest (number_behind readings) rest))
judged_played readings before (text ∷ texts) rest stands =
    by_length (λ next goes. judged_played (readings ++ reading_at (stage_behind readings first_stage) text ∷ []) next texts rest goes) (is_too_long (number_behind readings) text) refl
  where
    stage : Stage
    stage = stage_behind readings first_stage

    reading : Reading
    reading = reading_at stage text

    later : Kept → LineJudgement
    later next = lines_from (played last) (number_behind readings + 1) next texts rest

    trace_later : Judgement
    trace_later = judged_from (readings ++ reading ∷ []) (readings_from (stage_past stage reading.says) texts) rest

    on : Later (readings ++ reading ∷ []) texts rest → (next : Kept) (said : List (List ℕ)) → GoesOn readings reading next said → behind (lines_for (readings ++ reading ∷ [])) (later next) ≡ whole_of trace_later
    on behind_it next said goes =
        ap (λ (n : ℕ). behind (lines_for (readings ++ reading ∷ [])) (lines_from (played last) (n + 1) next texts rest)) (sym (length_push readings reading))
        ∙ behind_it next goes.stands
        ∙ ap (λ s. whole_of (judged_from (readings ++ reading ∷ []) (readings_from s texts) rest)) (stage_behind-push readings reading first_stage)

    by_length : Later (readings ++ reading ∷ []) texts rest → (b : Bool) → is_too_long (number_behind readings) text ≡ b →
        behind (lines_for readings) (cond (is_too_long (number_behind readings) text) (silently (too_long (number_behind readings))) (judged_by (number_behind readings) (played last before text) later))
        ≡ whole_of (judged_at (verdict_at readings reading) readings trace_later)
    by_length behind_it true long = rw long refl
    by_length behind_it false short =
        ap (λ (b : Bool). behind (lines_for readings) (cond b (silently (too_long (number_behind readings))) (judged_by (number_behind readings) (played last before text) later))) short
        ∙ line_judged readings before text later trace_later stands short (on behind_it)

judged_whole : (bytes : List ℕ) → lines_judged (played last) nothing_kept bytes ≡ whole_of (judged bytes)
unfolding stage_behind
judged_whole bytes = judged_played [] nothing_kept (whole_lines bytes) (unfinished_line bytes) StandsBehind-none

output_played : (bytes : List ℕ) → lines_output (played last) nothing_kept bytes ≡ output_of bytes
output_played bytes = ap (λ (j : LineJudgement). ended_lines j.lines) (judged_whole bytes)

verdict_played : (bytes : List ℕ) → lines_verdict (played last) nothing_kept bytes ≡ verdict_of bytes
verdict_played bytes = ap (λ (j : LineJudgement). j.verdict) (judged_whole bytes)

-- ---- what a run has come to

settled : (seen : List ℕ) (left : Option (List ℕ)) (outcome : LineOutcome) → run.AreDecisive (played last) nothing_kept seen left outcome →
    (more : List ℕ) → left ≡ Some more → judged (seen ++ more) ≡ judged seen
settled seen left outcome decisive more is =
    judged_settled seen more
    (sym (verdict_played (seen ++ more)) ∙ ap (λ (j : LineJudgement). j.verdict) (decisive.settled more is) ∙ verdict_played seen)

told_run : (verdict : Verdict) → outcome_run (run.outcome_of verdict) ≡ outcome_of verdict
told_run ended = refl
told_run (differed line) = refl
told_run (refused line kind) = refl
told_run (too_long line) = refl

decisive_run : (seen : List ℕ) (left : Option (List ℕ)) (outcome : LineOutcome) → run.AreDecisive (played last) nothing_kept seen left outcome →
    AreDecisive seen left (outcome_run outcome)
decisive_run seen left outcome decisive = record {
  told = ap outcome_run decisive.told ∙ told_run (lines_verdict (played last) nothing_kept seen) ∙ ap outcome_of (verdict_played seen);
  settled = settled seen left outcome decisive;
}

takes_run : (before after : Option (List ℕ)) (seen : List ℕ) → Takes before after (lines_output (played last) nothing_kept seen) → Takes before after (output_of seen)
takes_run before after seen takes = subst (λ (bytes : List ℕ). Takes before after bytes) (output_played seen) takes

pub replays_run : (l0 l1 t0 t1 : Option (List ℕ)) (outcome : LineOutcome) → run.Runs (played last) nothing_kept l0 l1 t0 t1 outcome → Replays l0 l1 t0 t1 (outcome_run outcome)
replays_run l0 l1 t0 t1 Done r = record {
  seen = r.seen;
  gives = r.gives;
  is_outcome = (decisive_run r.seen l1 Done r.is_outcome.0, takes_run t0 t1 r.seen r.is_outcome.1);
}
replays_run l0 l1 t0 t1 (Differ line) r = absurd (none_differs (played last) nothing_kept l0 l1 t0 t1 line (never_differs last) r)
replays_run l0 l1 t0 t1 (Refused line kind) r = record {
  seen = r.seen;
  gives = r.gives;
  is_outcome = (decisive_run r.seen l1 (Refused line kind) r.is_outcome.0, takes_run t0 t1 r.seen r.is_outcome.1);
}
replays_run l0 l1 t0 t1 (TooLong line) r = record {
  seen = r.seen;
  gives = r.gives;
  is_outcome = (decisive_run r.seen l1 (TooLong line) r.is_outcome.0, takes_run t0 t1 r.seen r.is_outcome.1);
}
replays_run l0 l1 t0 t1 ReadFault r = record {
  seen = r.seen;
  gives = r.gives;
  is_outcome = (sym (verdict_played r.seen) ∙ r.is_outcome.0, takes_run t0 t1 r.seen r.is_outcome.1);
}
replays_run l0 l1 t0 t1 WriteFault r = record {
  seen = r.seen;
  gives = r.gives;
  is_outcome = subst (λ (bytes : List ℕ). TakesProperPrefix t0 t1 bytes) (output_played r.seen) r.is_outcome;
}
replays_run l0 l1 t0 t1 OutOfMemory r = record {
  seen = r.seen;
  gives = r.gives;
  is_outcome = subst (λ (bytes : List ℕ). run.TakesPrefix t0 t1 bytes) (output_played r.seen) (lines_prefix (played last) nothing_kept r.seen t0 t1 r.is_outcome);
}

-- memory is wanting before anything was read
pub no_memory : (left taken : Option (List ℕ)) → Replays left left taken taken (outcome_run OutOfMemory)
no_memory left taken = record {
  seen = [];
  gives = Gives-nothing left;
  is_outcome = record { front = []; rest = output_of []; split = refl; taken = Takes-nothing taken };
}

-- ---- counts of faults

pub reads_run : (before now : ℕ) (outcome : LineOutcome) → run.HasReadCount before now outcome → trace.HasReadCount before now (outcome_run outcome)
reads_run before now Done count = count
reads_run before now (Differ line) count = count
reads_run before now (Refused line kind) count = count
reads_run before now ReadFault count = count
reads_run before now WriteFault count = count
reads_run before now OutOfMemory count = count
reads_run before now (TooLong line) count = count

pub writes_run : (before now : ℕ) (outcome : LineOutcome) → run.HasWriteCount before now outcome → trace.HasWriteCount before now (outcome_run outcome)
writes_run before now Done count = count
writes_run before now (Differ line) count = count
writes_run before now (Refused line kind) count = count
writes_run before now ReadFault count = count
writes_run before now WriteFault count = count
writes_run before now OutOfMemory count = count
writes_run before now (TooLong line) count = count
