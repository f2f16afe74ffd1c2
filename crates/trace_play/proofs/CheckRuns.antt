-- What a run over the lines of a trace, each compared with what is due, comes to.
use Rattle.std.proofs.Common.{◌≡◌, ℕ, ◌+◌, ◌<◌, Bool, true, false, cond, ltb, ltb-false, List, [], ◌∷◌, ◌++◌, length, drop, All, Option, Some, None, ◌⊎◌, inl, inr, ⊎_elim, refl, sym, ap, ◌∙◌, subst, arith}
use Rattle.std.specs.Prelude.{codes, bytes_eq, ◌||◌}
use Rattle.std.proofs.Math.Seq.{drop-append-add}
use Rattle.std.proofs.lemmas.Bool.{both_ways, lt-leb}
use Rattle.std.proofs.lemmas.List.{append_assoc, append-nil, append_cancel_left, length-append, length_push, map-append}
use Rattle.std.proofs.lemmas.List.Elements.{All-nil, All-cons, All-head, All-tail, All-append}
use Rattle.std.proofs.lemmas.Slice.Eq.{bytes_eq-Decides}
use Rattle.io_edge.specs.Lines.{HasNoLineFeed, whole_lines, unfinished_line, ended_lines, line_limit}
use Rattle.io_edge.specs.Pending.{front_line}
use Rattle.io_edge.specs.Told.{Takes, TakesProperPrefix}
use Rattle.io_edge.proofs.LineLemmas.{before_first-line, cut_of, whole_lines-append, ended_lines-append}
use Rattle.io_edge.proofs.ToldLemmas.{Gives-nothing, Takes-nothing}
use Rattle.net_base.specs.declared.refusal.RefusalKind.{RefusalKind}
use Rattle.net_base.specs.declared.refusal.RefusalKind.TheVariants.{NoEnd}
use Rattle.line_run.specs.Judgement.{Verdict, ended, differed, refused, too_long, most_lines, Judgement as LineJudgement, silently, is_too_long, judged_by, verdict_of_rest, judged_from as lines_from, judged as lines_judged, output_of as lines_output, verdict_of as lines_verdict}
use Rattle.line_run.specs.Meaning.{Meaning, goes_on, ends, differs, is_refused, is_too_many}
use Rattle.line_run.specs.Runs as run
use Rattle.line_run.specs.declared.outcome.LineOutcome.{LineOutcome}
use Rattle.line_run.specs.declared.outcome.LineOutcome.TheVariants.{Done, Differ, Refused, ReadFault, WriteFault, OutOfMemory, TooLong}
use Rattle.trace_text.specs.Lines.{is_action_line}
use Rattle.trace_text.specs.Stages.{first_stage}
use Rattle.trace_compare.specs.Compare.{IsAction, Comparison, agree, differ, refused_at, too_long_at, actions_in, comparison_for, comparison_of, report_lines, report_of, outcome_told}
use Rattle.trace_compare.proofs.Added.{IsAdded, Adds, adds, lines_counted}
use Rattle.trace_compare.proofs.Comparing.{first_of, compared_silent, compared_ended, line_differs, end_differs}
use Rattle.trace_meaning.specs.Judgement.{verdict_by, verdict_at, number_behind, judged_at, judged_from}
use Rattle.trace_meaning.specs.Output.{lines_for}
use Rattle.trace_meaning.specs.Passing.{texts_of}
use Rattle.trace_meaning.specs.Reading.{Reading, reading_at, stage_behind, stage_past, readings_from, heads_in, events_in}
use Rattle.trace_meaning.specs.Told.{outcome_run}
use Rattle.trace_meaning.proofs.Judging.{judgement_of}
use Rattle.trace_meaning.proofs.Readings.{Passes-from, AreFront-passed, stage_behind-push}
use Rattle.trace_play.specs.Checking.{Agreed, agreed, nothing_agreed, is_another, passing, ending, actions_before, compared, checked}
use Rattle.trace_play.specs.Checks.{AreCompared, AgreeSoFar, Checks}
use Rattle.trace_play.specs.Playback.{Kept, events_taken, StandsBehind, GoesOn}
use Rattle.trace_play.specs.Played.{played}
use Rattle.trace_play.proofs.CheckInputs.{silent_refused, silent_too_long}
use Rattle.trace_play.proofs.Playing.{StandsBehind-none, ComesTo, line_comes}

-- ---- how a comparison is judged

abbrev verdict_told : Comparison → Verdict
verdict_told (agree events actions) = ended
verdict_told (differ difference) = differed difference.line
verdict_told (refused_at line kind) = refused line kind
verdict_told (too_long_at line) = too_long line

abbrev told_of : Comparison → LineJudgement
told_of c = record { lines = report_lines c; verdict = verdict_told c }

-- nothing is written of it
abbrev IsSilent : Comparison → Type 0
IsSilent c = report_lines c ≡ []

-- nothing is written for the line that decides so
abbrev IsQuiet : Verdict → Type 0
IsQuiet ended = ⊥
IsQuiet (differed line) = ⊥
IsQuiet (refused line kind) = Unit {0}
IsQuiet (too_long line) = Unit {0}

quiet_rest : (number : ℕ) (rest : List ℕ) → IsQuiet (verdict_of_rest number rest)
quiet_rest number rest = by_length (is_too_long number rest)
  where
    by_length : (b : Bool) → IsQuiet (cond b (too_long number) (refused number NoEnd))
    by_length true = tt
    by_length false = tt

quiet_told : (c : Comparison) → IsQuiet (verdict_told c) → IsSilent c
quiet_told (agree events actions) quiet = absurd quiet
quiet_told (differ difference) quiet = absurd quiet
quiet_told (refused_at line kind) quiet = refl
quiet_told (too_long_at line) quiet = refl

refused_told : (c : Comparison) (line : ℕ) (kind : RefusalKind) → verdict_told c ≡ refused line kind → c ≡ refused_at line kind
refused_told (agree events actions) line kind e = absurd cc
refused_told (differ difference) line kind e = absurd cc
refused_told (refused_at n k) line kind e = cc
refused_told (too_long_at n) line kind e = absurd cc

too_long_told : (c : Comparison) (line : ℕ) → verdict_told c ≡ too_long line → c ≡ too_long_at line
too_long_told (agree events actions) line e = absurd cc
too_long_told (differ difference) line e = absurd cc
too_long_told (refused_at n k) line e = absurd cc
too_long_told (too_long_at n) line e = cc

-- of which nothing is written is known by its verdict
silent_same : (c other : Comparison) → IsSilent c → verdict_told other ≡ verdict_told c → other ≡ c
silent_same (agree events actions) other silent e = absurd cc
silent_same (differ difference) other silent e = absurd cc
silent_same (refused_at line kind) other silent e = refused_told other line kind e
silent_same (too_long_at line) other silent e = too_long_told other line e

-- ---- lines that agree

-- Each line that was read is the line of the output at its place. What the output has besides is due: actions of the last event.
record AgreesSoFar (before : Agreed) (readings : List Reading) : Type 0 where
  stands : StandsBehind before.playback readings
  count : before.lines ≡ length readings
  due : List (List ℕ)
  output : lines_for readings ≡ texts_of readings ++ due
  actions : All IsAction due
  due_is : before.due ≡ ended_lines due

agrees_none : AgreesSoFar nothing_agreed []
unfolding stage_behind
agrees_none = record { stands = StandsBehind-none; count = refl; due = []; output = refl; actions = All-nil IsAction; due_is = refl }

-- the comparison of lines that agree, with those behind them
abbrev comparison_from : List Reading → List (List ℕ) → List ℕ → Comparison
comparison_from readings texts rest = comparison_for (judged_from readings (readings_from (stage_behind readings first_stage) texts) rest)

-- the next line decides
decides_first : (readings : List Reading) (text : List ℕ) (texts : List (List ℕ)) (rest : List ℕ) (verdict : Verdict) → verdict_at readings (reading_at (stage_behind readings first_stage) text) ≡ Some verdict →
    comparison_from readings (text ∷ texts) rest ≡ comparison_for (judgement_of readings verdict)
unfolding judged_from readings_from
decides_first readings text texts rest verdict is =
    let stage = stage_behind readings first_stage in
    let reading = reading_at stage text in
    ap (λ (v : Option Verdict). comparison_for (judged_at v readings (judged_from (readings ++ reading ∷ []) (readings_from (stage_past stage reading.says) texts) rest))) is

-- or it passes
passes_first : (readings : List Reading) (text : List ℕ) (texts : List (List ℕ)) (rest : List ℕ) → verdict_at readings (reading_at (stage_behind readings first_stage) text) ≡ None →
    comparison_from readings (text ∷ texts) rest ≡ comparison_from (readings ++ reading_at (stage_behind readings first_stage) text ∷ []) texts rest
unfolding judged_from readings_from
passes_first readings text texts rest is =
    let stage = stage_behind readings first_stage in
    let reading = reading_at stage text in
    ap (λ (v : Option Verdict). comparison_for (judged_at v readings (judged_from (readings ++ reading ∷ []) (readings_from (stage_past stage reading.says) texts) rest))) is
    ∙ ap (λ s. comparison_for (judged_from (readings ++ reading ∷ []) (readings_from s texts) rest)) (sym (stage_behind-push readings reading first_stage))

-- ---- what is due, in bytes

front_of : (line rest : List ℕ) → HasNoLineFeed line → front_line (line ++ 10 ∷ rest) ≡ Some line
front_of [] rest one = ap (λ (l : List ℕ). Some l) (before_first-line [] rest one)
front_of (byte ∷ line) rest one = ap (λ (l : List ℕ). Some l) (before_first-line (byte ∷ line) rest one)

ended_cons : (line : List ℕ) (lines : List (List ℕ)) → ended_lines (line ∷ lines) ≡ line ++ 10 ∷ ended_lines lines
ended_cons line lines = append_assoc line (10 ∷ []) (ended_lines lines)

front_due : (lines : List (List ℕ)) → All HasNoLineFeed lines → front_line (ended_lines lines) ≡ first_of lines
front_due [] one = refl
front_due (line ∷ lines) one = ap front_line (ended_cons line lines) ∙ front_of line (ended_lines lines) (All-head HasNoLineFeed line lines one)

actions_one_line : (lines : List (List ℕ)) → All IsAction lines → All HasNoLineFeed lines
actions_one_line [] all = All-nil HasNoLineFeed
actions_one_line (line ∷ lines) all =
    All-cons HasNoLineFeed line lines (All-head IsAction line lines all).one_line (actions_one_line lines (All-tail IsAction line lines all))

added_one_line : (text : List ℕ) (lines : List (List ℕ)) → HasNoLineFeed text → IsAdded text lines → All HasNoLineFeed lines
added_one_line text lines one (inl none) = rw none.0 (All-nil HasNoLineFeed)
added_one_line text lines one (inr some) = rw some.1 (All-cons HasNoLineFeed text some.0 one (actions_one_line some.0 some.2))

-- the first line that is due, where actions are
due_first : (due : List (List ℕ)) (pending : List ℕ) → All IsAction due → pending ≡ ended_lines due → first_of due ≡ front_line pending
due_first due pending actions is = sym (ap front_line is ∙ front_due due (actions_one_line due actions))

-- a line has passed, and what is due then
record IsPlayedOn (readings : List Reading) (text : List ℕ) (due : List (List ℕ)) (pending : List ℕ) : Type 0 where
  added : Adds readings (reading_at (stage_behind readings first_stage) text)
  pending_is : pending ≡ ended_lines (due ++ added.lines)
  first : front_line pending ≡ first_of (due ++ added.lines)

played_on : (before : Agreed) (readings : List Reading) (text : List ℕ) (said : List (List ℕ)) (next : Kept) → (so : AgreesSoFar before readings) → HasNoLineFeed text →
    GoesOn readings (reading_at (stage_behind readings first_stage) text) next said → IsPlayedOn readings text so.due (before.due ++ ended_lines said)
played_on before readings text said next so one goes =
    let reading = reading_at (stage_behind readings first_stage) text in
    let added = adds readings text (AreFront-passed readings so.stands.passed) (Passes-from readings reading goes.passes) in
    let said_is : said ≡ added.lines = append_cancel_left (lines_for readings) said added.lines (sym goes.lines ∙ added.output) in
    let all : before.due ++ ended_lines said ≡ ended_lines (so.due ++ added.lines) =
    ap (λ (xs : List ℕ). xs ++ ended_lines said) so.due_is ∙ ap (λ (ls : List (List ℕ)). ended_lines so.due ++ ended_lines ls) said_is
    ∙ sym (ended_lines-append so.due added.lines) in
    record {
      added = added;
      pending_is = all;
      first = ap front_line all
          ∙ front_due (so.due ++ added.lines)
          (All-append HasNoLineFeed so.due added.lines (actions_one_line so.due so.actions) (added_one_line text added.lines one added.kind));
    }

-- ---- a line that is the first one due

-- what is due behind it
record IsDueBehind (due lines : List (List ℕ)) (text : List ℕ) : Type 0 where
  rest : List (List ℕ)
  split : due ++ lines ≡ text ∷ rest
  actions : All IsAction rest

due_behind : (due lines : List (List ℕ)) (text : List ℕ) → All IsAction due → IsAdded text lines → first_of (due ++ lines) ≡ Some text → IsDueBehind due lines text
due_behind [] lines text actions (inl none) first =
    let none_first : None ≡ Some text = ap first_of (sym none.0) ∙ first in absurd cc
due_behind [] lines text actions (inr some) first = record { rest = some.0; split = some.1; actions = some.2 }
due_behind (next ∷ due) lines text actions (inl none) first =
    let same : next ≡ text = cc in
    record {
      rest = due;
      split = ap (λ (ls : List (List ℕ)). next ∷ (due ++ ls)) none.0 ∙ ap (λ (ls : List (List ℕ)). next ∷ ls) (append-nil due) ∙ ap (λ (l : List ℕ). l ∷ due) same;
      actions = All-tail IsAction next due actions;
    }
due_behind (next ∷ due) lines text actions (inr some) first =
    let same : next ≡ text = cc in
    absurd (both_ways (is_action_line text) some.3 (ap is_action_line (sym same) ∙ (All-head IsAction next due actions).begins))

agrees_on : (before : Agreed) (readings : List Reading) (text : List ℕ) (said : List (List ℕ)) (next : Kept) → AgreesSoFar before readings → HasNoLineFeed text →
    GoesOn readings (reading_at (stage_behind readings first_stage) text) next said → front_line (before.due ++ ended_lines said) ≡ Some text →
    AgreesSoFar (agreed next (before.lines + 1) (drop (length text + 1) (before.due ++ ended_lines said))) (readings ++ reading_at (stage_behind readings first_stage) text ∷ [])
agrees_on before readings text said next so one goes first =
    let reading = reading_at (stage_behind readings first_stage) text in
    let on = played_on before readings text said next so one goes in
    let behind = due_behind so.due on.added.lines text so.actions on.added.kind (sym on.first ∙ first) in
    let texts : texts_of (readings ++ reading ∷ []) ≡ texts_of readings ++ text ∷ [] = map-append (λ (r : Reading). r.text) readings (reading ∷ []) in
    let pending : before.due ++ ended_lines said ≡ text ++ 10 ∷ ended_lines behind.rest = on.pending_is ∙ ap ended_lines behind.split ∙ ended_cons text behind.rest in
    record {
      stands = goes.stands;
      count = omega (arith, so.count, length_push readings reading);
      due = behind.rest;
      output = on.added.output ∙ ap (λ (ls : List (List ℕ)). ls ++ on.added.lines) so.output ∙ append_assoc (texts_of readings) so.due on.added.lines
          ∙ ap (λ (ls : List (List ℕ)). texts_of readings ++ ls) behind.split ∙ sym (append_assoc (texts_of readings) (text ∷ []) behind.rest)
          ∙ ap (λ (ls : List (List ℕ)). ls ++ behind.rest) (sym texts);
      actions = behind.actions;
      due_is = ap (drop (length text + 1)) pending ∙ drop-append-add text (10 ∷ ended_lines behind.rest) 1;
    }

-- ---- what the lines behind come to

-- They are judged as they compare; and where something is written of that, it is the same whatever stands behind them.
record Walks (readings : List Reading) (texts : List (List ℕ)) (rest : List ℕ) (j : LineJudgement) : Type 0 where
  told : j ≡ told_of (comparison_from readings texts rest)
  settled : ((later : List (List ℕ)) (last : List ℕ) → comparison_from readings (texts ++ later) last ≡ comparison_from readings texts rest)
      ⊎ IsSilent (comparison_from readings texts rest)

-- nothing is written for what decides
walks_silently : (readings : List Reading) (texts : List (List ℕ)) (rest : List ℕ) (due : List (List ℕ)) (verdict : Verdict) → lines_for readings ≡ texts_of readings ++ due →
    comparison_from readings texts rest ≡ comparison_for (judgement_of readings verdict) → IsQuiet verdict → Walks readings texts rest (silently verdict)
walks_silently readings texts rest due ended output is quiet = absurd quiet
walks_silently readings texts rest due (differed line) output is quiet = absurd quiet
walks_silently readings texts rest due (refused line kind) output is quiet =
    let same : comparison_from readings texts rest ≡ refused_at line kind = is ∙ compared_silent readings due (refused line kind) output refl in
    record { told = ap told_of (sym same); settled = inr (ap report_lines same) }
walks_silently readings texts rest due (too_long line) output is quiet =
    let same : comparison_from readings texts rest ≡ too_long_at line = is ∙ compared_silent readings due (too_long line) output refl in
    record { told = ap told_of (sym same); settled = inr (ap report_lines same) }

-- the next line comes to the same whatever stands behind it
walks_always : (readings : List Reading) (text : List ℕ) (texts : List (List ℕ)) (rest : List ℕ) (c : Comparison) (j : LineJudgement) → j ≡ told_of c →
    ((later : List (List ℕ)) (last : List ℕ) → comparison_from readings (text ∷ later) last ≡ c) → Walks readings (text ∷ texts) rest j
walks_always readings text texts rest c j is always = record {
  told = is ∙ ap told_of (sym (always texts rest));
  settled = inl (λ later last. always (texts ++ later) last ∙ sym (always texts rest));
}

-- the next line passes
walks_on : (readings : List Reading) (text : List ℕ) (texts : List (List ℕ)) (rest : List ℕ) (j : LineJudgement) → verdict_at readings (reading_at (stage_behind readings first_stage) text) ≡ None →
    Walks (readings ++ reading_at (stage_behind readings first_stage) text ∷ []) texts rest j → Walks readings (text ∷ texts) rest j
walks_on readings text texts rest j passes on =
    let first = passes_first readings text texts rest passes in
    record {
      told = on.told ∙ ap told_of (sym first);
      settled = ⊎_elim (λ always. inl (λ later last. passes_first readings text (texts ++ later) last passes ∙ always later last ∙ sym first)) (λ silent. inr (ap report_lines first ∙ silent)) on.settled;
    }

-- how a line that is another one than is due is judged
another_judged : (lines count : ℕ) (text : List ℕ) (first want : Option (List ℕ)) (later : Agreed → LineJudgement) → lines ≡ count → first ≡ want →
    judged_by (count + 1) (is_another lines text first) later ≡ told_of (differ (record { line = 1 + count; found = text; want = want }))
another_judged lines count text first want later lines_are first_is =
    let number : count + 1 ≡ 1 + count = omega arith in
    rw (lines_are, first_is, number) refl

-- one line more, which is short enough
module _ (readings : List Reading) (before : Agreed) (text : List ℕ) (texts : List (List ℕ)) (rest : List ℕ) (so : AgreesSoFar before readings) (one : HasNoLineFeed text)
    (later : Agreed → LineJudgement)
    (on : (next : Agreed) → AgreesSoFar next (readings ++ reading_at (stage_behind readings first_stage) text ∷ []) →
    Walks (readings ++ reading_at (stage_behind readings first_stage) text ∷ []) texts rest (later next)) where
  abbrev reading : Reading
  reading = reading_at (stage_behind readings first_stage) text

  -- it passes, and is another one than is due
  walks_apart : (next : Kept) (said : List (List ℕ)) (first : Option (List ℕ)) → GoesOn readings reading next said → front_line (before.due ++ ended_lines said) ≡ first → ¬ (first ≡ Some text) →
      Walks readings (text ∷ texts) rest (judged_by (number_behind readings) (is_another before.lines text first) later)
  walks_apart next said first goes front another =
      let played = played_on before readings text said next so one goes in
      let want = first_of (so.due ++ played.added.lines) in
      let first_is : first ≡ want = sym front ∙ played.first in
      walks_always readings text texts rest (differ (record { line = 1 + length readings; found = text; want = want })) _
      (another_judged before.lines (length readings) text first want later so.count first_is)
      (λ more last. passes_first readings text more last goes.passes
      ∙ line_differs readings text more last so.due so.output so.actions played.added (λ same. another (first_is ∙ same)) goes.stands.passed)

  walks_passing : (next : Kept) (said : List (List ℕ)) (first : Option (List ℕ)) → GoesOn readings reading next said → front_line (before.due ++ ended_lines said) ≡ first →
      Walks readings (text ∷ texts) rest (judged_by (number_behind readings) (passing before.lines next text (before.due ++ ended_lines said) first) later)
  walks_passing next said None goes front = walks_apart next said None goes front (λ same. cc)
  walks_passing next said (Some line) goes front = by_test (bytes_eq line text) refl
    where
      by_test : (b : Bool) → bytes_eq line text ≡ b →
          Walks readings (text ∷ texts) rest (judged_by (number_behind readings)
          (cond b (goes_on (agreed next (before.lines + 1) (drop (length text + 1) (before.due ++ ended_lines said))) []) (is_another before.lines text (Some line))) later)
      by_test true same =
          let is : line ≡ text = (bytes_eq-Decides line text).0 same in
          walks_on readings text texts rest _ goes.passes (on _ (agrees_on before readings text said next so one goes (front ∙ ap (λ (l : List ℕ). Some l) is)))
      by_test false other =
          walks_apart next said (Some line) goes front
          (λ same. let is : line ≡ text = cc in both_ways (bytes_eq line text) other ((bytes_eq-Decides line text).1 is))

  -- it is `end`
  walks_ending : (first : Option (List ℕ)) → front_line before.due ≡ first → verdict_at readings reading ≡ Some ended →
      Walks readings (text ∷ texts) rest (judged_by (number_behind readings) (ending before.lines (events_taken before.playback.engine) (actions_before before) first) later)
  walks_ending None front at_end = by_due so.due refl
    where
      events : events_taken before.playback.engine ≡ length (events_in readings)
      events = so.stands.events

      actions : actions_before before ≡ actions_in readings
      actions =
          let heads : length before.playback.heads ≡ length (heads_in readings) = ap length so.stands.heads in
          omega (arith, heads, events, so.count, lines_counted readings so.stands.passed)

      by_due : (due : List (List ℕ)) → so.due ≡ due →
          Walks readings (text ∷ texts) rest (judged_by (number_behind readings) (ending before.lines (events_taken before.playback.engine) (actions_before before) None) later)
      by_due [] nothing =
          let same : lines_for readings ≡ texts_of readings = so.output ∙ ap (λ (ls : List (List ℕ)). texts_of readings ++ ls) nothing ∙ append-nil (texts_of readings) in
          walks_always readings text texts rest (agree (length (events_in readings)) (actions_in readings)) _
          (ap (λ (n : ℕ). told_of (agree n (actions_before before))) events ∙ ap (λ (n : ℕ). told_of (agree (length (events_in readings)) n)) actions)
          (λ more last. decides_first readings text more last ended at_end ∙ compared_ended readings same)
      by_due (line ∷ due) some = let found : Some line ≡ None = ap first_of (sym some) ∙ due_first so.due before.due so.actions so.due_is ∙ front in absurd cc
  walks_ending (Some line) front at_end = by_due so.due refl
    where
      by_due : (due : List (List ℕ)) → so.due ≡ due →
          Walks readings (text ∷ texts) rest (judged_by (number_behind readings) (ending before.lines (events_taken before.playback.engine) (actions_before before) (Some line)) later)
      by_due [] nothing = let none : None ≡ Some line = ap first_of (sym nothing) ∙ due_first so.due before.due so.actions so.due_is ∙ front in absurd cc
      by_due (next ∷ due) some =
          let found : Some next ≡ Some line = ap first_of (sym some) ∙ due_first so.due before.due so.actions so.due_is ∙ front in
          walks_always readings text texts rest (differ (record { line = 1 + length readings; found = codes "end"; want = Some next })) _
          (another_judged before.lines (length readings) (codes "end") (Some line) (Some next) later so.count (sym found))
          (λ more last. decides_first readings text more last ended at_end
          ∙ end_differs readings next due (so.output ∙ ap (λ (ls : List (List ℕ)). texts_of readings ++ ls) some) (All-head IsAction next due (subst (All IsAction) some so.actions)))

  walks_meant : (m : Meaning Kept) → ComesTo [] readings reading m → Walks readings (text ∷ texts) rest (judged_by (number_behind readings) (compared before text m) later)
  walks_meant (goes_on next said) goes = walks_passing next said (front_line (before.due ++ ended_lines said)) goes refl
  walks_meant (ends said) is = walks_ending (front_line before.due) refl is.0
  walks_meant (differs said) is = absurd is
  walks_meant (is_refused kind) is =
      walks_silently readings (text ∷ texts) rest so.due (refused (number_behind readings) kind) so.output (decides_first readings text texts rest _ is) tt
  walks_meant is_too_many is =
      walks_silently readings (text ∷ texts) rest so.due (too_long (number_behind readings)) so.output (decides_first readings text texts rest _ is) tt

  walks_line : is_too_long (number_behind readings) text ≡ false → Walks readings (text ∷ texts) rest (judged_by (number_behind readings) (checked before text) later)
  walks_line short =
      let few : before.lines < most_lines = omega (arith, so.count, ltb-false most_lines (number_behind readings) (by_number (ltb most_lines (number_behind readings)) short)) in
      rw (lt-leb most_lines before.lines few) (walks_meant (played [] before.playback text) (line_comes [] before.playback readings text so.stands short))
    where
      by_number : (b : Bool) → (b || ltb line_limit (length text)) ≡ false → b ≡ false
      by_number true e = absurd cc
      by_number false e = refl

walks : (readings : List Reading) (before : Agreed) (texts : List (List ℕ)) (rest : List ℕ) → AgreesSoFar before readings → All HasNoLineFeed texts →
    Walks readings texts rest (lines_from checked (number_behind readings) before texts rest)
unfolding lines_from judged_from readings_from
walks readings before [] rest so whole = walks_silently readings [] rest so.due (verdict_of_rest (number_behind readings) rest) so.output refl (quiet_rest (number_behind readings) rest)
walks readings before (text ∷ texts) rest so whole =
    by_length (λ next goes. walks (readings ++ reading_at (stage_behind readings first_stage) text ∷ []) next texts rest goes (All-tail HasNoLineFeed text texts whole))
    (is_too_long (number_behind readings) text) refl
  where
    reading : Reading
    reading = reading_at (stage_behind readings first_stage) text

    later : Agreed → LineJudgement
    later next = lines_from checked (number_behind readings + 1) next texts rest

    Later : Type 0
    Later = (next : Agreed) → AgreesSoFar next (readings ++ reading ∷ []) →
        Walks (readings ++ reading ∷ []) texts rest (lines_from checked (number_behind (readings ++ reading ∷ [])) next texts rest)

    by_length : Later → (b : Bool) → is_too_long (number_behind readings) text ≡ b →
        Walks readings (text ∷ texts) rest (cond (is_too_long (number_behind readings) text) (silently (too_long (number_behind readings))) (judged_by (number_behind readings) (checked before text) later))
    by_length on true long =
        let decides : verdict_at readings reading ≡ Some (too_long (number_behind readings)) =
        ap (λ (b : Bool). cond b (Some (too_long (number_behind readings))) (verdict_by (number_behind readings) (length (events_in readings)) reading.says)) long in
        rw long (walks_silently readings (text ∷ texts) rest so.due (too_long (number_behind readings)) so.output (decides_first readings text texts rest _ decides) tt)
    by_length on false short =
        subst (λ (b : Bool). Walks readings (text ∷ texts) rest (cond b (silently (too_long (number_behind readings))) (judged_by (number_behind readings) (checked before text) later))) (sym short)
        (walks_line readings before text texts rest so (All-head HasNoLineFeed text texts whole) later
        (λ next goes. subst (λ (n : ℕ). Walks (readings ++ reading ∷ []) texts rest (lines_from checked (n + 1) next texts rest)) (length_push readings reading) (on next goes)) short)

-- ---- the whole

walks_whole : (bytes : List ℕ) → Walks [] (whole_lines bytes) (unfinished_line bytes) (lines_judged checked nothing_agreed bytes)
walks_whole bytes = walks [] nothing_agreed (whole_lines bytes) (unfinished_line bytes) agrees_none (cut_of bytes).each_one_line

comparison_whole : (bytes : List ℕ) → comparison_from [] (whole_lines bytes) (unfinished_line bytes) ≡ comparison_of bytes
unfolding stage_behind
comparison_whole bytes = refl

judged_checked : (bytes : List ℕ) → lines_judged checked nothing_agreed bytes ≡ told_of (comparison_of bytes)
judged_checked bytes = (walks_whole bytes).told ∙ ap told_of (comparison_whole bytes)

output_checked : (bytes : List ℕ) → lines_output checked nothing_agreed bytes ≡ report_of bytes
output_checked bytes = ap (λ (j : LineJudgement). ended_lines j.lines) (judged_checked bytes)

verdict_checked : (bytes : List ℕ) → lines_verdict checked nothing_agreed bytes ≡ verdict_told (comparison_of bytes)
verdict_checked bytes = ap (λ (j : LineJudgement). j.verdict) (judged_checked bytes)

-- where something is written, it stays so whatever follows
always_settled : (seen more : List ℕ) →
    ((later : List (List ℕ)) (last : List ℕ) → comparison_from [] (whole_lines seen ++ later) last ≡ comparison_from [] (whole_lines seen) (unfinished_line seen)) →
    comparison_of (seen ++ more) ≡ comparison_of seen
always_settled seen more always =
    sym (comparison_whole (seen ++ more)) ∙ ap (λ (ls : List (List ℕ)). comparison_from [] ls (unfinished_line (seen ++ more))) (whole_lines-append seen more)
    ∙ always (whole_lines (unfinished_line seen ++ more)) (unfinished_line (seen ++ more)) ∙ comparison_whole seen

settled : (seen more : List ℕ) → lines_judged checked nothing_agreed (seen ++ more) ≡ lines_judged checked nothing_agreed seen → comparison_of (seen ++ more) ≡ comparison_of seen
settled seen more same =
    ⊎_elim (always_settled seen more)
    (λ silent. silent_same (comparison_of seen) (comparison_of (seen ++ more)) (ap report_lines (sym (comparison_whole seen)) ∙ silent)
    (sym (verdict_checked (seen ++ more)) ∙ ap (λ (j : LineJudgement). j.verdict) same ∙ verdict_checked seen))
    (walks_whole seen).settled

-- ---- what a run has come to

told_run : (c : Comparison) → outcome_run (run.outcome_of (verdict_told c)) ≡ outcome_told c
told_run (agree events actions) = refl
told_run (differ difference) = refl
told_run (refused_at line kind) = refl
told_run (too_long_at line) = refl

compared_run : (seen : List ℕ) (left : Option (List ℕ)) (outcome : LineOutcome) → run.AreDecisive checked nothing_agreed seen left outcome → AreCompared seen left (outcome_run outcome)
compared_run seen left outcome decisive = record {
  told = ap outcome_run decisive.told ∙ ap (λ (v : Verdict). outcome_run (run.outcome_of v)) (verdict_checked seen) ∙ told_run (comparison_of seen);
  settled = λ more is. settled seen more (decisive.settled more is);
}

takes_report : (before after : Option (List ℕ)) (seen : List ℕ) → Takes before after (lines_output checked nothing_agreed seen) → Takes before after (report_of seen)
takes_report before after seen takes = subst (λ (bytes : List ℕ). Takes before after bytes) (output_checked seen) takes

untouched : (before after : Option (List ℕ)) (lines : List (List ℕ)) → lines ≡ [] → Takes before after (ended_lines lines) → after ≡ before
untouched before after lines none takes =
    let nothing : Takes before after [] = subst (λ (ls : List (List ℕ)). Takes before after (ended_lines ls)) none takes in nothing ∙ sym (Takes-nothing before)

-- no front of nothing is a proper one
reported : (before after : Option (List ℕ)) (seen : List ℕ) → TakesProperPrefix before after (report_of seen) → IsSilent (comparison_of seen) → ⊥
reported before after seen part silent =
    let none : [] ≡ part.front ++ part.rest = ap ended_lines (sym silent) ∙ part.split in
    let count : 0 ≡ length part.front + length part.rest = ap length none ∙ length-append part.front part.rest in
    omega (arith, count, part.proper)

-- lines that go on give nothing
no_lines : (seen : List ℕ) (before after : Option (List ℕ)) → (takes : run.TakesLines checked nothing_agreed seen before after) → takes.lines ≡ []
unfolding lines_from
no_lines seen before after takes =
    let texts = takes.texts ++ [] in
    let walked = walks [] nothing_agreed texts [] agrees_none (subst (All HasNoLineFeed) (sym (append-nil takes.texts)) takes.whole) in
    let c = comparison_from [] texts [] in
    let same : told_of c ≡ record { lines = takes.lines ++ []; verdict = verdict_of_rest (length takes.texts + 1) [] } = sym walked.told ∙ takes.lead [] [] in
    let quiet : IsQuiet (verdict_told c) = subst IsQuiet (sym (ap (λ (j : LineJudgement). j.verdict) same)) (quiet_rest (length takes.texts + 1) []) in
    sym (append-nil takes.lines) ∙ sym (ap (λ (j : LineJudgement). j.lines) same) ∙ quiet_told c quiet

pub checks_run : (l0 l1 t0 t1 : Option (List ℕ)) (outcome : LineOutcome) → run.Runs checked nothing_agreed l0 l1 t0 t1 outcome → Checks l0 l1 t0 t1 (outcome_run outcome)
checks_run l0 l1 t0 t1 Done r = record {
  seen = r.seen;
  gives = r.gives;
  is_checked = (compared_run r.seen l1 Done r.is_outcome.0, takes_report t0 t1 r.seen r.is_outcome.1);
}
checks_run l0 l1 t0 t1 (Differ line) r = record {
  seen = r.seen;
  gives = r.gives;
  is_checked = (compared_run r.seen l1 (Differ line) r.is_outcome.0, takes_report t0 t1 r.seen r.is_outcome.1);
}
checks_run l0 l1 t0 t1 (Refused line kind) r =
    let so = compared_run r.seen l1 (Refused line kind) r.is_outcome.0 in
    record {
      seen = r.seen;
      gives = r.gives;
      is_checked = (so, untouched t0 t1 _ (silent_refused (comparison_of r.seen) line kind so.told) (takes_report t0 t1 r.seen r.is_outcome.1));
    }
checks_run l0 l1 t0 t1 (TooLong line) r =
    let so = compared_run r.seen l1 (TooLong line) r.is_outcome.0 in
    record {
      seen = r.seen;
      gives = r.gives;
      is_checked = (so, untouched t0 t1 _ (silent_too_long (comparison_of r.seen) line so.told) (takes_report t0 t1 r.seen r.is_outcome.1));
    }
checks_run l0 l1 t0 t1 ReadFault r =
    let so : AgreeSoFar r.seen = refused_told (comparison_of r.seen) (length (whole_lines r.seen) + 1) NoEnd (sym (verdict_checked r.seen) ∙ r.is_outcome.0) in
    record {
      seen = r.seen;
      gives = r.gives;
      is_checked = (so, untouched t0 t1 _ (ap report_lines so) (takes_report t0 t1 r.seen r.is_outcome.1));
    }
checks_run l0 l1 t0 t1 WriteFault r =
    let part : TakesProperPrefix t0 t1 (report_of r.seen) = subst (λ (bytes : List ℕ). TakesProperPrefix t0 t1 bytes) (output_checked r.seen) r.is_outcome in
    record {
      seen = r.seen;
      gives = r.gives;
      is_checked = (
        λ more is. ⊎_elim (always_settled r.seen more) (λ silent. absurd (reported t0 t1 r.seen part (ap report_lines (sym (comparison_whole r.seen)) ∙ silent))) (walks_whole r.seen).settled,
        part,
      );
    }
checks_run l0 l1 t0 t1 OutOfMemory r = record {
  seen = r.seen;
  gives = r.gives;
  is_checked = untouched t0 t1 _ (no_lines r.seen t0 t1 r.is_outcome) r.is_outcome.taken;
}

-- memory is wanting before anything was read
pub no_memory_checked : (left taken : Option (List ℕ)) → Checks left left taken taken (outcome_run OutOfMemory)
no_memory_checked left taken = record { seen = []; gives = Gives-nothing left; is_checked = refl }
