-- An output that is read as an input: proofs.
use Rattle.std.proofs.Common.{◌≡◌, ℕ, ◌<◌, Bool, true, false, cond, leb, List, [], ◌∷◌, ◌++◌, length, get_or, map, All, Option, Some, None, Result, Ok, Err, refl, sym, ap, ◌∙◌, subst, arith}
use Rattle.std.specs.Prelude.{codes, Contains}
use Rattle.std.specs.List.{cons_option, filter_map}
use Rattle.std.proofs.lemmas.Bool.{eqb-true}
use Rattle.std.proofs.lemmas.List.{append_assoc, append-nil, length-append, length-map, map-append, get_or_at, get_or_append_left}
use Rattle.std.proofs.lemmas.List.Elements.{filter_map-append, All-nil, All-head, All-tail, All-push, All-from_recursion, Contains-get_or}
use Rattle.io_edge.specs.Lines.{is_line_feed, StandsInLine, HasNoLineFeed, whole_lines, unfinished_line, ended_lines}
use Rattle.io_edge.proofs.LineLemmas.{cut_of, whole_lines_are, ended_lines_push}
use Rattle.machine.specs.Run.{actions_of}
use Rattle.net_base.specs.declared.action.Action.{Action}
use Rattle.net_base.specs.declared.event.Event.{Event}
use Rattle.net_base.specs.declared.refusal.RefusalKind.TheVariants.{NoEnd}
use Rattle.trace_text.specs.Actions.{printed_action}
use Rattle.trace_text.specs.Stages.{first_stage}
use Rattle.trace_text.specs.declared.line.Line.{Line}
use Rattle.trace_text.specs.declared.line.Line.TheVariants.{Head, Happen, Acted, End}
use Rattle.trace_text.specs.declared.line.LineRefusal.{LineRefusal}
use Rattle.trace_text.specs.declared.stage.Stage.{Stage}
use Rattle.trace_text.proofs.ActionLaws.{no_feed}
use Rattle.trace_compare.specs.Again.{IsShortLine, AreFewShortLines, FitsTrace, IsItsOwnOutput, TakesItsOwnOutput}
use Rattle.trace_meaning.specs.Inputs.{IsOutputOfSome}
use Rattle.trace_meaning.specs.Reading.{Reading, said_at, stage_past, reading_at, stage_behind, readings_from, readings_of, head_in, event_in, heads_in, events_in}
use Rattle.line_run.specs.Judgement.{Verdict, ended, refused, too_long, most_lines, is_too_long, verdict_of_rest}
use Rattle.trace_meaning.specs.Judgement.{most_events, verdict_by, verdict_at, number_behind, Judgement, judged_at, judged_from, judged}
use Rattle.trace_meaning.specs.Output.{text_if, head_texts, event_texts, lines_for, last_lines, output_for, output_of}
use Rattle.trace_meaning.specs.Passing.{texts_of, PassBehind}
use Rattle.trace_meaning.specs.Replays.{verdict_of}
use Rattle.trace_meaning.proofs.Grammar.{IsBehindHead, IsLineAt, said_at-is}
use Rattle.trace_meaning.proofs.Readings.{stage_behind-push, readings_from-append, texts-readings_from, Passes, AreFront, AreFront-none, AreFront-said, AreFront-more, IsPastHead-event, no_events_before_head, line_at, passed_behind}
use Rattle.trace_meaning.proofs.Outputs.{lines_for-head, lines_for-acted, lines_for-event, told_behind}
use Rattle.trace_meaning.proofs.Judging.{judgement_of, judged_line, verdict_at-short, PassBehind-push}
use Rattle.trace_meaning.proofs.Prefixes.{judged_from-continues, ArePassed-lines}

-- ---- of each in a list

All-left : {X : Type 0} (P : X → Type 0) (xs ys : List X) → All P (xs ++ ys) → All P xs
All-left P xs ys all k d within = rw (← get_or_append_left xs ys d k within) (all k d (omega (arith, length-append xs ys)))

All-last : {X : Type 0} (P : X → Type 0) (xs : List X) (x : X) → All P (xs ++ x ∷ []) → P x
All-last P xs x all = subst P (get_or_at xs x [] x (length xs) refl) (all (length xs) x (omega (arith, length-append xs (x ∷ []))))

-- ---- lines that say the same

-- they leave the same stage, and the same heads and events are read in the same lines
pub record SaySame (xs ys : List Reading) : Type 0 where
  pub stage : stage_behind xs first_stage ≡ stage_behind ys first_stage
  pub heads : heads_in xs ≡ heads_in ys
  pub head_lines : head_texts xs ≡ head_texts ys
  pub events : events_in xs ≡ events_in ys
  pub event_lines : event_texts xs ≡ event_texts ys

SaySame-itself : (xs : List Reading) → SaySame xs xs
SaySame-itself xs = record { stage = refl; heads = refl; head_lines = refl; events = refl; event_lines = refl }

SaySame-turned : (xs ys : List Reading) → SaySame xs ys → SaySame ys xs
SaySame-turned xs ys a = record {
  stage = sym a.stage;
  heads = sym a.heads;
  head_lines = sym a.head_lines;
  events = sym a.events;
  event_lines = sym a.event_lines;
}

SaySame-on : (xs ys zs : List Reading) → SaySame xs ys → SaySame ys zs → SaySame xs zs
SaySame-on xs ys zs a b = record {
  stage = a.stage ∙ b.stage;
  heads = a.heads ∙ b.heads;
  head_lines = a.head_lines ∙ b.head_lines;
  events = a.events ∙ b.events;
  event_lines = a.event_lines ∙ b.event_lines;
}

found_same : {B : Type 0} (find : Reading → Option B) (xs ys : List Reading) (reading : Reading) → filter_map find xs ≡ filter_map find ys →
    filter_map find (xs ++ reading ∷ []) ≡ filter_map find (ys ++ reading ∷ [])
found_same {B} find xs ys reading same =
    filter_map-append find xs (reading ∷ []) ∙ ap (λ (found : List B). found ++ filter_map find (reading ∷ [])) same
    ∙ sym (filter_map-append find ys (reading ∷ []))

found_no_more : {B : Type 0} (find : Reading → Option B) (xs : List Reading) (reading : Reading) → find reading ≡ None →
    filter_map find (xs ++ reading ∷ []) ≡ filter_map find xs
found_no_more {B} find xs reading none =
    filter_map-append find xs (reading ∷ []) ∙ ap (λ (found : Option B). filter_map find xs ++ cons_option found []) none
    ∙ append-nil (filter_map find xs)

-- the same line behind both
SaySame-push : (xs ys : List Reading) (reading : Reading) → SaySame xs ys → SaySame (xs ++ reading ∷ []) (ys ++ reading ∷ [])
SaySame-push xs ys reading a = record {
  stage = stage_behind-push xs reading first_stage ∙ ap (λ (stage : Stage). stage_past stage reading.says) a.stage ∙ sym (stage_behind-push ys reading first_stage);
  heads = found_same (λ (r : Reading). head_in r.says) xs ys reading a.heads;
  head_lines = found_same (λ (r : Reading). text_if (head_in r.says) r.text) xs ys reading a.head_lines;
  events = found_same (λ (r : Reading). event_in r.says) xs ys reading a.events;
  event_lines = found_same (λ (r : Reading). text_if (event_in r.says) r.text) xs ys reading a.event_lines;
}

-- an action line says nothing
SaySame-acted : (xs : List Reading) (text : List ℕ) → SaySame (xs ++ record { text = text; says = Ok Acted } ∷ []) xs
SaySame-acted xs text =
    let reading : Reading = record { text = text; says = Ok Acted } in
    record {
      stage = stage_behind-push xs reading first_stage;
      heads = found_no_more (λ (r : Reading). head_in r.says) xs reading refl;
      head_lines = found_no_more (λ (r : Reading). text_if (head_in r.says) r.text) xs reading refl;
      events = found_no_more (λ (r : Reading). event_in r.says) xs reading refl;
      event_lines = found_no_more (λ (r : Reading). text_if (event_in r.says) r.text) xs reading refl;
    }

lines_for-same : (xs ys : List Reading) → SaySame xs ys → lines_for xs ≡ lines_for ys
lines_for-same xs ys a = rw (a.heads, a.head_lines, a.events, a.event_lines) refl

-- ---- one line more is read

readings_of-push : (lines : List (List ℕ)) (text : List ℕ) (line : Line) → said_at (stage_behind (readings_of lines) first_stage) text ≡ Ok line →
    readings_of (lines ++ text ∷ []) ≡ readings_of lines ++ record { text = text; says = Ok line } ∷ []
unfolding readings_from
readings_of-push lines text line said =
    readings_from-append first_stage lines (text ∷ [])
    ∙ ap (λ (says : Result Line LineRefusal). readings_of lines ++ record { text = text; says = says } ∷ []) said

length-readings_of : (lines : List (List ℕ)) → length (readings_of lines) ≡ length lines
length-readings_of lines =
    sym (length-map (readings_of lines) (λ (r : Reading). r.text)) ∙ ap (λ (xs : List (List ℕ)). length xs) (texts-readings_from first_stage lines)

-- whether a line passes by what it says does not turn on its number
passes_anywhere : (line : Line) (n m events : ℕ) → verdict_by n events (Ok line) ≡ None → verdict_by m events (Ok line) ≡ None
passes_anywhere (Head head) n m events e = refl
passes_anywhere (Happen event) n m events e = in_events (leb most_events events) e
  where
    in_events : (b : Bool) → cond b (Some (too_long n)) None ≡ None → cond b (Some (too_long m)) None ≡ None
    in_events true e = absurd cc
    in_events false e = refl
passes_anywhere Acted n m events e = refl
passes_anywhere End n m events e = absurd cc

fits_left : (lines : List (List ℕ)) (text : List ℕ) → AreFewShortLines (lines ++ text ∷ []) → AreFewShortLines lines
fits_left lines text fits = record {
  few = omega (arith, fits.few, length-append lines (text ∷ []));
  short = All-left IsShortLine lines (text ∷ []) fits.short;
}

-- a line that passes by what it says passes behind lines, where they all keep the limits
pass_more : (lines : List (List ℕ)) (text : List ℕ) (line : Line) → said_at (stage_behind (readings_of lines) first_stage) text ≡ Ok line →
    verdict_by (number_behind (readings_of lines)) (length (events_in (readings_of lines))) (Ok line) ≡ None →
    (AreFewShortLines lines → PassBehind [] (readings_of lines)) → AreFewShortLines (lines ++ text ∷ []) → PassBehind [] (readings_of (lines ++ text ∷ []))
pass_more lines text line said passes before fits =
    let reading : Reading = record { text = text; says = Ok line } in
    let few : length (readings_of lines) < most_lines = omega (arith, length-readings_of lines, fits.few, length-append lines (text ∷ [])) in
    let none = verdict_at-short (readings_of lines) reading few (All-last IsShortLine lines text fits.short) ∙ passes in
    subst (PassBehind []) (sym (readings_of-push lines text line said)) (PassBehind-push [] (readings_of lines) reading (before (fits_left lines text fits)) none)

-- ---- lines that are read as what other lines say

pub record AreReadAs (readings : List Reading) (lines : List (List ℕ)) : Type 0 where
  pub same : SaySame (readings_of lines) readings
  pub clean : All HasNoLineFeed (texts_of readings) → All HasNoLineFeed lines
  pub pass : AreFewShortLines lines → PassBehind [] (readings_of lines)

clean_before : (readings : List Reading) (reading : Reading) → All HasNoLineFeed (texts_of (readings ++ reading ∷ [])) → All HasNoLineFeed (texts_of readings)
clean_before readings reading clean =
    All-left HasNoLineFeed (texts_of readings) (reading.text ∷ [])
    (subst (All HasNoLineFeed) (map-append (λ (r : Reading). r.text) readings (reading ∷ [])) clean)

clean_last : (readings : List Reading) (reading : Reading) → All HasNoLineFeed (texts_of (readings ++ reading ∷ [])) → HasNoLineFeed reading.text
clean_last readings reading clean =
    All-last HasNoLineFeed (texts_of readings) reading.text
    (subst (All HasNoLineFeed) (map-append (λ (r : Reading). r.text) readings (reading ∷ [])) clean)

AreReadAs-none : AreReadAs [] []
unfolding readings_from PassBehind
AreReadAs-none = record { same = SaySame-itself []; clean = λ clean. clean; pass = λ fits. tt }

-- the same line behind both
AreReadAs-push : (readings : List Reading) (lines : List (List ℕ)) (text : List ℕ) (line : Line) (n : ℕ) → said_at (stage_behind readings first_stage) text ≡ Ok line →
    verdict_by n (length (events_in readings)) (Ok line) ≡ None → AreReadAs readings lines →
    AreReadAs (readings ++ record { text = text; says = Ok line } ∷ []) (lines ++ text ∷ [])
AreReadAs-push readings lines text line n said passes read =
    let reading : Reading = record { text = text; says = Ok line } in
    let again = readings_of lines in
    let says : said_at (stage_behind again first_stage) text ≡ Ok line = ap (λ (stage : Stage). said_at stage text) read.same.stage ∙ said in
    let none = ap (λ (events : List Event). verdict_by (number_behind again) (length events) (Ok line)) read.same.events
    ∙ passes_anywhere line n (number_behind again) (length (events_in readings)) passes in
    record {
      same = subst (λ (rs : List Reading). SaySame rs (readings ++ reading ∷ [])) (sym (readings_of-push lines text line says)) (SaySame-push again readings reading read.same);
      clean = λ clean. All-push HasNoLineFeed lines text (read.clean (clean_before readings reading clean)) (clean_last readings reading clean);
      pass = pass_more lines text line says none read.pass;
    }

-- an action line of the input is left out
AreReadAs-skip : (readings : List Reading) (lines : List (List ℕ)) (text : List ℕ) → AreReadAs readings lines →
    AreReadAs (readings ++ record { text = text; says = Ok Acted } ∷ []) lines
AreReadAs-skip readings lines text read = record {
  same = SaySame-on _ _ _ read.same (SaySame-turned _ _ (SaySame-acted readings text));
  clean = λ clean. read.clean (clean_before readings (record { text = text; says = Ok Acted }) clean);
  pass = read.pass;
}

pub clean_action : (action : Action) → HasNoLineFeed (printed_action action)
clean_action action k d within = by_byte (is_line_feed (get_or (printed_action action) k d)) refl
  where
    by_byte : (b : Bool) → is_line_feed (get_or (printed_action action) k d) ≡ b → b ≡ false
    by_byte true is =
        absurd (no_feed action (subst (Contains (printed_action action)) (eqb-true (get_or (printed_action action) k d) 10 is) (Contains-get_or (printed_action action) k d within)))
    by_byte false is = refl

said_acted : (stage : Stage) (action : Action) → IsBehindHead stage → said_at stage (printed_action action) ≡ Ok Acted
unfolding said_at
said_acted stage action behind = rw (behind.no_first, behind.no_second) refl

-- an action's line is put in
AreReadAs-action : (readings : List Reading) (lines : List (List ℕ)) (action : Action) → IsBehindHead (stage_behind readings first_stage) → AreReadAs readings lines →
    AreReadAs readings (lines ++ printed_action action ∷ [])
AreReadAs-action readings lines action behind read =
    let text = printed_action action in
    let again = readings_of lines in
    let says : said_at (stage_behind again first_stage) text ≡ Ok Acted = said_acted (stage_behind again first_stage) action (subst IsBehindHead (sym read.same.stage) behind) in
    record {
      same = subst (λ (rs : List Reading). SaySame rs readings) (sym (readings_of-push lines text Acted says)) (SaySame-on _ _ _ (SaySame-acted again text) read.same);
      clean = λ clean. All-push HasNoLineFeed lines text (read.clean clean) (clean_action action);
      pass = pass_more lines text Acted says refl read.pass;
    }

AreReadAs-actions : (readings : List Reading) (lines : List (List ℕ)) (actions : List Action) → IsBehindHead (stage_behind readings first_stage) → AreReadAs readings lines →
    AreReadAs readings (lines ++ map printed_action actions)
AreReadAs-actions readings lines [] behind read = subst (AreReadAs readings) (sym (append-nil lines)) read
AreReadAs-actions readings lines (action ∷ actions) behind read =
    subst (AreReadAs readings) (append_assoc lines (printed_action action ∷ []) (map printed_action actions))
    (AreReadAs-actions readings (lines ++ printed_action action ∷ []) actions behind (AreReadAs-action readings lines action behind read))

-- ---- the output of lines that pass

-- what is written for lines is read as what they say
pub record AreReadAgain (readings : List Reading) : Type 0 where
  pub front : AreFront readings
  pub read : AreReadAs readings (lines_for readings)

pub AreReadAgain-none : AreReadAgain []
unfolding actions_of
AreReadAgain-none = record { front = AreFront-none; read = AreReadAs-none }

event_again : (readings : List Reading) (text : List ℕ) (event : Event) (n : ℕ) → said_at (stage_behind readings first_stage) text ≡ Ok (Happen event) →
    IsBehindHead (stage_behind readings first_stage) → verdict_by n (length (events_in readings)) (Ok (Happen event)) ≡ None → AreReadAs readings (lines_for readings) →
    AreReadAs (readings ++ record { text = text; says = Ok (Happen event) } ∷ []) (lines_for readings ++ told_behind readings text event)
unfolding told_behind
event_again readings text event n said behind passes read =
    let reading : Reading = record { text = text; says = Ok (Happen event) } in
    let later : IsBehindHead (stage_behind (readings ++ reading ∷ []) first_stage) =
    subst IsBehindHead (sym (stage_behind-push readings reading first_stage)) (IsPastHead-event (stage_behind readings first_stage) event behind).behind in
    subst (AreReadAs (readings ++ reading ∷ [])) (append_assoc (lines_for readings) (text ∷ []) _)
    (AreReadAs-actions (readings ++ reading ∷ []) (lines_for readings ++ text ∷ []) _ later
    (AreReadAs-push readings (lines_for readings) text (Happen event) n said passes read))

line_again : (readings : List Reading) (text : List ℕ) (line : Line) (n : ℕ) → said_at (stage_behind readings first_stage) text ≡ Ok line → AreFront readings →
    IsLineAt (stage_behind readings first_stage) line → verdict_by n (length (events_in readings)) (Ok line) ≡ None → AreReadAs readings (lines_for readings) →
    AreReadAs (readings ++ record { text = text; says = Ok line } ∷ []) (lines_for (readings ++ record { text = text; says = Ok line } ∷ []))
line_again readings text (Head head) n said front at passes read =
    let none = no_events_before_head _ _ (events_in readings) head front at in
    let reading : Reading = record { text = text; says = Ok (Head head) } in
    subst (AreReadAs (readings ++ reading ∷ [])) (sym (lines_for-head readings text head none)) (AreReadAs-push readings (lines_for readings) text (Head head) n said passes read)
line_again readings text (Happen event) n said front at passes read =
    let reading : Reading = record { text = text; says = Ok (Happen event) } in
    subst (AreReadAs (readings ++ reading ∷ [])) (sym (lines_for-event readings text event)) (event_again readings text event n said at.0 passes read)
line_again readings text Acted n said front at passes read =
    let reading : Reading = record { text = text; says = Ok Acted } in
    subst (AreReadAs (readings ++ reading ∷ [])) (sym (lines_for-acted readings text)) (AreReadAs-skip readings (lines_for readings) text read)
line_again readings text End n said front at passes read = absurd cc

-- one line more that says something, and passes at some place
pub AreReadAgain-said : (before : List Reading) (text : List ℕ) (line : Line) (n : ℕ) → said_at (stage_behind before first_stage) text ≡ Ok line →
    verdict_by n (length (events_in before)) (Ok line) ≡ None → AreReadAgain before → AreReadAgain (before ++ record { text = text; says = Ok line } ∷ [])
AreReadAgain-said before text line n said passes again =
    let at = said_at-is (stage_behind before first_stage) text line said in
    record {
      front = AreFront-said before text line said again.front;
      read = line_again before text line n said again.front at passes again.read;
    }

AreReadAgain-more : (before : List Reading) (text : List ℕ) → AreReadAgain before → Passes before (reading_at (stage_behind before first_stage) text) →
    AreReadAgain (before ++ reading_at (stage_behind before first_stage) text ∷ [])
AreReadAgain-more before text again passes =
    let stage = stage_behind before first_stage in
    let found = line_at before stage text passes in
    let by : verdict_by (number_behind before) (length (events_in before)) (Ok found.0) ≡ None = rw (← found.1) passes.by in
    let said = line_again before text found.0 (number_behind before) found.1 again.front found.2 by again.read in
    let read : AreReadAs (before ++ reading_at stage text ∷ []) (lines_for (before ++ reading_at stage text ∷ [])) = rw found.1 said in
    record { front = AreFront-more before text again.front passes; read = read }

-- ---- the line that ends a trace

-- the lines before `end`, and that it stands where it may
record IsEnded (j : Judgement) : Type 0 where
  behind : IsBehindHead (stage_behind j.passed first_stage)
  clean : All HasNoLineFeed (texts_of j.passed)

end_behind : (before : List Reading) (text : List ℕ) → verdict_at before (reading_at (stage_behind before first_stage) text) ≡ Some ended →
    IsBehindHead (stage_behind before first_stage)
end_behind before text e = at_length (is_too_long (number_behind before) text) e
  where
    in_events : (b : Bool) → cond b (Some (too_long (number_behind before))) None ≡ Some ended → ⊥
    in_events true e = absurd cc
    in_events false e = absurd cc

    by_says : (says : Result Line LineRefusal) → said_at (stage_behind before first_stage) text ≡ says →
        verdict_by (number_behind before) (length (events_in before)) says ≡ Some ended → IsBehindHead (stage_behind before first_stage)
    by_says (Ok (Head head)) is e = absurd cc
    by_says (Ok (Happen event)) is e = absurd (in_events (leb most_events (length (events_in before))) e)
    by_says (Ok Acted) is e = absurd cc
    by_says (Ok End) is e = said_at-is (stage_behind before first_stage) text End is
    by_says (Err refusal) is e = absurd cc

    at_length : (b : Bool) → cond b (Some (too_long (number_behind before)))
        (verdict_by (number_behind before) (length (events_in before)) (said_at (stage_behind before first_stage) text)) ≡ Some ended →
        IsBehindHead (stage_behind before first_stage)
    at_length true e = absurd cc
    at_length false e = by_says (said_at (stage_behind before first_stage) text) refl e

-- no end is behind the last line feed
rest_never_ends : (before : List Reading) (rest : List ℕ) → verdict_of_rest (number_behind before) rest ≡ ended → ⊥
rest_never_ends before rest e = at_length (is_too_long (number_behind before) rest) e
  where
    at_length : (b : Bool) → cond b (too_long (number_behind before)) (refused (number_behind before) NoEnd) ≡ ended → ⊥
    at_length true e = absurd cc
    at_length false e = absurd cc

ended_from : (before : List Reading) (texts : List (List ℕ)) (rest : List ℕ) → All HasNoLineFeed (texts_of before) → All HasNoLineFeed texts →
    (judged_from before (readings_from (stage_behind before first_stage) texts) rest).verdict ≡ ended →
    IsEnded (judged_from before (readings_from (stage_behind before first_stage) texts) rest)
unfolding judged_from readings_from
ended_from before [] rest clean lines e = absurd (rest_never_ends before rest e)
ended_from before (text ∷ texts) rest clean lines e =
    by_verdict (verdict_at before reading) refl (ended_from (before ++ reading ∷ []) texts rest clean_more (All-tail HasNoLineFeed text texts lines)) e
  where
    reading : Reading
    reading = reading_at (stage_behind before first_stage) text

    clean_more : All HasNoLineFeed (texts_of (before ++ reading ∷ []))
    clean_more =
        subst (All HasNoLineFeed) (sym (map-append (λ (r : Reading). r.text) before (reading ∷ [])))
        (All-push HasNoLineFeed (texts_of before) text clean (All-head HasNoLineFeed text texts lines))

    on : Stage → Judgement
    on stage = judged_from (before ++ reading ∷ []) (readings_from stage texts) rest

    by_verdict : (verdict : Option Verdict) → verdict_at before reading ≡ verdict →
        ((on (stage_behind (before ++ reading ∷ []) first_stage)).verdict ≡ ended → IsEnded (on (stage_behind (before ++ reading ∷ []) first_stage))) →
        (judged_at verdict before (on (stage_past (stage_behind before first_stage) reading.says))).verdict ≡ ended →
        IsEnded (judged_at verdict before (on (stage_past (stage_behind before first_stage) reading.says)))
    by_verdict None is later e =
        let at = subst (λ (stage : Stage). (on stage).verdict ≡ ended → IsEnded (on stage)) (stage_behind-push before reading first_stage) later in
        at e
    by_verdict (Some verdict) is later e =
        let same : verdict ≡ ended = e in
        record { behind = end_behind before text (is ∙ ap (λ (v : Verdict). Some v) same); clean = clean }

ended_of : (input : List ℕ) → verdict_of input ≡ ended → IsEnded (judged input)
unfolding stage_behind
ended_of input e = ended_from [] (whole_lines input) (unfinished_line input) (All-nil HasNoLineFeed) (cut_of input).each_one_line e

again_of : (input : List ℕ) → AreReadAgain (judged input).passed
unfolding stage_behind
again_of input =
    let on = judged_from-continues [] (whole_lines input) (unfinished_line input) in
    subst AreReadAgain (sym on.passed) (passed_behind AreReadAgain AreReadAgain-more [] on.texts AreReadAgain-none on.pass)

-- ---- the output, read again

said_end : (stage : Stage) → IsBehindHead stage → said_at stage (codes "end") ≡ Ok End
unfolding said_at
said_end stage behind = rw (behind.no_first, behind.no_second) refl

clean_end : HasNoLineFeed (codes "end")
clean_end = All-from_recursion StandsInLine (codes "end") (refl, (refl, (refl, tt)))

-- what is written for these lines and `end`
abbrev pub ended_output : List Reading → List ℕ
ended_output passed = ended_lines (lines_for passed ++ codes "end" ∷ [])

judged_again : (passed : List Reading) → AreReadAgain passed → All HasNoLineFeed (texts_of passed) → IsBehindHead (stage_behind passed first_stage) →
    AreFewShortLines (lines_for passed ++ codes "end" ∷ []) → judged (ended_output passed) ≡ judgement_of (readings_of (lines_for passed)) ended
judged_again passed again clean behind fits =
    let lines = lines_for passed in
    let readings = readings_of lines in
    let texts : texts_of readings ≡ lines = texts-readings_from first_stage lines in
    let stage = stage_behind readings first_stage in
    let says : said_at stage (codes "end") ≡ Ok End = said_end stage (subst IsBehindHead (sym again.read.same.stage) behind) in
    let few : length readings < most_lines = omega (arith, length-readings_of lines, fits.few, length-append lines (codes "end" ∷ [])) in
    let decides : verdict_at readings (reading_at stage (codes "end")) ≡ Some ended =
    verdict_at-short readings (reading_at stage (codes "end")) few (All-last IsShortLine lines (codes "end") fits.short)
    ∙ ap (λ (s : Result Line LineRefusal). verdict_by (number_behind readings) (length (events_in readings)) s) says in
    let passes = ArePassed-lines lines (again.read.pass (fits_left lines (codes "end") fits)) in
    ap judged (ended_lines_push lines (codes "end") ∙ ap (λ (xs : List (List ℕ)). ended_lines xs ++ (codes "end" ++ 10 ∷ [])) (sym texts))
    ∙ judged_line readings (codes "end") [] ended passes (subst (All HasNoLineFeed) (sym texts) (again.read.clean clean)) clean_end decides

-- the limits hold of its lines
fits_ended : (passed : List Reading) → AreReadAgain passed → All HasNoLineFeed (texts_of passed) → FitsTrace (ended_output passed) →
    AreFewShortLines (lines_for passed ++ codes "end" ∷ [])
fits_ended passed again clean fits =
    let lines = lines_for passed ++ codes "end" ∷ [] in
    let one_line = All-push HasNoLineFeed (lines_for passed) (codes "end") (again.read.clean clean) clean_end in
    let cut : whole_lines (ended_lines lines) ≡ lines =
    whole_lines_are (ended_lines lines) lines [] (record { joined = sym (append-nil (ended_lines lines)); each_one_line = one_line; rest_unfinished = All-nil _ }) in
    subst AreFewShortLines cut fits

own_ended : (passed : List Reading) → AreReadAgain passed → All HasNoLineFeed (texts_of passed) → IsBehindHead (stage_behind passed first_stage) →
    FitsTrace (ended_output passed) → IsItsOwnOutput (ended_output passed)
own_ended passed again clean behind fits =
    let same = judged_again passed again clean behind (fits_ended passed again clean fits) in
    record {
      ends = ap (λ (j : Judgement). j.verdict) same;
      same = ap output_for same ∙ ap (λ (xs : List (List ℕ)). ended_lines (xs ++ codes "end" ∷ [])) (lines_for-same (readings_of (lines_for passed)) passed again.read.same);
    }

-- Lines that are read to their `end`, and each is the line of the output at its place.
pub record AreTheirOutput (bytes : List ℕ) : Type 0 where
  pub readings : List Reading
  pub ends : judged bytes ≡ judgement_of readings ended
  pub same : lines_for readings ≡ texts_of readings

pub their_output : (passed : List Reading) → AreReadAgain passed → All HasNoLineFeed (texts_of passed) → IsBehindHead (stage_behind passed first_stage) →
    FitsTrace (ended_output passed) → AreTheirOutput (ended_output passed)
their_output passed again clean behind fits = record {
  readings = readings_of (lines_for passed);
  ends = judged_again passed again clean behind (fits_ended passed again clean fits);
  same = lines_for-same (readings_of (lines_for passed)) passed again.read.same ∙ sym (texts-readings_from first_stage (lines_for passed));
}

pub output_lines : (input : List ℕ) → verdict_of input ≡ ended → FitsTrace (output_of input) → AreTheirOutput (output_of input)
output_lines input e fits =
    let passed = (judged input).passed in
    let output : output_of input ≡ ended_output passed = ap (λ (verdict : Verdict). ended_lines (lines_for passed ++ last_lines verdict)) e in
    let is_ended = ended_of input e in
    subst AreTheirOutput (sym output) (their_output passed (again_of input) is_ended.clean is_ended.behind (subst FitsTrace output fits))

pub own_output : (input : List ℕ) → verdict_of input ≡ ended → FitsTrace (output_of input) → IsItsOwnOutput (output_of input)
own_output input e fits =
    let passed = (judged input).passed in
    let output : output_of input ≡ ended_output passed = ap (λ (verdict : Verdict). ended_lines (lines_for passed ++ last_lines verdict)) e in
    let is_ended = ended_of input e in
    subst IsItsOwnOutput (sym output) (own_ended passed (again_of input) is_ended.clean is_ended.behind (subst FitsTrace output fits))

pub some_own_output : (t0 t1 : Option (List ℕ)) → IsOutputOfSome ended t0 t1 → TakesItsOwnOutput t0 t1
some_own_output t0 t1 some = record { written = output_of some.input; taken = some.taken; own = own_output some.input some.verdict_is }
