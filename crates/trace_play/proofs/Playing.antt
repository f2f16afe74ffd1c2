-- What one line more does to what is kept of those before it.
use Rattle.std.proofs.Common.{◌≡◌, ℕ, ◌+◌, ◌<◌, ◌≤◌, Bool, true, false, cond, leb, List, [], ◌∷◌, ◌++◌, length, Option, Some, None, IfSome, IfOk, OnOk, Result, Ok, Err, refl, sym, ap, ◌∙◌, subst, arith, leb-true, leb-false}
use Rattle.std.proofs.lemmas.Bool.{lt-leb, le-leb}
use Rattle.std.proofs.lemmas.List.{append-nil, length_push}
use Rattle.io_edge.specs.Lines.{ended_lines}
use Rattle.machine.specs.Machine.{Machine, start_of}
use Rattle.machine.specs.Run.{after_all}
use Rattle.machine.specs.Step.{step}
use Rattle.net_base.specs.declared.event.Event.{Event}
use Rattle.trace_text.specs.Lines.{line_of, IsReading}
use Rattle.trace_text.specs.Stages.{first_stage, stage_after}
use Rattle.trace_text.specs.declared.line.HeadLine.{HeadLine}
use Rattle.trace_text.specs.declared.line.Line.{Line}
use Rattle.trace_text.specs.declared.line.Line.TheVariants.{Head, Happen, Acted, End}
use Rattle.trace_text.specs.declared.line.LineRefusal.{LineRefusal}
use Rattle.trace_text.specs.declared.line.LineRefusal.TheVariants.{BadWord, BadNumber, BadTargets, OutOfOrder, OutOfMemory as NoMemory}
use Rattle.trace_text.specs.declared.stage.Stage.{Stage}
use Rattle.trace_meaning.specs.Heads.{AreHeads}
use Rattle.trace_meaning.specs.Reading.{Reading, said_at, reading_at, stage_behind, heads_in, events_in}
use Rattle.trace_meaning.specs.Settings.{settings_in}
use Rattle.line_run.specs.Judgement.{Verdict, ended, refused, too_long, is_too_long}
use Rattle.line_run.specs.Meaning.{Meaning, goes_on, ends, differs, is_refused, is_too_many, IsInterpreted}
use Rattle.line_run.proofs.Differing.{NeverDiffers}
use Rattle.line_run.specs.Refusals.{if_read, kind_of, stop_of}
use Rattle.line_run.specs.declared.stop.Stop.{Stop}
use Rattle.line_run.specs.declared.stop.Stop.TheVariants.{Ended, Differs, Refused, TooMany, OutOfMemory}
use Rattle.trace_meaning.specs.Judgement.{most_events, verdict_by, verdict_at, number_behind}
use Rattle.trace_meaning.specs.Output.{start_in, told_event, lines_for}
use Rattle.trace_meaning.specs.Passing.{ArePassed}
use Rattle.trace_play.specs.Playback.{Begun, Kept, nothing_kept, machine_or, events_taken, machine_before, StandsBehind, GoesOn, IsLineWithin, IsSaid}
use Rattle.trace_play.specs.Played.{with_head, stepped, with_event, line_means, played}
use Rattle.trace_meaning.proofs.Grammar.{IsLineAt, said_at-is}
use Rattle.trace_meaning.proofs.Heads.{AreHeads-more}
use Rattle.trace_meaning.proofs.Readings.{stage_behind-push, heads_in-append, events_in-append, AreFront-passed, no_events_before_head}
use Rattle.trace_meaning.proofs.Judging.{ArePassed-none, ArePassed-more}
use Rattle.trace_meaning.proofs.Outputs.{after_all-push, lines_for-head, lines_for-acted, told_behind, lines_for-event}

-- before any line
pub StandsBehind-none : StandsBehind nothing_kept []
unfolding stage_behind after_all
StandsBehind-none = record { passed = ArePassed-none; stage = refl; heads = refl; machine = refl; events = refl; begun = tt }

no_engine : (engine : Option Begun) → events_taken engine ≡ 0 → IfSome engine (λ (x : Begun). 0 < x.events) → engine ≡ None
no_engine None none begun = refl
no_engine (Some engine) none begun = absurd (omega arith)

-- the line that was read, at the stage behind lines that pass
abbrev Said : List Reading → List ℕ → Line → Type 0
Said readings text line = said_at (stage_behind readings first_stage) text ≡ Ok line

abbrev said_reading : List ℕ → Line → Reading
said_reading text line = record { text = text; says = Ok line }

said_is : (readings : List Reading) (text : List ℕ) (line : Line) → Said readings text line → reading_at (stage_behind readings first_stage) text ≡ said_reading text line
said_is readings text line said = ap (λ r. record { text = text; says = r }) said

-- a line that is short enough, by its bytes and by its number
abbrev pub IsShort : List Reading → List ℕ → Type 0
IsShort readings text = is_too_long (number_behind readings) text ≡ false

-- it decides by what it says
short_at : (readings : List Reading) (reading : Reading) → IsShort readings reading.text →
    verdict_at readings reading ≡ verdict_by (number_behind readings) (length (events_in readings)) reading.says
short_at readings reading short = rw short refl

-- one line more that passes
module _ (readings : List Reading) (text : List ℕ) (line : Line) (stands_passed : ArePassed readings) (short : IsShort readings text)
    (said : Said readings text line) (on : verdict_by (number_behind readings) (length (events_in readings)) (Ok line) ≡ None) where
  passes_said : verdict_at readings (said_reading text line) ≡ None
  passes_said = short_at readings (said_reading text line) short ∙ on

  passed_said : ArePassed (readings ++ said_reading text line ∷ [])
  passed_said =
      let same = said_is readings text line said in
      let none : verdict_at readings (reading_at (stage_behind readings first_stage) text) ≡ None = subst (λ (r : Reading). verdict_at readings r ≡ None) (sym same) passes_said in
      subst (λ (r : Reading). ArePassed (readings ++ r ∷ [])) same (ArePassed-more readings text stands_passed none)

  stage_said : stage_behind (readings ++ said_reading text line ∷ []) first_stage ≡ stage_after (stage_behind readings first_stage) line
  stage_said = stage_behind-push readings (said_reading text line) first_stage

-- a line of the head goes on
head_on : (before : Kept) (readings : List Reading) (text : List ℕ) (head : HeadLine) → StandsBehind before readings → IsShort readings text → Said readings text (Head head) →
    GoesOn readings (said_reading text (Head head)) (with_head before head) (text ∷ [])
unfolding after_all
head_on before readings text head stands short said =
    let reading = said_reading text (Head head) in
    let front = AreFront-passed readings stands.passed in
    let none : events_in readings ≡ [] = no_events_before_head _ _ (events_in readings) head front (said_at-is (stage_behind readings first_stage) text (Head head) said) in
    let idle : before.engine ≡ None = no_engine before.engine (stands.events ∙ ap length none) stands.begun in
    let still : events_in (readings ++ reading ∷ []) ≡ [] = events_in-append readings (reading ∷ []) ∙ append-nil (events_in readings) ∙ none in
    record {
      passes = passes_said readings text (Head head) stands.passed short said refl;
      stands = record {
        passed = passed_said readings text (Head head) stands.passed short said refl;
        stage = ap (λ (s : Stage). stage_after s (Head head)) stands.stage ∙ sym (stage_said readings text (Head head) stands.passed short said refl);
        heads = ap (λ (hs : List HeadLine). hs ++ head ∷ []) stands.heads ∙ sym (heads_in-append readings (reading ∷ []));
        machine = rw (idle, still) refl;
        events = rw (idle, still) refl;
        begun = stands.begun;
      };
      lines = lines_for-head readings text head none;
    }

-- an action line changes nothing
acted_on : (before : Kept) (readings : List Reading) (text : List ℕ) → StandsBehind before readings → IsShort readings text → Said readings text Acted →
    GoesOn readings (said_reading text Acted) before []
acted_on before readings text stands short said =
    let reading = said_reading text Acted in
    let heads : heads_in (readings ++ reading ∷ []) ≡ heads_in readings = heads_in-append readings (reading ∷ []) ∙ append-nil (heads_in readings) in
    let events : events_in (readings ++ reading ∷ []) ≡ events_in readings = events_in-append readings (reading ∷ []) ∙ append-nil (events_in readings) in
    record {
      passes = passes_said readings text Acted stands.passed short said refl;
      stands = record {
        passed = passed_said readings text Acted stands.passed short said refl;
        stage = stands.stage ∙ sym (stage_said readings text Acted stands.passed short said refl);
        heads = stands.heads ∙ sym heads;
        machine = rw (heads, events) stands.machine;
        events = rw events stands.events;
        begun = stands.begun;
      };
      lines = lines_for-acted readings text ∙ sym (append-nil (lines_for readings));
    }

-- the machine that the next event finds
machine_found : (before : Kept) (readings : List Reading) → StandsBehind before readings → machine_before before ≡ after_all (start_in readings) (events_in readings)
machine_found before readings stands =
    ap (λ (hs : List HeadLine). machine_or (start_of (settings_in hs)) before.engine) stands.heads ∙ stands.machine

verdict_by-event : (number events : ℕ) (event : Event) → events < most_events → verdict_by number events (Ok (Happen event)) ≡ None
verdict_by-event number events event few = rw (lt-leb most_events events few) refl

verdict_by-event_late : (number events : ℕ) (event : Event) → most_events ≤ events → verdict_by number events (Ok (Happen event)) ≡ Some (too_long number)
verdict_by-event_late number events event late = rw (le-leb most_events events late) refl

-- an event line goes on
event_on : (before : Kept) (readings : List Reading) (text : List ℕ) (event : Event) →
    StandsBehind before readings → IsShort readings text → Said readings text (Happen event) → events_taken before.engine < most_events →
    GoesOn readings (said_reading text (Happen event)) (with_event before event) (told_event (text, (step (machine_before before) event).actions))
unfolding told_behind
event_on before readings text event stands short said early =
    let reading = said_reading text (Happen event) in
    let on : verdict_by (number_behind readings) (length (events_in readings)) (Ok (Happen event)) ≡ None =
    verdict_by-event (number_behind readings) (length (events_in readings)) event (omega (arith, early, stands.events)) in
    let heads : heads_in (readings ++ reading ∷ []) ≡ heads_in readings = heads_in-append readings (reading ∷ []) ∙ append-nil (heads_in readings) in
    let events : events_in (readings ++ reading ∷ []) ≡ events_in readings ++ event ∷ [] = events_in-append readings (reading ∷ []) in
    let found = machine_found before readings stands in
    let stepped : (step (machine_before before) event).machine ≡ after_all (start_in readings) (events_in readings ++ event ∷ []) =
    ap (λ (m : Machine). (step m event).machine) found ∙ sym (after_all-push (start_in readings) (events_in readings) event) in
    let told : told_event (text, (step (machine_before before) event).actions) ≡ told_behind readings text event =
    ap (λ (m : Machine). told_event (text, (step m event).actions)) found in
    record {
      passes = passes_said readings text (Happen event) stands.passed short said on;
      stands = record {
        passed = passed_said readings text (Happen event) stands.passed short said on;
        stage = ap (λ (s : Stage). stage_after s (Happen event)) stands.stage ∙ sym (stage_said readings text (Happen event) stands.passed short said on);
        heads = stands.heads ∙ sym heads;
        machine = rw (heads, events) stepped;
        events = rw (events, stands.events) (sym (length_push (events_in readings) event));
        begun = omega arith;
      };
      lines = lines_for-event readings text event ∙ ap (λ (ls : List (List ℕ)). lines_for readings ++ ls) (sym told);
    }

-- ---- what a line comes to

-- the line passes, or it decides
abbrev pub ComesTo : List (List ℕ) → List Reading → Reading → Meaning Kept → Type 0
ComesTo last readings reading (goes_on next said) = GoesOn readings reading next said
ComesTo last readings reading (ends lines) = (verdict_at readings reading ≡ Some ended) × (lines ≡ last)
ComesTo last readings reading (differs lines) = ⊥
ComesTo last readings reading (is_refused kind) = verdict_at readings reading ≡ Some (refused (number_behind readings) kind)
ComesTo last readings reading is_too_many = verdict_at readings reading ≡ Some (too_long (number_behind readings))

said_behind : (before : Kept) (readings : List Reading) (text : List ℕ) (said : Result Line LineRefusal) → StandsBehind before readings → said_at before.stage text ≡ said →
    said_at (stage_behind readings first_stage) text ≡ said
said_behind before readings text said stands e = ap (λ (s : Stage). said_at s text) (sym stands.stage) ∙ e

goes_on_read : (readings : List Reading) (text : List ℕ) (line : Line) (next : Kept) (said : List (List ℕ)) → Said readings text line →
    GoesOn readings (said_reading text line) next said → GoesOn readings (reading_at (stage_behind readings first_stage) text) next said
goes_on_read readings text line next said says on = subst (λ (r : Reading). GoesOn readings r next said) (sym (said_is readings text line says)) on

-- a line that says something decides by it
decides_by : (before : Kept) (readings : List Reading) (text : List ℕ) (said : Result Line LineRefusal) (verdict : Verdict) →
    StandsBehind before readings → IsShort readings text → said_at before.stage text ≡ said → verdict_by (number_behind readings) (length (events_in readings)) said ≡ Some verdict →
    verdict_at readings (reading_at (stage_behind readings first_stage) text) ≡ Some verdict
decides_by before readings text said verdict stands short says decides =
    short_at readings (reading_at (stage_behind readings first_stage) text) short
    ∙ ap (verdict_by (number_behind readings) (length (events_in readings))) (said_behind before readings text said stands says) ∙ decides

pub line_comes : (last : List (List ℕ)) (before : Kept) (readings : List Reading) (text : List ℕ) → StandsBehind before readings → IsShort readings text →
    ComesTo last readings (reading_at (stage_behind readings first_stage) text) (played last before text)
line_comes last before readings text stands short = by_said (said_at before.stage text) refl
  where
    reading : Reading
    reading = reading_at (stage_behind readings first_stage) text

    by_many : (event : Event) (b : Bool) → leb most_events (events_taken before.engine) ≡ b → said_at before.stage text ≡ Ok (Happen event) →
        ComesTo last readings reading (cond b is_too_many (goes_on (with_event before event) (told_event (text, (step (machine_before before) event).actions))))
    by_many event true many is =
        decides_by before readings text (Ok (Happen event)) (too_long (number_behind readings)) stands short is
        (verdict_by-event_late (number_behind readings) (length (events_in readings)) event (omega (arith, leb-true most_events (events_taken before.engine) many, stands.events)))
    by_many event false few is =
        let says = said_behind before readings text (Ok (Happen event)) stands is in
        goes_on_read readings text (Happen event) _ _ says
        (event_on before readings text event stands short says (omega (arith, leb-false most_events (events_taken before.engine) few)))

    by_said : (said : Result Line LineRefusal) → said_at before.stage text ≡ said → ComesTo last readings reading (if_read said (line_means last before text))
    by_said (Ok (Head head)) is =
        let says = said_behind before readings text (Ok (Head head)) stands is in
        goes_on_read readings text (Head head) _ _ says (head_on before readings text head stands short says)
    by_said (Ok (Happen event)) is = by_many event (leb most_events (events_taken before.engine)) refl is
    by_said (Ok Acted) is =
        let says = said_behind before readings text (Ok Acted) stands is in
        goes_on_read readings text Acted _ _ says (acted_on before readings text stands short says)
    by_said (Ok End) is = (decides_by before readings text (Ok End) ended stands short is refl, refl)
    by_said (Err refusal) is = decides_by before readings text (Err refusal) (refused (number_behind readings) (kind_of refusal)) stands short is refl

-- ---- the lines that are written for the last one

abbrev with_last : List (List ℕ) → Meaning Kept → Meaning Kept
with_last last (goes_on next lines) = goes_on next lines
with_last last (ends lines) = ends last
with_last last (differs lines) = differs lines
with_last last (is_refused kind) = is_refused kind
with_last last is_too_many = is_too_many

played_last : (last : List (List ℕ)) (before : Kept) (text : List ℕ) → played last before text ≡ with_last last (played [] before text)
played_last last before text = by_said (said_at before.stage text)
  where
    by_many : (event : Event) (b : Bool) →
        cond b is_too_many (goes_on (with_event before event) (told_event (text, (step (machine_before before) event).actions)))
        ≡ with_last last (cond b is_too_many (goes_on (with_event before event) (told_event (text, (step (machine_before before) event).actions))))
    by_many event true = refl
    by_many event false = refl

    by_said : (said : Result Line LineRefusal) → if_read said (line_means last before text) ≡ with_last last (if_read said (line_means [] before text))
    by_said (Ok (Head head)) = refl
    by_said (Ok (Happen event)) = by_many event (leb most_events (events_taken before.engine))
    by_said (Ok Acted) = refl
    by_said (Ok End) = refl
    by_said (Err refusal) = refl

abbrev lines_of : Meaning Kept → List (List ℕ)
lines_of (goes_on next lines) = []
lines_of (ends lines) = lines
lines_of (differs lines) = []
lines_of (is_refused kind) = []
lines_of is_too_many = []

pub last_none : (before : Kept) (text : List ℕ) (lines : List (List ℕ)) → played [] before text ≡ ends lines → lines ≡ []
last_none before text lines is =
    sym (ap lines_of is) ∙ ap lines_of (played_last [] before text) ∙ ap (λ (m : Meaning Kept). lines_of (with_last [] m)) is

-- a line that is not the last one
abbrev pub IsNotLast : Result (Unit {0}) Stop → Type 0
IsNotLast (Ok done) = Unit {0}
IsNotLast (Err Ended) = ⊥
IsNotLast (Err Differs) = Unit {0}
IsNotLast (Err (Refused kind)) = Unit {0}
IsNotLast (Err TooMany) = Unit {0}
IsNotLast (Err OutOfMemory) = Unit {0}

pub not_last : (last : List (List ℕ)) (before next : Kept) (text pending later : List ℕ) (result : Result (Unit {0}) Stop) → IsNotLast result →
    IsInterpreted (played [] before text) next pending later result → IsInterpreted (played last before text) next pending later result
not_last last before next text pending later (Ok done) other is = (is.0, played_last last before text ∙ ap (with_last last) is.1, is.2)
not_last last before next text pending later (Err Ended) other is = absurd other
not_last last before next text pending later (Err Differs) other is = (is.0, played_last last before text ∙ ap (with_last last) is.1, is.2)
not_last last before next text pending later (Err (Refused kind)) other is = (played_last last before text ∙ ap (with_last last) is.0, is.1)
not_last last before next text pending later (Err TooMany) other is = (played_last last before text ∙ ap (with_last last) is.0, is.1)
not_last last before next text pending later (Err OutOfMemory) other is = is

-- and the last one, with what is said behind it
pub last_said : (last : List (List ℕ)) (before next : Kept) (text pending later said : List ℕ) → IsInterpreted (played [] before text) next pending later (Err Ended) →
    said ≡ later ++ ended_lines last → IsInterpreted (played last before text) next pending said (Err Ended)
last_said last before next text pending later said is says =
    let silent : later ≡ pending = is.2 ∙ ap (λ (ls : List (List ℕ)). pending ++ ended_lines ls) (last_none before text is.0 is.1) ∙ append-nil pending in (
      last,
      played_last last before text ∙ ap (with_last last) is.1,
      says ∙ ap (λ (bytes : List ℕ). bytes ++ ended_lines last) silent,
    )

-- ---- no line differs by itself

pub never_differs : (last : List (List ℕ)) → NeverDiffers (played last)
never_differs last before text lines is = by_said (said_at before.stage text) is
  where
    by_many : (event : Event) (b : Bool) →
        cond b is_too_many (goes_on (with_event before event) (told_event (text, (step (machine_before before) event).actions))) ≡ differs lines → ⊥
    by_many event true e = absurd cc
    by_many event false e = absurd cc

    by_said : (said : Result Line LineRefusal) → if_read said (line_means last before text) ≡ differs lines → ⊥
    by_said (Ok (Head head)) e = absurd cc
    by_said (Ok (Happen event)) e = by_many event (leb most_events (events_taken before.engine)) e
    by_said (Ok Acted) e = absurd cc
    by_said (Ok End) e = absurd cc
    by_said (Err refusal) e = absurd cc

-- ---- what is kept of the head

AreHeads-event : (stage : Stage) (heads : List HeadLine) (event : Event) → AreHeads stage heads → AreHeads (stage_after stage (Happen event)) heads
AreHeads-event stage heads event h = record {
  seen = h.seen;
  none_before = h.none_before;
  version_least = h.version_least;
  version_most = h.version_most;
  hard = h.hard;
  none_later = h.none_later;
  in_range = h.in_range;
}

-- what holds behind a line that goes on, by what it may be
goes_next : (P : Kept → Type 0) (last : List (List ℕ)) (before next : Kept) (text : List ℕ) (lines : List (List ℕ)) →
    ((head : HeadLine) → said_at before.stage text ≡ Ok (Head head) → P (with_head before head)) → ((event : Event) → P (with_event before event)) → P before →
    played last before text ≡ goes_on next lines → P next
goes_next P last before next text lines at_head at_event same is = by_said (said_at before.stage text) refl is
  where
    kept_next : (other : Kept) (said : List (List ℕ)) → P other → goes_on other said ≡ goes_on next lines → P next
    kept_next other said at e = let is : other ≡ next = cc in subst P is at

    by_many : (event : Event) (b : Bool) →
        cond b is_too_many (goes_on (with_event before event) (told_event (text, (step (machine_before before) event).actions))) ≡ goes_on next lines → P next
    by_many event true e = absurd cc
    by_many event false e = kept_next (with_event before event) _ (at_event event) e

    by_said : (said : Result Line LineRefusal) → said_at before.stage text ≡ said → if_read said (line_means last before text) ≡ goes_on next lines → P next
    by_said (Ok (Head head)) says e = kept_next (with_head before head) _ (at_head head says) e
    by_said (Ok (Happen event)) says e = by_many event (leb most_events (events_taken before.engine)) e
    by_said (Ok Acted) says e = kept_next before _ same e
    by_said (Ok End) says e = absurd cc
    by_said (Err refusal) says e = absurd cc

-- it is kept behind a line that goes on
pub heads_next : (last : List (List ℕ)) (before next : Kept) (text : List ℕ) (lines : List (List ℕ)) → AreHeads before.stage before.heads → played last before text ≡ goes_on next lines →
    AreHeads next.stage next.heads
heads_next last before next text lines h =
    goes_next (λ k. AreHeads k.stage k.heads) last before next text lines
    (λ head says. AreHeads-more before.stage before.heads head (said_at-is before.stage text (Head head) says) h) (λ event. AreHeads-event before.stage before.heads event h) h

-- and no more than one line of the head, or one event, is kept besides
pub counted_next : (last : List (List ℕ)) (before next : Kept) (text : List ℕ) (lines : List (List ℕ)) → played last before text ≡ goes_on next lines →
    length next.heads + events_taken next.engine ≤ length before.heads + events_taken before.engine + 1
counted_next last before next text lines =
    goes_next (λ k. length k.heads + events_taken k.engine ≤ length before.heads + events_taken before.engine + 1) last before next text lines
    (λ head says. omega (arith, length_push before.heads head)) (λ event. omega arith) (omega arith)

-- ---- what the functions answer

pub IsSaid-from : (stage : Stage) (text : List ℕ) (result : Result Line LineRefusal) → IsReading result (line_of stage text) → IsSaid stage text result
unfolding said_at
IsSaid-from stage text (Ok line) is = sym is
IsSaid-from stage text (Err (BadWord place)) is = sym is
IsSaid-from stage text (Err (BadNumber place)) is = sym is
IsSaid-from stage text (Err BadTargets) is = sym is
IsSaid-from stage text (Err OutOfOrder) is = sym is
IsSaid-from stage text (Err NoMemory) is = tt

line_within : (stage : Stage) (line : Line) → IsLineAt stage line → IsLineWithin line
line_within stage (Head head) at = tt
line_within stage (Happen event) at = at.1
line_within stage Acted at = tt
line_within stage End at = tt

pub IsLineWithin-from : (stage : Stage) (text : List ℕ) (result : Result Line LineRefusal) → IsSaid stage text result → IfOk result IsLineWithin
IsLineWithin-from stage text (Ok line) says = line_within stage line (said_at-is stage text line says)
IsLineWithin-from stage text (Err refusal) says = tt

-- a line that was read is interpreted by what it says, and one that was not is refused
pub said_interpreted : (before next : Kept) (text pending later : List ℕ) (line : Line) (result : Result (Unit {0}) Stop) → IsSaid before.stage text (Ok line) →
    IsInterpreted (line_means [] before text line) next pending later result → IsInterpreted (played [] before text) next pending later result
said_interpreted before next text pending later line result says is =
    subst (λ (r : Result Line LineRefusal). IsInterpreted (if_read r (line_means [] before text)) next pending later result) (sym says) is

pub refusal_interpreted : (before : Kept) (text pending : List ℕ) (refusal : LineRefusal) → IsSaid before.stage text (Err refusal) →
    IsInterpreted (played [] before text) before pending pending (Err (stop_of refusal))
refusal_interpreted before text pending (BadWord place) says = (ap (λ (r : Result Line LineRefusal). if_read r (line_means [] before text)) says, refl)
refusal_interpreted before text pending (BadNumber place) says = (ap (λ (r : Result Line LineRefusal). if_read r (line_means [] before text)) says, refl)
refusal_interpreted before text pending BadTargets says = (ap (λ (r : Result Line LineRefusal). if_read r (line_means [] before text)) says, refl)
refusal_interpreted before text pending OutOfOrder says = (ap (λ (r : Result Line LineRefusal). if_read r (line_means [] before text)) says, refl)
refusal_interpreted before text pending NoMemory says = refl

kept_is : (next : Kept) (stage : Stage) (heads : List HeadLine) (engine : Option Begun) → next.stage ≡ stage → next.heads ≡ heads → next.engine ≡ engine →
    record { stage = stage; heads = heads; engine = engine } ≡ next
kept_is next stage heads engine s h e = rw (← s, ← h, ← e) refl

-- a line of the head was taken
pub head_interpreted : (before next : Kept) (text : List ℕ) (line : Line) (head : HeadLine) → line ≡ Head head → next.stage ≡ stage_after before.stage (Head head) →
    next.heads ≡ before.heads ++ head ∷ [] → next.engine ≡ before.engine → line_means [] before text line ≡ goes_on next (text ∷ [])
head_interpreted before next text line head is stage heads engine =
    ap (line_means [] before text) is
    ∙ ap (λ (k : Kept). goes_on k (text ∷ [])) (kept_is next (stage_after before.stage (Head head)) (before.heads ++ head ∷ []) before.engine stage heads engine)

-- an event was taken
pub event_interpreted : (before next : Kept) (text pending later : List ℕ) (event : Event) → events_taken before.engine < most_events →
    next.stage ≡ stage_after before.stage (Happen event) → next.heads ≡ before.heads → next.engine ≡ Some (stepped before event) →
    later ≡ pending ++ ended_lines (told_event (text, (step (machine_before before) event).actions)) → (last : List (List ℕ)) →
    IsInterpreted (line_means last before text (Happen event)) next pending later (Ok tt)
event_interpreted before next text pending later event few stage heads engine says last =
    let told = told_event (text, (step (machine_before before) event).actions) in (
      told,
      rw (lt-leb most_events (events_taken before.engine) few)
          (ap (λ (k : Kept). goes_on k told) (kept_is next (stage_after before.stage (Happen event)) before.heads (Some (stepped before event)) stage heads engine)),
      says,
    )

pub happen_interpreted : (before next : Kept) (text pending later : List ℕ) (line : Line) (event : Event) (result : Result (Unit {0}) Stop) → line ≡ Happen event →
    IsInterpreted (line_means [] before text (Happen event)) next pending later result → IsInterpreted (line_means [] before text line) next pending later result
happen_interpreted before next text pending later line event result is done =
    subst (λ (l : Line). IsInterpreted (line_means [] before text l) next pending later result) (sym is) done

-- what each line finds
pub heads_kept : (last : List (List ℕ)) (before next : Kept) (text pending later : List ℕ) (result : Result (Unit {0}) Stop) → AreHeads before.stage before.heads →
    IsInterpreted (played last before text) next pending later result → OnOk result (AreHeads next.stage next.heads)
heads_kept last before next text pending later (Ok done) h is = heads_next last before next text is.0 h is.1
heads_kept last before next text pending later (Err stop) h is = tt
