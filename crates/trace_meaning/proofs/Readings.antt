-- Lines read one after another, and what lines that pass leave behind.
use Rattle.std.proofs.Common.{◌≡◌, ℕ, Bool, true, false, cond, List, [], ◌∷◌, ◌++◌, length, Some, None, Result, Ok, Err, ◌⊎◌, inl, inr, ⊎_elim, refl, ap}
use Rattle.std.specs.List.{cons_option}
use Rattle.std.proofs.lemmas.Bool.{both_ways, eqb-false}
use Rattle.std.proofs.lemmas.List.{append_assoc, append-nil}
use Rattle.std.proofs.lemmas.List.Elements.{filter_map-append}
use Rattle.net_base.specs.declared.event.Event.{Event}
use Rattle.trace_text.specs.Stages.{first_stage, stage_after}
use Rattle.trace_text.specs.declared.line.HeadLine.{HeadLine}
use Rattle.trace_text.specs.declared.line.HeadLine.TheVariants.{Trace, Own, Set}
use Rattle.trace_text.specs.declared.line.Line.{Line}
use Rattle.trace_text.specs.declared.line.Line.TheVariants.{Head, Happen, Acted, End}
use Rattle.trace_text.specs.declared.line.LineRefusal.{LineRefusal}
use Rattle.trace_text.specs.declared.stage.Stage.{Stage}
use Rattle.trace_meaning.specs.Reading.{Reading, said_at, stage_past, reading_at, stage_behind, readings_from, head_in, event_in, heads_in, events_in}
use Rattle.line_run.specs.Judgement.{too_long, is_too_long}
use Rattle.trace_meaning.specs.Judgement.{verdict_by, verdict_at, number_behind}
use Rattle.trace_meaning.specs.Passing.{texts_of, PassBehind, ArePassed}
use Rattle.trace_meaning.proofs.Grammar.{IsBehindHead, IsHeadAt, IsLineAt, said_at-is}
use Rattle.trace_meaning.specs.Heads.{AreHeads}
use Rattle.trace_meaning.proofs.Heads.{AreHeads-none, AreHeads-more}

-- ---- lines appended

pub stage_behind-append : (xs ys : List Reading) (stage : Stage) → stage_behind (xs ++ ys) stage ≡ stage_behind ys (stage_behind xs stage)
unfolding stage_behind
stage_behind-append [] ys stage = refl
stage_behind-append (x ∷ xs) ys stage = stage_behind-append xs ys (stage_past stage x.says)

pub stage_behind-push : (xs : List Reading) (reading : Reading) (stage : Stage) → stage_behind (xs ++ reading ∷ []) stage ≡ stage_past (stage_behind xs stage) reading.says
unfolding stage_behind
stage_behind-push xs reading stage = stage_behind-append xs (reading ∷ []) stage

pub readings_from-append : (stage : Stage) (xs ys : List (List ℕ)) →
    readings_from stage (xs ++ ys) ≡ readings_from stage xs ++ readings_from (stage_behind (readings_from stage xs) stage) ys
unfolding readings_from stage_behind
readings_from-append stage [] ys = refl
readings_from-append stage (x ∷ xs) ys =
    ap (λ (rs : List Reading). reading_at stage x ∷ rs) (readings_from-append (stage_past stage (said_at stage x)) xs ys)

pub texts-readings_from : (stage : Stage) (xs : List (List ℕ)) → texts_of (readings_from stage xs) ≡ xs
unfolding readings_from
texts-readings_from stage [] = refl
texts-readings_from stage (x ∷ xs) = ap (λ (ys : List (List ℕ)). x ∷ ys) (texts-readings_from (stage_past stage (said_at stage x)) xs)

pub heads_in-append : (xs ys : List Reading) → heads_in (xs ++ ys) ≡ heads_in xs ++ heads_in ys
heads_in-append xs ys = filter_map-append (λ reading. head_in reading.says) xs ys

pub events_in-append : (xs ys : List Reading) → events_in (xs ++ ys) ≡ events_in xs ++ events_in ys
events_in-append xs ys = filter_map-append (λ reading. event_in reading.says) xs ys

-- ---- what passes

-- a line that passes is read, is not too long, and does not end the trace
pub record Passes (before : List Reading) (reading : Reading) : Type 0 where
  pub short : is_too_long (number_behind before) reading.text ≡ false
  pub by : verdict_by (number_behind before) (length (events_in before)) reading.says ≡ None

pub Passes-from : (before : List Reading) (reading : Reading) → verdict_at before reading ≡ None → Passes before reading
Passes-from before reading e = at_length (is_too_long (number_behind before) reading.text) refl e
  where
    at_length : (b : Bool) → is_too_long (number_behind before) reading.text ≡ b →
        cond b (Some (too_long (number_behind before))) (verdict_by (number_behind before) (length (events_in before)) reading.says) ≡ None →
        Passes before reading
    at_length true is e = absurd cc
    at_length false is e = record { short = is; by = e }

-- ---- what lines that pass leave behind

-- an event was read, so the head is over
pub record IsPastHead (stage : Stage) : Type 0 where
  pub behind : IsBehindHead stage
  pub events : stage.events ≡ true

-- the stage behind lines that pass, by what the head and the events among them say
pub record IsFront (stage : Stage) (heads : List HeadLine) (events : List Event) : Type 0 where
  pub head : AreHeads stage heads
  pub order : (events ≡ []) ⊎ IsPastHead stage

IsFront-none : IsFront first_stage [] []
IsFront-none = record { head = AreHeads-none; order = inl refl }

-- no line of the head stands behind an event
pub head_early : (stage : Stage) (head : HeadLine) → IsHeadAt stage head → IsPastHead stage → ⊥
head_early stage (Trace version) at past = eqb-false stage.seen 0 past.behind.no_first at.0
head_early stage (Own address) at past = eqb-false stage.seen 1 past.behind.no_second at
head_early stage (Set place value) at past = both_ways stage.events at.before_events past.events

pub no_events_before_head : (stage : Stage) (heads : List HeadLine) (events : List Event) (head : HeadLine) → IsFront stage heads events → IsHeadAt stage head → events ≡ []
no_events_before_head stage heads events head front at = ⊎_elim (λ none. none) (λ past. absurd (head_early stage head at past)) front.order

-- behind an event line the head is over
pub IsPastHead-event : (stage : Stage) (event : Event) → IsBehindHead stage → IsPastHead (stage_after stage (Happen event))
IsPastHead-event stage event behind = record { behind = record { no_first = behind.no_first; no_second = behind.no_second }; events = refl }

front_line : (stage : Stage) (heads : List HeadLine) (events : List Event) (line : Line) → IsFront stage heads events → IsLineAt stage line →
    IsFront (stage_after stage line) (heads ++ cons_option (head_in (Ok line)) []) (events ++ cons_option (event_in (Ok line)) [])
front_line stage heads events (Head head) front at =
    let none = no_events_before_head stage heads events head front at in
    record { head = AreHeads-more stage heads head at front.head; order = inl (ap (λ (es : List Event). es ++ []) none) }
front_line stage heads events (Happen event) front at = record {
  head = rw (append-nil heads) (record {
    seen = front.head.seen;
    none_before = front.head.none_before;
    version_least = front.head.version_least;
    version_most = front.head.version_most;
    hard = front.head.hard;
    none_later = front.head.none_later;
    in_range = front.head.in_range;
  });
  order = inr (IsPastHead-event stage event at.0);
}
front_line stage heads events Acted front at = rw (append-nil heads, append-nil events) front
front_line stage heads events End front at = rw (append-nil heads, append-nil events) front

abbrev pub AreFront : List Reading → Type 0
AreFront readings = IsFront (stage_behind readings first_stage) (heads_in readings) (events_in readings)

pub AreFront-none : AreFront []
unfolding stage_behind
AreFront-none = IsFront-none

-- a line that passes is one of the grammar
pub line_at : (before : List Reading) (stage : Stage) (text : List ℕ) → Passes before (reading_at stage text) →
    (line : Line) × (said_at stage text ≡ Ok line) × IsLineAt stage line
line_at before stage text passes = by_cases (said_at stage text) refl passes.by
  where
    by_cases : (says : Result Line LineRefusal) → said_at stage text ≡ says → verdict_by (number_behind before) (length (events_in before)) says ≡ None →
        (line : Line) × (said_at stage text ≡ Ok line) × IsLineAt stage line
    by_cases (Ok line) is e = (line, is, said_at-is stage text line is)
    by_cases (Err refusal) is e = absurd cc

-- behind lines of a front, one that says something
pub AreFront-said : (before : List Reading) (text : List ℕ) (line : Line) → said_at (stage_behind before first_stage) text ≡ Ok line → AreFront before →
    AreFront (before ++ record { text = text; says = Ok line } ∷ [])
AreFront-said before text line said front =
    let reading : Reading = record { text = text; says = Ok line } in
    let next = front_line (stage_behind before first_stage) (heads_in before) (events_in before) line front (said_at-is (stage_behind before first_stage) text line said) in
    rw (stage_behind-push before reading first_stage, heads_in-append before (reading ∷ []), events_in-append before (reading ∷ [])) next

pub AreFront-more : (before : List Reading) (text : List ℕ) → AreFront before → Passes before (reading_at (stage_behind before first_stage) text) →
    AreFront (before ++ reading_at (stage_behind before first_stage) text ∷ [])
AreFront-more before text front passes =
    let stage = stage_behind before first_stage in
    let found = line_at before stage text passes in
    let reading = reading_at stage text in
    let next = front_line stage (heads_in before) (events_in before) found.0 front found.2 in
    rw (stage_behind-push before reading first_stage, heads_in-append before (reading ∷ []), events_in-append before (reading ∷ []), found.1) next

-- ---- induction over lines that pass

pub passed_behind : (P : List Reading → Type 0) →
    ((before : List Reading) (text : List ℕ) → P before → Passes before (reading_at (stage_behind before first_stage) text) →
    P (before ++ reading_at (stage_behind before first_stage) text ∷ [])) →
    (before : List Reading) (texts : List (List ℕ)) → P before → PassBehind before (readings_from (stage_behind before first_stage) texts) →
    P (before ++ readings_from (stage_behind before first_stage) texts)
unfolding readings_from PassBehind
passed_behind P step before [] at pass = rw (append-nil before) at
passed_behind P step before (text ∷ texts) at pass =
    let reading = reading_at (stage_behind before first_stage) text in
    let next : P (before ++ reading ∷ []) = step before text at (Passes-from before reading pass.0) in
    let stage : stage_behind (before ++ reading ∷ []) first_stage ≡ stage_past (stage_behind before first_stage) reading.says = stage_behind-push before reading first_stage in
    let later : PassBehind (before ++ reading ∷ []) (readings_from (stage_behind (before ++ reading ∷ []) first_stage) texts) = rw stage pass.1 in
    let all = passed_behind P step (before ++ reading ∷ []) texts next later in
    let joined = rw (stage, append_assoc) at all in
    joined

pub AreFront-passed : (readings : List Reading) → ArePassed readings → AreFront readings
unfolding stage_behind
AreFront-passed readings passed =
    let all = passed_behind AreFront AreFront-more [] (texts_of readings) AreFront-none (rw (← passed.read) passed.pass) in
    rw passed.read all
