-- What a line that passes adds to the output, and how the lines of the output go on behind it.
use Rattle.std.proofs.Common.{◌≡◌, ℕ, ◌+◌, true, false, List, [], ◌∷◌, ◌++◌, length, map, All, None, Ok, ◌⊎◌, inl, inr, refl, sym, ap, ◌∙◌, arith}
use Rattle.std.specs.List.{filter}
use Rattle.std.proofs.lemmas.List.{append_assoc, append-nil, length-append, length_push}
use Rattle.std.proofs.lemmas.List.Elements.{All-nil, filter-append}
use Rattle.machine.specs.Run.{after_all}
use Rattle.machine.specs.Step.{step}
use Rattle.trace_text.specs.Actions.{printed_action}
use Rattle.trace_text.specs.Lines.{is_action_line}
use Rattle.trace_text.specs.Stages.{first_stage}
use Rattle.trace_text.specs.declared.line.Line.{Line}
use Rattle.trace_text.specs.declared.line.Line.TheVariants.{Head, Happen, Acted, End}
use Rattle.trace_meaning.specs.Reading.{Reading, said_at, reading_at, stage_behind, readings_from, heads_in, events_in}
use Rattle.line_run.specs.Judgement.{Verdict, ended, differed, refused, too_long}
use Rattle.trace_meaning.specs.Judgement.{verdict_by, number_behind}
use Rattle.trace_meaning.specs.Output.{start_in, lines_for, last_lines}
use Rattle.trace_meaning.specs.Passing.{texts_of, PassBehind, ArePassed}
use Rattle.trace_compare.specs.Compare.{is_acted, actions_in}
use Rattle.trace_compare.specs.Compare.{IsAction}
use Rattle.trace_compare.proofs.ActionLines.{quiet_text, acted_begins, all_actions}
use Rattle.trace_meaning.proofs.Grammar.{IsLineAt}
use Rattle.trace_meaning.proofs.Outputs.{lines_for-head, lines_for-acted, lines_for-event, told_behind}
use Rattle.trace_meaning.proofs.Readings.{heads_in-append, events_in-append, Passes, AreFront, AreFront-none, AreFront-more, no_events_before_head, line_at, passed_behind}

-- nothing where it is an action line, else itself, and action lines below it
abbrev pub IsAdded : List ℕ → List (List ℕ) → Type 0
IsAdded text lines =
    ((lines ≡ []) × (is_action_line text ≡ true))
    ⊎ ((below : List (List ℕ)) × (lines ≡ text ∷ below) × All IsAction below × (is_action_line text ≡ false))

pub record Adds (readings : List Reading) (reading : Reading) : Type 0 where
  pub lines : List (List ℕ)
  pub output : lines_for (readings ++ reading ∷ []) ≡ lines_for readings ++ lines
  pub kind : IsAdded reading.text lines

said_adds : (readings : List Reading) (text : List ℕ) (line : Line) (n : ℕ) → said_at (stage_behind readings first_stage) text ≡ Ok line → AreFront readings →
    IsLineAt (stage_behind readings first_stage) line → verdict_by n (length (events_in readings)) (Ok line) ≡ None → Adds readings (record { text = text; says = Ok line })
unfolding told_behind
said_adds readings text (Head head) n said front at passes = record {
  lines = text ∷ [];
  output = lines_for-head readings text head (no_events_before_head _ _ (events_in readings) head front at);
  kind = inr ([], refl, All-nil IsAction, quiet_text _ text (Head head) said (λ e. cc));
}
said_adds readings text (Happen event) n said front at passes =
    let actions = (step (after_all (start_in readings) (events_in readings)) event).actions in
    record {
      lines = told_behind readings text event;
      output = lines_for-event readings text event;
      kind = inr (map printed_action actions, refl, all_actions actions, quiet_text _ text (Happen event) said (λ e. cc));
    }
said_adds readings text Acted n said front at passes = record {
  lines = [];
  output = lines_for-acted readings text ∙ sym (append-nil (lines_for readings));
  kind = inl (refl, acted_begins _ text said);
}
said_adds readings text End n said front at passes = absurd cc

pub adds : (readings : List Reading) (text : List ℕ) → AreFront readings → Passes readings (reading_at (stage_behind readings first_stage) text) →
    Adds readings (reading_at (stage_behind readings first_stage) text)
adds readings text front passes =
    let stage = stage_behind readings first_stage in
    let found = line_at readings stage text passes in
    let by : verdict_by (number_behind readings) (length (events_in readings)) (Ok found.0) ≡ None = rw (← found.1) passes.by in
    rw found.1 (said_adds readings text found.0 (number_behind readings) found.1 front found.2 by)

-- ---- how many lines there are

-- each line that passes is one of the head, an event or an action
record AreCounted (readings : List Reading) : Type 0 where
  front : AreFront readings
  count : length readings ≡ length (heads_in readings) + length (events_in readings) + actions_in readings

actions_in-append : (xs ys : List Reading) → actions_in (xs ++ ys) ≡ actions_in xs + actions_in ys
actions_in-append xs ys =
    ap (λ (rs : List Reading). length rs) (filter-append (λ (reading : Reading). is_acted reading.says) xs ys)
    ∙ length-append (filter (λ (reading : Reading). is_acted reading.says) xs) (filter (λ (reading : Reading). is_acted reading.says) ys)

-- how many more a line makes
record Counts (readings : List Reading) (reading : Reading) (heads events actions : ℕ) : Type 0 where
  head_lines : length (heads_in (readings ++ reading ∷ [])) ≡ length (heads_in readings) + heads
  event_lines : length (events_in (readings ++ reading ∷ [])) ≡ length (events_in readings) + events
  action_lines : actions_in (readings ++ reading ∷ []) ≡ actions_in readings + actions

counts : (readings : List Reading) (reading : Reading) → Counts readings reading (length (heads_in (reading ∷ []))) (length (events_in (reading ∷ []))) (actions_in (reading ∷ []))
counts readings reading = record {
  head_lines = ap length (heads_in-append readings (reading ∷ [])) ∙ length-append (heads_in readings) (heads_in (reading ∷ []));
  event_lines = ap length (events_in-append readings (reading ∷ [])) ∙ length-append (events_in readings) (events_in (reading ∷ []));
  action_lines = actions_in-append readings (reading ∷ []);
}

counted_by : (readings : List Reading) (reading : Reading) (heads events actions : ℕ) → Counts readings reading heads events actions → heads + events + actions ≡ 1 →
    length readings ≡ length (heads_in readings) + length (events_in readings) + actions_in readings →
    length (readings ++ reading ∷ []) ≡ length (heads_in (readings ++ reading ∷ [])) + length (events_in (readings ++ reading ∷ [])) + actions_in (readings ++ reading ∷ [])
counted_by readings reading heads events actions more one before =
    omega (arith, length_push readings reading, more.head_lines, more.event_lines, more.action_lines, one, before)

said_counted : (readings : List Reading) (text : List ℕ) (line : Line) (n : ℕ) → verdict_by n (length (events_in readings)) (Ok line) ≡ None →
    length readings ≡ length (heads_in readings) + length (events_in readings) + actions_in readings →
    let reading : Reading = record { text = text; says = Ok line } in
    length (readings ++ reading ∷ []) ≡ length (heads_in (readings ++ reading ∷ [])) + length (events_in (readings ++ reading ∷ [])) + actions_in (readings ++ reading ∷ [])
said_counted readings text (Head head) n passes before = counted_by readings (record { text = text; says = Ok (Head head) }) 1 0 0 (counts readings _) refl before
said_counted readings text (Happen event) n passes before = counted_by readings (record { text = text; says = Ok (Happen event) }) 0 1 0 (counts readings _) refl before
said_counted readings text Acted n passes before = counted_by readings (record { text = text; says = Ok Acted }) 0 0 1 (counts readings _) refl before
said_counted readings text End n passes before = absurd cc

AreCounted-more : (before : List Reading) (text : List ℕ) → AreCounted before → Passes before (reading_at (stage_behind before first_stage) text) →
    AreCounted (before ++ reading_at (stage_behind before first_stage) text ∷ [])
AreCounted-more before text counted passes =
    let stage = stage_behind before first_stage in
    let found = line_at before stage text passes in
    let by : verdict_by (number_behind before) (length (events_in before)) (Ok found.0) ≡ None = rw (← found.1) passes.by in
    let said = said_counted before text found.0 (number_behind before) by counted.count in
    record { front = AreFront-more before text counted.front passes; count = rw found.1 said }

pub lines_counted : (readings : List Reading) → ArePassed readings → length readings ≡ length (heads_in readings) + length (events_in readings) + actions_in readings
unfolding stage_behind
lines_counted readings passed =
    let all = passed_behind AreCounted AreCounted-more [] (texts_of readings) (record { front = AreFront-none; count = refl }) (rw (← passed.read) passed.pass) in
    let counted : AreCounted readings = rw passed.read all in
    counted.count

-- ---- what comes behind

-- the first of these lines, if any, is none of an action
abbrev pub BeginsQuietly : List (List ℕ) → Type 0
BeginsQuietly [] = Unit {0}
BeginsQuietly (line ∷ lines) = is_action_line line ≡ false

-- the output grew, by lines of which the first is none of an action
record GrowsQuietly (front readings : List Reading) : Type 0 where
  is_front : AreFront readings
  rest : List (List ℕ)
  split : lines_for readings ≡ lines_for front ++ rest
  quiet : BeginsQuietly rest

BeginsQuietly-more : (rest : List (List ℕ)) (text : List ℕ) (lines : List (List ℕ)) → BeginsQuietly rest → IsAdded text lines → BeginsQuietly (rest ++ lines)
BeginsQuietly-more [] text lines quiet (inl none) = rw none.0 tt
BeginsQuietly-more [] text lines quiet (inr some) = rw some.1 some.3
BeginsQuietly-more (first ∷ rest) text lines quiet added = quiet

GrowsQuietly-more : (front before : List Reading) (text : List ℕ) → GrowsQuietly front before → Passes before (reading_at (stage_behind before first_stage) text) →
    GrowsQuietly front (before ++ reading_at (stage_behind before first_stage) text ∷ [])
GrowsQuietly-more front before text grown passes =
    let added = adds before text grown.is_front passes in
    record {
      is_front = AreFront-more before text grown.is_front passes;
      rest = grown.rest ++ added.lines;
      split = added.output ∙ ap (λ (ls : List (List ℕ)). ls ++ added.lines) grown.split ∙ append_assoc (lines_for front) grown.rest added.lines;
      quiet = BeginsQuietly-more grown.rest text added.lines grown.quiet added.kind;
    }

-- what is written behind lines that pass
pub record GoesOnQuietly (front readings : List Reading) : Type 0 where
  pub rest : List (List ℕ)
  pub split : lines_for readings ≡ lines_for front ++ rest
  pub quiet : BeginsQuietly rest

pub goes_on_quietly : (readings : List Reading) (texts : List (List ℕ)) → AreFront readings → PassBehind readings (readings_from (stage_behind readings first_stage) texts) →
    GoesOnQuietly readings (readings ++ readings_from (stage_behind readings first_stage) texts)
goes_on_quietly readings texts front pass =
    let all = passed_behind (GrowsQuietly readings) (GrowsQuietly-more readings) readings texts
    (record { is_front = front; rest = []; split = sym (append-nil (lines_for readings)); quiet = tt }) pass in
    record { rest = all.rest; split = all.split; quiet = all.quiet }

-- and behind that the last line
pub BeginsQuietly-last : (rest : List (List ℕ)) (verdict : Verdict) → BeginsQuietly rest → BeginsQuietly (rest ++ last_lines verdict)
BeginsQuietly-last [] ended quiet = refl
BeginsQuietly-last [] (differed number) quiet = tt
BeginsQuietly-last [] (refused number kind) quiet = tt
BeginsQuietly-last [] (too_long number) quiet = tt
BeginsQuietly-last (first ∷ rest) verdict quiet = quiet
