-- The text of a run is read as the settings, the events and the actions that it was written of, and agrees.
use Rattle.std.proofs.Common.{◌≡◌, ℕ, ◌+◌, ◌^◌, ◌<◌, ◌≤◌, Bool, true, false, cond, leb, List, [], ◌∷◌, ◌++◌, length, map, All, Some, None, Ok, inl, inr, refl, sym, ap, ◌∙◌, subst, arith}
use Rattle.std.specs.Prelude.{codes}
use Rattle.std.specs.List.{flat_map, zip}
use Rattle.std.proofs.lemmas.Bool.{leb-true}
use Rattle.std.proofs.lemmas.List.{append_assoc, append-nil, length-append, map-append}
use Rattle.std.proofs.lemmas.List.Elements.{All-head, All-tail, All-append, All-map, All-weaker}
use Rattle.std.proofs.lemmas.List.Concat.{flat_map-append}
use Rattle.io_edge.specs.Lines.{HasNoLineFeed, ended_lines}
use Rattle.machine.specs.Machine.{Machine, start_of}
use Rattle.machine.specs.Run.{actions_of}
use Rattle.net_base.specs.Bounds.{AreSound}
use Rattle.net_base.specs.Limits.{IsWithinLimits}
use Rattle.net_base.specs.declared.address.Ip.{Ip}
use Rattle.net_base.specs.declared.address.Ip.TheVariants.{V4, V6}
use Rattle.net_base.specs.declared.event.Event.{Event}
use Rattle.net_base.specs.declared.settings.Settings.{Settings}
use Rattle.trace_text.specs.Addresses.{IsAddress, knows_family}
use Rattle.trace_text.specs.EventTexts.{IsKnownIn, IsEventIn, printed_event}
use Rattle.trace_text.specs.HeadTexts.{AreRead, head_lines, head_said}
use Rattle.trace_text.specs.Lines.{line_of}
use Rattle.trace_text.specs.Stages.{first_stage, stage_after}
use Rattle.trace_text.specs.declared.line.HeadLine.{HeadLine}
use Rattle.trace_text.specs.declared.line.Line.{Line}
use Rattle.trace_text.specs.declared.line.Line.TheVariants.{Head, Happen}
use Rattle.trace_text.specs.declared.stage.Stage.{Stage}
use Rattle.trace_text.proofs.EventLines.{printed_event-no_feed}
use Rattle.trace_text.proofs.HeadLaws.{head_again, head_lines-no_feed}
use Rattle.trace_text.proofs.LineLaws.{line_again}
use Rattle.trace_text.proofs.SettingLaws.{check_within}
use Rattle.trace_compare.specs.Again.{FitsTrace}
use Rattle.trace_compare.specs.RunText.{text_of, whole_text}
use Rattle.line_run.specs.Judgement.{too_long}
use Rattle.trace_meaning.specs.Judgement.{most_events, verdict_by}
use Rattle.trace_meaning.specs.Output.{head_texts, event_texts, start_in, told_event, lines_for}
use Rattle.trace_meaning.specs.Passing.{texts_of}
use Rattle.trace_meaning.specs.Reading.{Reading, said_at, stage_behind, heads_in, events_in}
use Rattle.trace_meaning.specs.Settings.{settings_in}
use Rattle.trace_compare.specs.Compare.{comparison_for}
use Rattle.trace_compare.specs.Compare.{outcome_told}
use Rattle.trace_compare.specs.Written.{CanHold, FitsVersion, IsTraceable, IsAgreeing}
use Rattle.trace_compare.proofs.Again.{AreReadAgain, AreReadAgain-none, AreReadAgain-said, ended_output, their_output}
use Rattle.trace_compare.proofs.Comparing.{compared_ended}
use Rattle.trace_meaning.proofs.Grammar.{IsBehindHead}
use Rattle.trace_meaning.proofs.Outputs.{head_texts-append, event_texts-append}
use Rattle.trace_meaning.proofs.Readings.{stage_behind-push, heads_in-append, events_in-append}

-- ---- the lines of a run without its actions, as they are read

abbrev head_reading : List ℕ → HeadLine → Reading
head_reading text head = record { text = text; says = Ok (Head head) }

abbrev head_readings : List (List ℕ) → List HeadLine → List Reading
head_readings [] heads = []
head_readings (text ∷ lines) [] = []
head_readings (text ∷ lines) (head ∷ heads) = head_reading text head ∷ head_readings lines heads

abbrev event_reading : Event → Reading
event_reading event = record { text = printed_event event; says = Ok (Happen event) }

abbrev heads_of : Settings → List Reading
heads_of s = head_readings (head_lines s) (head_said s)

abbrev run_of : Settings → List Event → List Reading
run_of s events = heads_of s ++ map event_reading events

-- ---- the head is read

is_said : (stage : Stage) (text : List ℕ) (line : Line) → line_of stage text ≡ Ok line → said_at stage text ≡ Ok line
unfolding said_at
is_said stage text line e = e

heads_again : (before : List Reading) (lines : List (List ℕ)) (heads : List HeadLine) → AreRead (stage_behind before first_stage) lines heads → AreReadAgain before →
    AreReadAgain (before ++ head_readings lines heads)
heads_again before [] [] read again = subst AreReadAgain (sym (append-nil before)) again
heads_again before [] (head ∷ heads) read again = absurd read
heads_again before (line ∷ lines) [] read again = absurd read
heads_again before (line ∷ lines) (head ∷ heads) read again =
    let reading = head_reading line head in
    let more = AreReadAgain-said before line (Head head) 0 (is_said (stage_behind before first_stage) line (Head head) read.0) refl again in
    let stage : stage_behind (before ++ reading ∷ []) first_stage ≡ stage_after (stage_behind before first_stage) (Head head) = stage_behind-push before reading first_stage in
    subst AreReadAgain (append_assoc before (reading ∷ []) (head_readings lines heads))
    (heads_again (before ++ reading ∷ []) lines heads (subst (λ (st : Stage). AreRead st lines heads) (sym stage) read.1) more)

-- the stage behind the head of settings
head_stage : (s : Settings) → stage_behind (heads_of s) first_stage ≡ record { version = s.version; seen = 2; last = 13; hard = s.hard; events = false }
unfolding stage_behind
head_stage s = refl

heads_read : (s : Settings) → AreSound s → IsKnownIn s.version s.own → AreReadAgain (heads_of s)
unfolding stage_behind
heads_read s sound own = heads_again [] (head_lines s) (head_said s) (head_again s sound own.0 own.1) AreReadAgain-none

-- ---- the events are read

-- behind the head of a trace of a version
record IsOpenTo (version : ℕ) (stage : Stage) : Type 0 where
  seen : 2 ≤ stage.seen
  version_is : stage.version ≡ version
  hard : stage.hard < 2 ^ 64

open_behind_head : (s : Settings) → AreSound s → IsOpenTo s.version (stage_behind (heads_of s) first_stage)
open_behind_head s sound =
    let h = check_within s sound in
    let hard : s.hard < 2 ^ 64 = omega (arith, h.2.2.2.1) in
    subst (IsOpenTo s.version) (sym (head_stage s)) (record { seen = omega arith; version_is = refl; hard = hard })

event_said : (version : ℕ) (stage : Stage) (event : Event) → IsOpenTo version stage → IsWithinLimits event → IsEventIn version event →
    said_at stage (printed_event event) ≡ Ok (Happen event)
event_said version stage event at limits known =
    is_said stage (printed_event event) (Happen event)
    (line_again stage (printed_event event) (Happen event) at.hard
    (at.seen, record { limits = limits; known = subst (λ (v : ℕ). IsEventIn v event) (sym at.version_is) known }, refl))

-- the events before it are not too many
passes_few : (event : Event) (count : ℕ) → count < most_events → verdict_by 0 count (Ok (Happen event)) ≡ None
passes_few event count few = by_test (leb most_events count) refl
  where
    by_test : (b : Bool) → leb most_events count ≡ b → cond b (Some (too_long 0)) None ≡ None
    by_test true is = absurd (let least = leb-true most_events count is in omega (arith, few, least))
    by_test false is = refl

events_again : (version : ℕ) (before : List Reading) (events : List Event) → IsOpenTo version (stage_behind before first_stage) →
    length (events_in before) + length events ≤ most_events → All IsWithinLimits events → All (IsEventIn version) events → AreReadAgain before →
    AreReadAgain (before ++ map event_reading events)
events_again version before [] at few limits known again = subst AreReadAgain (sym (append-nil before)) again
events_again version before (event ∷ events) at few limits known again =
    let reading = event_reading event in
    let stage = stage_behind before first_stage in
    let says = event_said version stage event at (All-head IsWithinLimits event events limits) (All-head (IsEventIn version) event events known) in
    let passes = passes_few event (length (events_in before)) (omega (arith, few)) in
    let more = AreReadAgain-said before (printed_event event) (Happen event) 0 says passes again in
    let after : stage_behind (before ++ reading ∷ []) first_stage ≡ stage_after stage (Happen event) = stage_behind-push before reading first_stage in
    let opened : IsOpenTo version (stage_after stage (Happen event)) = record { seen = at.seen; version_is = at.version_is; hard = at.hard } in
    let count : length (events_in (before ++ reading ∷ [])) ≡ length (events_in before) + 1 =
    ap (λ (es : List Event). length es) (events_in-append before (reading ∷ [])) ∙ length-append (events_in before) (event ∷ []) in
    subst AreReadAgain (append_assoc before (reading ∷ []) (map event_reading events))
    (events_again version (before ++ reading ∷ []) events (subst (IsOpenTo version) (sym after) opened) (omega (arith, few, count))
    (All-tail IsWithinLimits event events limits) (All-tail (IsEventIn version) event events known) more)

-- ---- what they are together

heads_in-events : (events : List Event) → heads_in (map event_reading events) ≡ []
heads_in-events [] = refl
heads_in-events (event ∷ events) = heads_in-events events

events_in-events : (events : List Event) → events_in (map event_reading events) ≡ events
events_in-events [] = refl
events_in-events (event ∷ events) = ap (λ (es : List Event). event ∷ es) (events_in-events events)

head_texts-events : (events : List Event) → head_texts (map event_reading events) ≡ []
head_texts-events [] = refl
head_texts-events (event ∷ events) = head_texts-events events

event_texts-events : (events : List Event) → event_texts (map event_reading events) ≡ map printed_event events
event_texts-events [] = refl
event_texts-events (event ∷ events) = ap (λ (ls : List (List ℕ)). printed_event event ∷ ls) (event_texts-events events)

texts_of-events : (events : List Event) → texts_of (map event_reading events) ≡ map printed_event events
texts_of-events [] = refl
texts_of-events (event ∷ events) = ap (λ (ls : List (List ℕ)). printed_event event ∷ ls) (texts_of-events events)

settings_again : (s : Settings) → settings_in (head_said s) ≡ s
settings_again s = refl

lines_from : (readings : List Reading) (heads texts : List (List ℕ)) (start : Machine) (events : List Event) → head_texts readings ≡ heads → event_texts readings ≡ texts →
    start_in readings ≡ start → events_in readings ≡ events → lines_for readings ≡ heads ++ flat_map told_event (zip texts (actions_of start events))
lines_from readings heads texts start events h t m e = rw (h, t, m, e) refl

module _ (s : Settings) (events : List Event) where
  heads_are : heads_in (run_of s events) ≡ head_said s
  heads_are = heads_in-append (heads_of s) (map event_reading events) ∙ ap (λ (hs : List HeadLine). head_said s ++ hs) (heads_in-events events) ∙ append-nil (head_said s)

  events_are : events_in (run_of s events) ≡ events
  events_are = events_in-append (heads_of s) (map event_reading events) ∙ events_in-events events

  head_texts_are : head_texts (run_of s events) ≡ head_lines s
  head_texts_are =
      head_texts-append (heads_of s) (map event_reading events) ∙ ap (λ (ls : List (List ℕ)). head_lines s ++ ls) (head_texts-events events) ∙ append-nil (head_lines s)

  event_texts_are : event_texts (run_of s events) ≡ map printed_event events
  event_texts_are = event_texts-append (heads_of s) (map event_reading events) ∙ event_texts-events events

  start_is : start_in (run_of s events) ≡ start_of s
  start_is = ap (λ (hs : List HeadLine). start_of (settings_in hs)) heads_are ∙ ap (λ (settings : Settings). start_of settings) (settings_again s)

  lines_are : lines_for (run_of s events) ≡ head_lines s ++ flat_map told_event (zip (map printed_event events) (actions_of (start_of s) events))
  lines_are = lines_from (run_of s events) (head_lines s) (map printed_event events) (start_of s) events head_texts_are event_texts_are start_is events_are

  text_is : ended_output (run_of s events) ≡ whole_text s events
  unfolding text_of
  text_is =
      let told = flat_map told_event (zip (map printed_event events) (actions_of (start_of s) events)) in
      let each : List ℕ → List ℕ = λ line. line ++ 10 ∷ [] in
      flat_map-append each (lines_for (run_of s events)) (codes "end" ∷ [])
      ∙ ap (λ (ls : List (List ℕ)). ended_lines ls ++ ended_lines (codes "end" ∷ [])) lines_are
      ∙ ap (λ (text : List ℕ). text ++ ended_lines (codes "end" ∷ [])) (flat_map-append each (head_lines s) told)

  -- no line feed stands in a line
  clean : All HasNoLineFeed (texts_of (run_of s events))
  clean =
      let all = All-append HasNoLineFeed (head_lines s) (map printed_event events) (head_lines-no_feed s)
      (All-map HasNoLineFeed printed_event events (λ k d inside. printed_event-no_feed _)) in
      subst (All HasNoLineFeed) (sym (map-append (λ (r : Reading). r.text) (heads_of s) (map event_reading events)
      ∙ ap (λ (ls : List (List ℕ)). head_lines s ++ ls) (texts_of-events events))) all

  read_again : AreSound s → CanHold s.version s.own events → All IsWithinLimits events → length events ≤ most_events → AreReadAgain (run_of s events)
  read_again sound can limits few =
      events_again s.version (heads_of s) events (open_behind_head s sound) (omega (arith, few)) limits can.events_known (heads_read s sound can.own_known)

  behind : IsBehindHead (stage_behind (run_of s events) first_stage)
  behind = all_behind (heads_of s) events (rw (head_stage s) (record { no_first = refl; no_second = refl }))
    where
      all_behind : (before : List Reading) (es : List Event) → IsBehindHead (stage_behind before first_stage) → IsBehindHead (stage_behind (before ++ map event_reading es) first_stage)
      all_behind before [] at = subst (λ (rs : List Reading). IsBehindHead (stage_behind rs first_stage)) (sym (append-nil before)) at
      all_behind before (event ∷ es) at =
          let reading = event_reading event in
          let after : stage_behind (before ++ reading ∷ []) first_stage ≡ stage_after (stage_behind before first_stage) (Happen event) = stage_behind-push before reading first_stage in
          let next : IsBehindHead (stage_after (stage_behind before first_stage) (Happen event)) = record { no_first = at.no_first; no_second = at.no_second } in
          subst (λ (rs : List Reading). IsBehindHead (stage_behind rs first_stage)) (append_assoc before (reading ∷ []) (map event_reading es))
          (all_behind (before ++ reading ∷ []) es (subst IsBehindHead (sym after) next))

  pub text_agrees : AreSound s → CanHold s.version s.own events → All IsWithinLimits events → length events ≤ most_events → FitsTrace (whole_text s events) →
      IsAgreeing (whole_text s events)
  text_agrees sound can limits few fits =
      let read = their_output (run_of s events) (read_again sound can limits few) clean behind (subst FitsTrace (sym text_is) fits) in
      subst IsAgreeing text_is (ap outcome_told (ap comparison_for read.ends ∙ compared_ended read.readings read.same))

-- ---- what the code can hold

family_two : (ip : Ip) → knows_family 2 ip ≡ true
family_two (V4 ip) = refl
family_two (V6 ip) = refl

of_version_two : (s : Settings) (events : List Event) → s.version ≡ 2 → IsAddress s.own → All IsTraceable events → CanHold s.version s.own events
of_version_two s events two own traceable = record {
  own_known = (own, subst (λ (v : ℕ). knows_family v s.own.ip ≡ true) (sym two) (family_two s.own.ip));
  events_known = subst (λ (v : ℕ). All (IsEventIn v) events) (sym two) (All-weaker IsTraceable (IsEventIn 2) (λ event h. h.1) events traceable);
}

pub whole_agrees : (s : Settings) (events : List Event) → AreSound s → IsAddress s.own → All IsTraceable events → length events ≤ most_events → FitsVersion s events →
    FitsTrace (whole_text s events) → IsAgreeing (whole_text s events)
whole_agrees s events sound own traceable few version fits =
    text_agrees s events sound (can version) (All-weaker IsTraceable IsWithinLimits (λ event h. h.0) events traceable) few fits
  where
    can : FitsVersion s events → CanHold s.version s.own events
    can (inl two) = of_version_two s events two own traceable
    can (inr known) = known
