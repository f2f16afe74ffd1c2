-- What a node has come to at its beginning, after one event more, and at its end.
use Rattle.std.proofs.Common.{◌≡◌, ℕ, ◌+◌, ◌≤◌, List, [], ◌∷◌, ◌++◌, Option, Some, inl, sym, ap, ◌∙◌, subst, arith}
use Rattle.std.specs.Prelude.{codes}
use Rattle.std.proofs.lemmas.List.{append_assoc, append-nil, length-append}
use Rattle.std.proofs.lemmas.List.Elements.{All-nil, All-append, All-cons}
use Rattle.io_edge.specs.Lines.{ended_lines}
use Rattle.io_edge.specs.Told.{Takes, TakesFront}
use Rattle.io_edge.proofs.ToldLemmas.{Takes-append}
use Rattle.machine.specs.Machine.{Machine, start_of}
use Rattle.machine.specs.Run.{after_all}
use Rattle.machine.specs.Step.{step}
use Rattle.net_base.specs.Bounds.{AreSound}
use Rattle.net_base.specs.Limits.{IsWithinLimits}
use Rattle.net_base.specs.declared.action.Action.{Action}
use Rattle.net_base.specs.declared.event.Event.{Event}
use Rattle.net_base.specs.declared.settings.Settings.{Settings}
use Rattle.network_sim.specs.Keeps.{KeepsOn}
use Rattle.network_sim.specs.Seat.{IsTraceOf, IsKept, HasRun, Agrees}
use Rattle.network_sim.specs.declared.kept.Kept.{Kept}
use Rattle.trace_compare.specs.Again.{FitsTrace}
use Rattle.trace_compare.specs.RunText.{event_text, text_of, whole_text}
use Rattle.trace_compare.specs.Written.{IsTraceable, IsAgreeing, TakesAgreeing}
use Rattle.trace_compare.proofs.RunTexts.{after_all-append, after_all-one, text_of-none, text_of-append, text_of-one}
use Rattle.trace_compare.proofs.Written.{whole_agrees}
use Rattle.trace_meaning.specs.Output.{told_event}
use Rattle.trace_text.specs.EventTexts.{printed_event, IsEventIn, IsKnownIn}
use Rattle.trace_text.specs.HeadTexts.{printed_head}

-- nothing has happened yet
pub has_begun : (s : Settings) (machine : Machine) (count : ℕ) (kept : Option Kept) → AreSound s → machine ≡ start_of s → count ≡ 0 → IsKept s [] kept →
    HasRun machine count kept
unfolding after_all
has_begun s machine count kept sound start none told = record {
  settings = s;
  events = [];
  sound = sound;
  counted = none;
  reached = start;
  told = told;
}

pub kept_first : (s : Settings) (kept : Kept) → s.version ≡ 2 → IsKnownIn 2 s.own → kept.head ≡ printed_head s → kept.lines ≡ [] → IsTraceOf s [] kept
kept_first s kept version own head lines = record {
  head = head;
  lines = lines ∙ sym (text_of-none (start_of s));
  version = version;
  own = own;
  traceable = All-nil IsTraceable;
}

-- what is told of an event is its text
told_text : (m : Machine) (event : Event) (actions : List Action) → actions ≡ (step m event).actions →
    ended_lines (told_event (printed_event event, actions)) ≡ event_text m event
unfolding event_text
told_text m event actions e = ap (λ (acts : List Action). ended_lines (told_event (printed_event event, acts))) e

pub kept_on : (s : Settings) (events : List Event) (event : Event) (actions : List Action) (before after : Kept) → IsWithinLimits event → IsEventIn 2 event →
    actions ≡ (step (after_all (start_of s) events) event).actions → after.head ≡ before.head →
    after.lines ≡ before.lines ++ ended_lines (told_event (printed_event event, actions)) → IsTraceOf s events before → IsTraceOf s (events ++ event ∷ []) after
kept_on s events event actions before after within known acts head lines t = record {
  head = head ∙ t.head;
  lines =
      let m : Machine = after_all (start_of s) events in
      lines
      ∙ ap (λ (text : List ℕ). text ++ ended_lines (told_event (printed_event event, actions))) t.lines
      ∙ ap (λ (text : List ℕ). text_of (start_of s) events ++ text) (told_text m event actions acts ∙ sym (text_of-one m event))
      ∙ sym (text_of-append (start_of s) events (event ∷ []));
  version = t.version;
  own = t.own;
  traceable = All-append IsTraceable events (event ∷ []) t.traceable (All-cons IsTraceable event [] (within, known) (All-nil IsTraceable));
}

-- one event more
pub has_gone_on : (m next : Machine) (count after : ℕ) (event : Event) (actions : List Action) (before kept : Option Kept) → IsWithinLimits event →
    next ≡ (step m event).machine → after ≡ count + 1 → actions ≡ (step m event).actions → KeepsOn event actions before kept → HasRun m count before → HasRun next after kept
has_gone_on m next count after event actions before kept within is more acts keeps h =
    let last : Machine = after_all (start_of h.settings) h.events in
    record {
      settings = h.settings;
      events = h.events ++ event ∷ [];
      sound = h.sound;
      counted = more ∙ ap (λ (n : ℕ). n + 1) h.counted ∙ sym (length-append h.events (event ∷ []));
      reached = is ∙ ap (λ (x : Machine). (step x event).machine) h.reached ∙ sym (after_all-one last event) ∙ sym (after_all-append (start_of h.settings) h.events (event ∷ []));
      told = keeps h.settings h.events within (acts ∙ ap (λ (x : Machine). (step x event).actions) h.reached) h.told;
    }

-- with its end the trace agrees
pub has_agreed : (m : Machine) (count : ℕ) (kept : Kept) (lines : List ℕ) → count ≤ 1000000 → lines ≡ kept.lines ++ (codes "end" ++ 10 ∷ []) → HasRun m count (Some kept) →
    Agrees kept.head lines
has_agreed m count kept lines few ends h = λ fits.
    let whole : kept.head ++ lines ≡ whole_text h.settings h.events =
    ap (λ (text : List ℕ). kept.head ++ text) ends
    ∙ sym (append_assoc kept.head kept.lines (codes "end" ++ 10 ∷ []))
    ∙ ap (λ (text : List ℕ). (text ++ kept.lines) ++ (codes "end" ++ 10 ∷ [])) h.told.head
    ∙ ap (λ (text : List ℕ). (printed_head h.settings ++ text) ++ (codes "end" ++ 10 ∷ [])) h.told.lines in
    subst IsAgreeing (sym whole)
    (whole_agrees h.settings h.events h.sound h.told.own.0 h.told.traceable (omega (arith, h.counted)) (inl h.told.version) (subst FitsTrace whole fits))

-- ---- what is written

pub takes_both : (o0 o1 o2 : Option (List ℕ)) (head lines rest : List ℕ) → Takes o0 o1 head → TakesFront o1 o2 lines rest → rest ≡ [] → Takes o0 o2 (head ++ lines)
takes_both o0 o1 o2 head lines rest first front none =
    let whole : front.front ≡ lines = sym (front.split ∙ ap (λ (r : List ℕ). front.front ++ r) none ∙ append-nil front.front) in
    Takes-append o0 o1 o2 head lines first (subst (λ (bytes : List ℕ). Takes o1 o2 bytes) whole front.taken)

pub takes_agreeing : (before after : Option (List ℕ)) (head lines : List ℕ) → Takes before after (head ++ lines) → Agrees head lines → TakesAgreeing before after
takes_agreeing before after head lines takes agrees = record { written = head ++ lines; taken = takes; agrees = agrees }
