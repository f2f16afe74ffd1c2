-- The text of some events and then others is that of the ones and then that of the others.
use Rattle.std.proofs.Common.{◌≡◌, List, [], ◌∷◌, ◌++◌, map, refl, sym, ap, ◌∙◌}
use Rattle.std.specs.List.{flat_map, zip}
use Rattle.std.proofs.lemmas.List.{append-nil, append_assoc}
use Rattle.std.proofs.lemmas.List.Concat.{flat_map-append, flat_map-cons}
use Rattle.io_edge.specs.Lines.{ended_lines}
use Rattle.machine.specs.Machine.{Machine}
use Rattle.machine.specs.Run.{after_all, actions_of}
use Rattle.machine.specs.Step.{step}
use Rattle.net_base.specs.declared.event.Event.{Event}
use Rattle.trace_compare.specs.RunText.{event_text, text_of}
use Rattle.trace_meaning.specs.Output.{told_event}
use Rattle.trace_text.specs.EventTexts.{printed_event}

pub after_all-append : (m : Machine) (xs ys : List Event) → after_all m (xs ++ ys) ≡ after_all (after_all m xs) ys
unfolding after_all
after_all-append m [] ys = refl
after_all-append m (x ∷ xs) ys = after_all-append (step m x).machine xs ys

pub after_all-one : (m : Machine) (event : Event) → after_all m (event ∷ []) ≡ (step m event).machine
unfolding after_all
after_all-one m event = refl

pub text_of-none : (m : Machine) → text_of m [] ≡ []
unfolding text_of actions_of
text_of-none m = refl

text_of-cons : (m : Machine) (x : Event) (xs : List Event) → text_of m (x ∷ xs) ≡ event_text m x ++ text_of (step m x).machine xs
unfolding text_of actions_of event_text
text_of-cons m x xs =
    ap ended_lines (flat_map-cons told_event (printed_event x, (step m x).actions) (zip (map printed_event xs) (actions_of (step m x).machine xs)))
    ∙ flat_map-append (λ line. line ++ 10 ∷ []) (told_event (printed_event x, (step m x).actions))
    (flat_map told_event (zip (map printed_event xs) (actions_of (step m x).machine xs)))

pub text_of-append : (m : Machine) (xs ys : List Event) → text_of m (xs ++ ys) ≡ text_of m xs ++ text_of (after_all m xs) ys
unfolding after_all
text_of-append m [] ys = ap (λ text. text ++ text_of m ys) (sym (text_of-none m))
text_of-append m (x ∷ xs) ys =
    text_of-cons m x (xs ++ ys)
    ∙ ap (λ text. event_text m x ++ text) (text_of-append (step m x).machine xs ys)
    ∙ sym (append_assoc (event_text m x) (text_of (step m x).machine xs) (text_of (after_all (step m x).machine xs) ys))
    ∙ ap (λ text. text ++ text_of (after_all (step m x).machine xs) ys) (sym (text_of-cons m x xs))

pub text_of-one : (m : Machine) (event : Event) → text_of m (event ∷ []) ≡ event_text m event
text_of-one m event =
    text_of-cons m event [] ∙ ap (λ text. event_text m event ++ text) (text_of-none (step m event).machine) ∙ append-nil (event_text m event)
