-- The output of lines that pass, one line after another.
use Rattle.std.proofs.Common.{◌≡◌, ℕ, suc, List, [], ◌∷◌, ◌++◌, length, Option, Some, None, Ok, refl, sym, ap, ◌∙◌, arith}
use Rattle.std.specs.List.{cons_option, zip}
use Rattle.std.proofs.lemmas.List.{append_assoc, append-nil, nil_from_length}
use Rattle.std.proofs.lemmas.List.Elements.{filter_map-append}
use Rattle.std.proofs.lemmas.List.Concat.{flat_map-append}
use Rattle.machine.specs.Step.{step}
use Rattle.machine.specs.Machine.{Machine}
use Rattle.machine.specs.Run.{after_all, actions_of}
use Rattle.net_base.specs.declared.action.Action.{Action}
use Rattle.net_base.specs.declared.event.Event.{Event}
use Rattle.trace_text.specs.declared.line.HeadLine.{HeadLine}
use Rattle.trace_text.specs.declared.line.Line.TheVariants.{Head, Happen, Acted}
use Rattle.trace_meaning.specs.Reading.{Reading, head_in, event_in, heads_in, events_in}
use Rattle.trace_meaning.specs.Output.{text_if, head_texts, event_texts, start_in, told_event, told_events, lines_for}
use Rattle.trace_meaning.proofs.Readings.{heads_in-append, events_in-append}

-- ---- runs

pub after_all-push : (m : Machine) (events : List Event) (event : Event) → after_all m (events ++ event ∷ []) ≡ (step (after_all m events) event).machine
unfolding after_all
after_all-push m [] event = refl
after_all-push m (first ∷ events) event = after_all-push (step m first).machine events event

pub actions_of-push : (m : Machine) (events : List Event) (event : Event) →
    actions_of m (events ++ event ∷ []) ≡ actions_of m events ++ (step (after_all m events) event).actions ∷ []
unfolding after_all actions_of
actions_of-push m [] event = refl
actions_of-push m (first ∷ events) event = ap (λ (told : List (List Action)). (step m first).actions ∷ told) (actions_of-push (step m first).machine events event)

length-actions_of : (m : Machine) (events : List Event) → length (actions_of m events) ≡ length events
unfolding actions_of
length-actions_of m [] = refl
length-actions_of m (event ∷ events) = ap suc (length-actions_of (step m event).machine events)

zip-push : {A B : Type 0} (xs : List A) (ys : List B) (x : A) (y : B) → length xs ≡ length ys → zip (xs ++ x ∷ []) (ys ++ y ∷ []) ≡ zip xs ys ++ (x, y) ∷ []
zip-push [] [] x y same = refl
zip-push [] (b ∷ ys) x y same = absurd (omega arith)
zip-push (a ∷ xs) [] x y same = absurd (omega arith)
zip-push {A} {B} (a ∷ xs) (b ∷ ys) x y same = ap (λ (ps : List (A × B)). (a, b) ∷ ps) (zip-push xs ys x y (omega arith))

-- ---- texts and events

length-event_texts : (readings : List Reading) → length (event_texts readings) ≡ length (events_in readings)
length-event_texts [] = refl
length-event_texts (reading ∷ readings) = by_event (event_in reading.says) (length-event_texts readings)
  where
    by_event : (found : Option Event) → length (event_texts readings) ≡ length (events_in readings) →
        length (cons_option (text_if found reading.text) (event_texts readings)) ≡ length (cons_option found (events_in readings))
    by_event None same = same
    by_event (Some event) same = ap suc same

pub head_texts-append : (xs ys : List Reading) → head_texts (xs ++ ys) ≡ head_texts xs ++ head_texts ys
head_texts-append xs ys = filter_map-append (λ (reading : Reading). text_if (head_in reading.says) reading.text) xs ys

pub event_texts-append : (xs ys : List Reading) → event_texts (xs ++ ys) ≡ event_texts xs ++ event_texts ys
event_texts-append xs ys = filter_map-append (λ (reading : Reading). text_if (event_in reading.says) reading.text) xs ys

told_events-none : (readings : List Reading) → events_in readings ≡ [] → told_events readings ≡ []
told_events-none readings none =
    let texts : event_texts readings ≡ [] = nil_from_length (event_texts readings) (length-event_texts readings ∙ ap length none) in
    rw texts refl

-- ---- one line more

pub lines_for-head : (readings : List Reading) (text : List ℕ) (head : HeadLine) → events_in readings ≡ [] →
    lines_for (readings ++ record { text = text; says = Ok (Head head) } ∷ []) ≡ lines_for readings ++ text ∷ []
lines_for-head readings text head none =
    let reading : Reading = record { text = text; says = Ok (Head head) } in
    let still : events_in (readings ++ reading ∷ []) ≡ [] = events_in-append readings (reading ∷ []) ∙ append-nil (events_in readings) ∙ none in
    rw (told_events-none (readings ++ reading ∷ []) still, told_events-none readings none)
    (append-nil (head_texts (readings ++ reading ∷ [])) ∙ head_texts-append readings (reading ∷ [])
    ∙ ap (λ (xs : List (List ℕ)). xs ++ text ∷ []) (sym (append-nil (head_texts readings))))

pub lines_for-acted : (readings : List Reading) (text : List ℕ) →
    lines_for (readings ++ record { text = text; says = Ok Acted } ∷ []) ≡ lines_for readings
lines_for-acted readings text =
    let reading : Reading = record { text = text; says = Ok Acted } in
    let heads : heads_in (readings ++ reading ∷ []) ≡ heads_in readings = heads_in-append readings (reading ∷ []) ∙ append-nil (heads_in readings) in
    let events : events_in (readings ++ reading ∷ []) ≡ events_in readings = events_in-append readings (reading ∷ []) ∙ append-nil (events_in readings) in
    rw (head_texts-append readings (reading ∷ []), event_texts-append readings (reading ∷ []), heads, events, append-nil (head_texts readings), append-nil (event_texts readings)) refl

-- what the machine tells of an event behind lines that were read
unfoldable pub told_behind : List Reading → List ℕ → Event → List (List ℕ)
told_behind readings text event = told_event (text, (step (after_all (start_in readings) (events_in readings)) event).actions)

pub lines_for-event : (readings : List Reading) (text : List ℕ) (event : Event) →
    lines_for (readings ++ record { text = text; says = Ok (Happen event) } ∷ []) ≡ lines_for readings ++ told_behind readings text event
unfolding told_behind
lines_for-event readings text event =
    let reading : Reading = record { text = text; says = Ok (Happen event) } in
    let start = start_in readings in
    let heads : heads_in (readings ++ reading ∷ []) ≡ heads_in readings = heads_in-append readings (reading ∷ []) ∙ append-nil (heads_in readings) in
    let events : events_in (readings ++ reading ∷ []) ≡ events_in readings ++ event ∷ [] = events_in-append readings (reading ∷ []) in
    let texts : event_texts (readings ++ reading ∷ []) ≡ event_texts readings ++ text ∷ [] = event_texts-append readings (reading ∷ []) in
    let head : head_texts (readings ++ reading ∷ []) ≡ head_texts readings = head_texts-append readings (reading ∷ []) ∙ append-nil (head_texts readings) in
    let actions = actions_of-push start (events_in readings) event in
    let same : length (event_texts readings) ≡ length (actions_of start (events_in readings)) = length-event_texts readings ∙ sym (length-actions_of start (events_in readings)) in
    let zipped = zip-push (event_texts readings) (actions_of start (events_in readings)) text (step (after_all start (events_in readings)) event).actions same in
    let told : told_events (readings ++ reading ∷ []) ≡ told_events readings ++ told_event (text, (step (after_all start (events_in readings)) event).actions) =
    rw (texts, heads, events, actions, zipped, flat_map-append)
    (ap (λ (xs : List (List ℕ)). told_events readings ++ xs) (append-nil (told_event (text, (step (after_all start (events_in readings)) event).actions)))) in
    rw (head, told) (sym (append_assoc (head_texts readings) (told_events readings) _))
