-- How a drive ends, by where it broke off.
use Rattle.std.proofs.Common.{◌≡◌, ℕ, ◌+◌, ◌<◌, ◌≤◌, ◌⊎◌, Bool, List, [], ◌∷◌, ◌++◌, length, take, codes, Option, Result, Ok, Err, IfErr, OnOk, inl, inr, refl, sym, ap, ◌∙◌, subst, arith, length-append}
use Rattle.std.proofs.lemmas.List.{append-nil, append_assoc}
use Rattle.std.proofs.Math.Seq.{take-append_seam}
use Rattle.io_edge.specs.Lines.{ended_lines}
use Rattle.io_edge.specs.Told.{Takes, TakesProperPrefix}
use Rattle.io_edge.proofs.ToldLemmas.{Takes-nothing, Takes-append}
use Rattle.machine.specs.Machine.{Machine, start_of}
use Rattle.machine.specs.Run.{after_all}
use Rattle.net_base.specs.Bounds.{AreSound}
use Rattle.net_base.specs.declared.action.Action.{Action}
use Rattle.net_base.specs.declared.event.Event.{Event}
use Rattle.net_base.specs.declared.settings.Settings.{Settings}
use Rattle.node_world.specs.Meanings.{with_more}
use Rattle.node_world.proofs.Told.{with_more-nil}
use Rattle.trace_text.specs.Addresses.{IsAddress}
use Rattle.trace_text.specs.HeadTexts.{printed_head}
use Rattle.world_play.specs.Drive.{IsFrontOf, acts_of, all_actions, AreAll, BreaksOff, SaysUpTo, IsDriven, Drives, outcome_of_drive}
use Rattle.trace_compare.specs.RunText.{text_of, text_up_to, whole_text}
use Rattle.world_play.specs.DriveCourse.{Ran, Broke, BrokeAt, Came, Stopped, IsBreak, IsUnsaid, IsOfWorld}
use Rattle.trace_meaning.specs.Judgement.{most_events}
use Rattle.trace_compare.specs.Written.{IsWrittenTrace, TakesAgreeing}
use Rattle.trace_meaning.specs.declared.outcome.Outcome.{Outcome}
use Rattle.trace_meaning.specs.declared.outcome.Outcome.TheVariants as outcome
use Rattle.trace_compare.proofs.RunTexts.{text_of-append}
use Rattle.world_play.proofs.Drives.{front_all, front_none, front_behind, front_more, acts_of-append, why_behind, of_world, Ran-Ran, Ran-Broke}
use Rattle.trace_compare.proofs.Written.{whole_agrees}

front_whole : {T : Type 0} (a b c : List T) → IsFrontOf a b → IsFrontOf b c → IsFrontOf a c
front_whole {T} a b c ab bc = record {
  rest = ab.rest ++ bc.rest;
  split = bc.split ∙ ap (λ (xs : List T). xs ++ bc.rest) ab.split ∙ append_assoc a ab.rest bc.rest;
}

front_short : {T : Type 0} (a b : List T) → IsFrontOf a b → length a ≤ length b
front_short a b f = rw f.split (omega (arith, length-append a f.rest))

-- the text of a front of the events is a front of the text
text_front : (m : Machine) (all xs ys : List Event) → all ≡ xs ++ ys → IsFrontOf (text_of m xs) (text_of m all)
text_front m all xs ys e = record { rest = text_of (after_all m xs) ys; split = ap (λ es. text_of m es) e ∙ text_of-append m xs ys }

acts_front : (m : Machine) (all xs ys : List Event) → all ≡ xs ++ ys → IsFrontOf (acts_of m xs) (acts_of m all)
acts_front m all xs ys e = record { rest = acts_of (after_all m xs) ys; split = ap (λ es. acts_of m es) e ∙ acts_of-append m xs ys }

-- what is written up to some of the events is a front of what is written up to all
up_to_front : (s : Settings) (all xs ys : List Event) → all ≡ xs ++ ys → IsFrontOf (text_up_to s xs) (text_up_to s all)
up_to_front s all xs ys e = front_behind (printed_head s) (text_of (start_of s) xs) (text_of (start_of s) all) (text_front (start_of s) all xs ys e)

push_apart : (before : List Event) (last : Event) → [] ≡ before ++ last ∷ [] → ⊥
push_apart before last e = let lengths = ap length e in grind (arith, length-append)

-- the events before the last one
before_last : (xs ys : List Event) (x y : Event) → xs ++ x ∷ [] ≡ ys ++ y ∷ [] → xs ≡ ys
before_last xs ys x y e =
    let lengths : length xs ≡ length ys = let all = ap length e in omega (arith, all, length-append xs (x ∷ []), length-append ys (y ∷ [])) in
    sym (take-append_seam xs (x ∷ [])) ∙ ap (λ (es : List Event). take (length xs) es) e ∙ ap (λ n. take n (ys ++ y ∷ [])) lengths ∙ take-append_seam ys (y ∷ [])

all_before : (first before : List Event) (event : Event) → first ++ (before ++ event ∷ []) ≡ (first ++ before) ++ event ∷ []
all_before first before event = sym (append_assoc first before (event ∷ []))

-- ---- by the outcome

-- why it broke off, where no more than the whole is due
as_broken : (o : Outcome) (s : Settings) (first : List Event) (count : ℕ) (ended : Bool) (events : List Event) (written due : List ℕ) (acts : List Action) →
    BreaksOff s first events written acts → IsBreak o written due → length due ≤ length (whole_text s (first ++ events)) →
    (0 < length events → due ≡ text_up_to s (first ++ events)) → (o ≡ outcome.WorldFault → SaysUpTo s (first ++ events) written acts) →
    IsDriven o s first count ended events written acts
as_broken outcome.Done s first count ended events written due acts b why short all says = absurd why
as_broken (outcome.Differ line) s first count ended events written due acts b why short all says = absurd why
as_broken (outcome.Refused line kind) s first count ended events written due acts b why short all says = absurd why
as_broken outcome.ReadFault s first count ended events written due acts b why short all says = absurd why
as_broken outcome.WriteFault s first count ended events written due acts b why short all says = (b, omega (arith, why, short))
as_broken outcome.OutOfMemory s first count ended events written due acts b why short all says = b
as_broken outcome.WorldFault s first count ended events written due acts b why short all says = (b, λ some. why ∙ all some, says refl)
as_broken (outcome.TooLong line) s first count ended events written due acts b why short all says = absurd why

-- where the world fails, all that is due is written
all_due : (o : Outcome) (written due : List ℕ) → IsBreak o written due → o ≡ outcome.WorldFault → written ≡ due
all_due o written due why world = subst (λ (r : Outcome). IsBreak r written due) world why

-- it promises nothing of what was written as a trace
no_trace : (o : Outcome) (s : Settings) (events : List Event) (written due : List ℕ) → IsBreak o written due → IsWrittenTrace o s events written
no_trace outcome.Done s events written due why = absurd why
no_trace (outcome.Differ line) s events written due why = absurd why
no_trace (outcome.Refused line kind) s events written due why = absurd why
no_trace outcome.ReadFault s events written due why = absurd why
no_trace outcome.WriteFault s events written due why = tt
no_trace outcome.OutOfMemory s events written due why = tt
no_trace outcome.WorldFault s events written due why = tt
no_trace (outcome.TooLong line) s events written due why = absurd why

-- ---- before an event of the world

breaks_before : (s : Settings) (first : List Event) (written : List ℕ) (acts : List Action) → IsFrontOf written (whole_text s (first ++ [])) →
    IsFrontOf acts (all_actions s (first ++ [])) → BreaksOff s first [] written acts
breaks_before s first written acts text done = record {
  text = text;
  done = done;
  written_before = λ before last e. absurd (push_apart before last e);
  done_before = λ before last e. absurd (push_apart before last e);
}

-- nothing was done, and no more than a front of the head written
before_all : (s : Settings) (first : List Event) (count : ℕ) (t : Option (List Event)) (d : Option (List Action)) (ended : Bool) (o0 o1 : Option (List ℕ)) (o : Outcome) (front rest : List ℕ) →
    Takes o0 o1 front → printed_head s ≡ front ++ rest → IsBreak o front (printed_head s) → ¬ (o ≡ outcome.WorldFault) → Drives s first count t t d d ended o0 o1 o
before_all s first count t d ended o0 o1 o front rest takes split why other =
    let head : IsFrontOf (printed_head s) (whole_text s (first ++ [])) =
    front_more (printed_head s) (text_up_to s (first ++ [])) (ended_lines (codes "end" ∷ [])) (record { rest = text_of (start_of s) (first ++ []); split = refl }) in
    let text : IsFrontOf front (whole_text s (first ++ [])) = front_whole front (printed_head s) (whole_text s (first ++ [])) (record { rest = rest; split = split }) head in
    record {
      events = [];
      taken = sym (with_more-nil t);
      acts = [];
      done = sym (with_more-nil d);
      written = front;
      out = takes;
      few = omega arith;
      is_driven = as_broken o s first count ended [] front (printed_head s) [] (breaks_before s first front [] text (front_none (all_actions s (first ++ [])))) why
          (front_short (printed_head s) (whole_text s (first ++ [])) head) (λ some. absurd (omega (arith, some))) (λ world. absurd (other world));
      is_trace = no_trace o s (first ++ []) front (printed_head s) why;
    }

-- memory was wanting before anything
pub wanting : (s : Settings) (first : List Event) (count : ℕ) (t : Option (List Event)) (d : Option (List Action)) (ended : Bool) (o : Option (List ℕ)) →
    Drives s first count t t d d ended o o outcome.OutOfMemory
wanting s first count t d ended o = before_all s first count t d ended o o outcome.OutOfMemory [] (printed_head s) (Takes-nothing o) refl tt (λ e. absurd cc)

-- the head is not written whole
pub in_head : (s : Settings) (first : List Event) (count : ℕ) (t : Option (List Event)) (d : Option (List Action)) (ended : Bool) (o0 o1 : Option (List ℕ)) (o : Outcome) →
    IsUnsaid o0 o1 (printed_head s) o → Drives s first count t t d d ended o0 o1 o
in_head s first count t d ended o0 o1 outcome.Done h = absurd h
in_head s first count t d ended o0 o1 (outcome.Differ line) h = absurd h
in_head s first count t d ended o0 o1 (outcome.Refused line kind) h = absurd h
in_head s first count t d ended o0 o1 outcome.ReadFault h = absurd h
in_head s first count t d ended o0 o1 outcome.WriteFault h =
    before_all s first count t d ended o0 o1 outcome.WriteFault h.front h.rest h.taken h.split
    (subst (λ (text : List ℕ). length h.front < length text) (sym h.split) (omega (arith, h.proper, length-append h.front h.rest))) (λ e. absurd cc)
in_head s first count t d ended o0 o1 outcome.OutOfMemory h =
    before_all s first count t d ended o0 o1 outcome.OutOfMemory [] (printed_head s) (subst (λ (o : Option (List ℕ)). Takes o0 o []) (sym h) (Takes-nothing o0)) refl tt (λ e. absurd cc)
in_head s first count t d ended o0 o1 outcome.WorldFault h = absurd h
in_head s first count t d ended o0 o1 (outcome.TooLong line) h = absurd h

-- it broke off in the events that are given
pub in_first : (s : Settings) (m : Machine) (first : List Event) (count : ℕ) (t0 t1 : Option (List Event)) (d0 d1 : Option (List Action)) (ended : Bool) (o0 o1 o2 : Option (List ℕ)) (o : Outcome) →
    m ≡ start_of s → t1 ≡ t0 → Takes o0 o1 (printed_head s) → BrokeAt m first d0 d1 o1 o2 o → Drives s first count t0 t1 d0 d1 ended o0 o2 o
in_first s m first count t0 t1 d0 d1 ended o0 o1 o2 o start same head at =
    let broke : Broke (start_of s) at.before at.event d0 d1 o1 o2 o = subst (λ machine. Broke machine at.before at.event d0 d1 o1 o2 o) start at.broke in
    let due : List ℕ = text_of (start_of s) (at.before ++ at.event ∷ []) in
    let split : first ++ [] ≡ (at.before ++ at.event ∷ []) ++ at.later =
    append-nil first ∙ at.split ∙ sym (append_assoc at.before (at.event ∷ []) at.later) in
    let up_to : IsFrontOf (printed_head s ++ due) (whole_text s (first ++ [])) =
    front_more (printed_head s ++ due) (text_up_to s (first ++ [])) (ended_lines (codes "end" ∷ []))
    (up_to_front s (first ++ []) (at.before ++ at.event ∷ []) at.later split) in
    let text : IsFrontOf (printed_head s ++ broke.written) (whole_text s (first ++ [])) =
    front_whole (printed_head s ++ broke.written) (printed_head s ++ due) (whole_text s (first ++ [])) (front_behind (printed_head s) broke.written due broke.text_before) up_to in
    let says : o ≡ outcome.WorldFault → SaysUpTo s (first ++ []) (printed_head s ++ broke.written) broke.acts = λ world. record {
      heard = at.before ++ at.event ∷ [];
      front = record { rest = at.later; split = split };
      written_is = ap (λ (text : List ℕ). printed_head s ++ text) (all_due o broke.written due broke.why world);
      why = inr (broke.short world);
    } in
    let acts : IsFrontOf broke.acts (all_actions s (first ++ [])) =
    front_whole broke.acts (acts_of (start_of s) (at.before ++ at.event ∷ [])) (all_actions s (first ++ [])) broke.acts_before
    (acts_front (start_of s) (first ++ []) (at.before ++ at.event ∷ []) at.later split) in
    record {
      events = [];
      taken = same ∙ sym (with_more-nil t0);
      acts = broke.acts;
      done = broke.done;
      written = printed_head s ++ broke.written;
      out = Takes-append o0 o1 o2 (printed_head s) broke.written head broke.out;
      few = omega arith;
      is_driven = as_broken o s first count ended [] (printed_head s ++ broke.written) (printed_head s ++ due) broke.acts
          (breaks_before s first (printed_head s ++ broke.written) broke.acts text acts) (why_behind o (printed_head s) broke.written due broke.why)
          (front_short (printed_head s ++ due) (whole_text s (first ++ [])) up_to) (λ some. absurd (omega (arith, some))) says;
      is_trace = no_trace o s (first ++ []) (printed_head s ++ broke.written) (printed_head s ++ due) (why_behind o (printed_head s) broke.written due broke.why);
    }

-- ---- at an event of the world

breaks_at : (s : Settings) (first before : List Event) (event : Event) (d0 d1 : Option (List Action)) (o1 o2 : Option (List ℕ)) (o : Outcome)
    (b : Broke (start_of s) (first ++ before) event d0 d1 o1 o2 o) → BreaksOff s first (before ++ event ∷ []) (printed_head s ++ b.written) b.acts
breaks_at s first before event d0 d1 o1 o2 o b = record {
  text = front_more (printed_head s ++ b.written) (text_up_to s (first ++ (before ++ event ∷ []))) (ended_lines (codes "end" ∷ []))
      (front_behind (printed_head s) b.written (text_of (start_of s) (first ++ (before ++ event ∷ [])))
      (subst (λ es. IsFrontOf b.written (text_of (start_of s) es)) (sym (all_before first before event)) b.text_before));
  done = subst (λ es. IsFrontOf b.acts (acts_of (start_of s) es)) (sym (all_before first before event)) b.acts_before;
  written_before = λ xs last e.
      front_behind (printed_head s) (text_of (start_of s) (first ++ xs)) b.written
      (subst (λ (es : List Event). IsFrontOf (text_of (start_of s) (first ++ es)) b.written) (before_last before xs event last e) b.text_behind);
  done_before = λ xs last e.
      subst (λ (es : List Event). IsFrontOf (acts_of (start_of s) (first ++ es)) b.acts) (before_last before xs event last e) b.acts_behind;
}

at_event : (s : Settings) (first : List Event) (count : ℕ) (before : List Event) (event : Event) (t0 t1 : Option (List Event)) (d0 d1 : Option (List Action)) (ended : Bool)
    (o0 o1 o2 : Option (List ℕ)) (o : Outcome) → t1 ≡ with_more t0 (before ++ event ∷ []) → length before < count → Takes o0 o1 (printed_head s) →
    Broke (start_of s) (first ++ before) event d0 d1 o1 o2 o → Drives s first count t0 t1 d0 d1 ended o0 o2 o
at_event s first count before event t0 t1 d0 d1 ended o0 o1 o2 o taken few head b =
    let due : List ℕ = text_of (start_of s) ((first ++ before) ++ event ∷ []) in
    let is_due : printed_head s ++ due ≡ text_up_to s (first ++ (before ++ event ∷ [])) =
    ap (λ es. text_up_to s es) (sym (all_before first before event)) in
    let says : o ≡ outcome.WorldFault → SaysUpTo s (first ++ (before ++ event ∷ [])) (printed_head s ++ b.written) b.acts = λ world. record {
      heard = first ++ (before ++ event ∷ []);
      front = front_all (first ++ (before ++ event ∷ []));
      written_is = ap (λ (text : List ℕ). printed_head s ++ text) (all_due o b.written due b.why world) ∙ is_due;
      why = inl refl;
    } in
    let short : length (printed_head s ++ due) ≤ length (whole_text s (first ++ (before ++ event ∷ []))) =
    front_short (printed_head s ++ due) (whole_text s (first ++ (before ++ event ∷ []))) (record {
      rest = ended_lines (codes "end" ∷ []);
      split = ap (λ (text : List ℕ). text ++ ended_lines (codes "end" ∷ [])) (sym is_due);
    }) in
    record {
      events = before ++ event ∷ [];
      taken = taken;
      acts = b.acts;
      done = b.done;
      written = printed_head s ++ b.written;
      out = Takes-append o0 o1 o2 (printed_head s) b.written head b.out;
      few = omega (arith, few, length-append before (event ∷ []));
      is_driven = as_broken o s first count ended (before ++ event ∷ []) (printed_head s ++ b.written) (printed_head s ++ due) b.acts
          (breaks_at s first before event d0 d1 o1 o2 o b) (why_behind o (printed_head s) b.written due b.why) short (λ some. is_due) says;
      is_trace = no_trace o s (first ++ (before ++ event ∷ [])) (printed_head s ++ b.written) (printed_head s ++ due) (why_behind o (printed_head s) b.written due b.why);
    }

-- ---- between two events

-- all of these events are written and done, and of the last line a front
pub breaks_between : (s : Settings) (first events : List Event) (more : List ℕ) → IsFrontOf more (ended_lines (codes "end" ∷ [])) →
    BreaksOff s first events (text_up_to s (first ++ events) ++ more) (all_actions s (first ++ events))
breaks_between s first events more f = record {
  text = front_behind (text_up_to s (first ++ events)) more (ended_lines (codes "end" ∷ [])) f;
  done = front_all (all_actions s (first ++ events));
  written_before = λ before last e.
      front_more (text_up_to s (first ++ before)) (text_up_to s (first ++ events)) more
      (up_to_front s (first ++ events) (first ++ before) (last ∷ []) (ap (λ es. first ++ es) e ∙ sym (append_assoc first before (last ∷ []))));
  done_before = λ before last e.
      acts_front (start_of s) (first ++ events) (first ++ before) (last ∷ []) (ap (λ es. first ++ es) e ∙ sym (append_assoc first before (last ∷ [])));
}

-- some of the last line is written, or nothing of it
between : (s : Settings) (first : List Event) (count : ℕ) (events : List Event) (next : Machine) (more due : List ℕ) (t0 t1 : Option (List Event)) (d0 d1 : Option (List Action)) (ended : Bool)
    (o0 o1 o2 o3 : Option (List ℕ)) (o : Outcome) → t1 ≡ with_more t0 events → length events ≤ count → Takes o0 o1 (printed_head s) →
    Ran (start_of s) (first ++ events) next d0 d1 o1 o2 → Takes o2 o3 more → IsFrontOf more (ended_lines (codes "end" ∷ [])) →
    IsFrontOf due (ended_lines (codes "end" ∷ [])) → IsBreak o (text_up_to s (first ++ events) ++ more) (text_up_to s (first ++ events) ++ due) →
    (0 < length events → text_up_to s (first ++ events) ++ due ≡ text_up_to s (first ++ events)) → (o ≡ outcome.WorldFault → more ≡ []) →
    Drives s first count t0 t1 d0 d1 ended o0 o3 o
between s first count events next more due t0 t1 d0 d1 ended o0 o1 o2 o3 o taken few head ran takes front due_front why all nothing = record {
  events = events;
  taken = taken;
  acts = all_actions s (first ++ events);
  done = ran.done;
  written = text_up_to s (first ++ events) ++ more;
  out = Takes-append o0 o2 o3 (text_up_to s (first ++ events)) more (Takes-append o0 o1 o2 (printed_head s) (text_of (start_of s) (first ++ events)) head ran.out) takes;
  few = few;
  is_driven = as_broken o s first count ended events (text_up_to s (first ++ events) ++ more) (text_up_to s (first ++ events) ++ due) (all_actions s (first ++ events))
      (breaks_between s first events more front) why
      (front_short (text_up_to s (first ++ events) ++ due) (whole_text s (first ++ events))
      (front_behind (text_up_to s (first ++ events)) due (ended_lines (codes "end" ∷ [])) due_front)) all
      (λ world. record {
        heard = first ++ events;
        front = front_all (first ++ events);
        written_is = ap (λ (text : List ℕ). text_up_to s (first ++ events) ++ text) (nothing world) ∙ append-nil (text_up_to s (first ++ events));
        why = inl refl;
      });
  is_trace = no_trace o s (first ++ events) (text_up_to s (first ++ events) ++ more) (text_up_to s (first ++ events) ++ due) why;
}

-- ---- behind the events that are given

-- it broke off in the events of the world
pub in_world : (s : Settings) (m next : Machine) (first : List Event) (count : ℕ) (t0 t1 t2 : Option (List Event)) (d0 d1 d2 : Option (List Action)) (ended : Bool)
    (o0 o1 o2 o3 : Option (List ℕ)) (o : Outcome) → m ≡ start_of s → t1 ≡ t0 → Takes o0 o1 (printed_head s) → Ran m first next d0 d1 o1 o2 →
    Stopped next count t1 t2 d1 d2 o2 o3 o → Drives s first count t0 t2 d0 d2 ended o0 o3 o
in_world s m next first count t0 t1 t2 d0 d1 d2 ended o0 o1 o2 o3 o start same head ran (inl at) =
    let begun : Ran (start_of s) first next d0 d1 o1 o2 = subst (λ machine. Ran machine first next d0 d1 o1 o2) start ran in
    at_event s first count at.before at.event t0 t2 d0 d2 ended o0 o1 o3 o (at.taken ∙ ap (λ told. with_more told (at.before ++ at.event ∷ [])) same) at.few head
    (Ran-Broke (start_of s) next first at.before at.event d0 d1 d2 o1 o2 o3 o begun at.broke)
in_world s m next first count t0 t1 t2 d0 d1 d2 ended o0 o1 o2 o3 o start same head ran (inr behind) =
    let begun : Ran (start_of s) first next d0 d1 o1 o2 = subst (λ machine. Ran machine first next d0 d1 o1 o2) start ran in
    let few = behind.few in
    between s first count behind.events behind.next [] [] t0 t2 d0 d2 ended o0 o1 o3 o3 o
    (behind.taken ∙ ap (λ told. with_more told behind.events) same) (omega (arith, few)) head
    (Ran-Ran (start_of s) next behind.next first behind.events d0 d1 d2 o1 o2 o3 begun behind.ran) (Takes-nothing o3)
    (front_none (ended_lines (codes "end" ∷ []))) (front_none (ended_lines (codes "end" ∷ [])))
    (of_world o (text_up_to s (first ++ behind.events) ++ []) behind.why) (λ some. append-nil (text_up_to s (first ++ behind.events))) (λ world. refl)

up_to_count : (count : ℕ) (ended : Bool) (events : List Event) → AreAll count ended events → length events ≤ count
up_to_count count ended events (inl all) = omega (arith, all)
up_to_count count ended events (inr over) = let few = over.0 in omega (arith, few)

-- all events were taken, and the last line is not written whole
pub at_end : (s : Settings) (m next : Machine) (first : List Event) (count : ℕ) (t0 t1 t2 : Option (List Event)) (d0 d1 d2 : Option (List Action)) (came_ended ended : Bool)
    (o0 o1 o2 o3 o4 : Option (List ℕ)) (o : Outcome) → m ≡ start_of s → t1 ≡ t0 → Takes o0 o1 (printed_head s) → Ran m first next d0 d1 o1 o2 →
    Came next count t1 t2 came_ended d1 d2 o2 o3 → IsUnsaid o3 o4 (ended_lines (codes "end" ∷ [])) o → Drives s first count t0 t2 d0 d2 ended o0 o4 o
at_end s m next first count t0 t1 t2 d0 d1 d2 came_ended ended o0 o1 o2 o3 o4 o start same head ran came unsaid =
    let begun : Ran (start_of s) first next d0 d1 o1 o2 = subst (λ machine. Ran machine first next d0 d1 o1 o2) start ran in
    let taken : t2 ≡ with_more t0 came.events = came.taken ∙ ap (λ told. with_more told came.events) same in
    let few : length came.events ≤ count = up_to_count count came_ended came.events came.all in
    let all : Ran (start_of s) (first ++ came.events) came.next d0 d2 o1 o3 =
    Ran-Ran (start_of s) next came.next first came.events d0 d1 d2 o1 o2 o3 begun came.ran in
    by o taken few all unsaid
  where
    last : List ℕ
    last = ended_lines (codes "end" ∷ [])

    by : (r : Outcome) → t2 ≡ with_more t0 came.events → length came.events ≤ count → Ran (start_of s) (first ++ came.events) came.next d0 d2 o1 o3 →
        IsUnsaid o3 o4 last r → Drives s first count t0 t2 d0 d2 ended o0 o4 r
    by outcome.Done taken few all h = absurd h
    by (outcome.Differ line) taken few all h = absurd h
    by (outcome.Refused line kind) taken few all h = absurd h
    by outcome.ReadFault taken few all h = absurd h
    by outcome.WriteFault taken few all h =
        let proper : length h.front < length last = subst (λ (text : List ℕ). length h.front < length text) (sym h.split) (omega (arith, h.proper, length-append h.front h.rest)) in
        let up_to = text_up_to s (first ++ came.events) in
        record {
          events = came.events;
          taken = taken;
          acts = all_actions s (first ++ came.events);
          done = all.done;
          written = up_to ++ h.front;
          out = Takes-append o0 o3 o4 up_to h.front (Takes-append o0 o1 o3 (printed_head s) (text_of (start_of s) (first ++ came.events)) head all.out) h.taken;
          few = few;
          is_driven = (
            breaks_between s first came.events h.front (record { rest = h.rest; split = h.split }),
            omega (arith, proper, length-append up_to h.front, length-append up_to last),
          );
          is_trace = tt;
        }
    by outcome.OutOfMemory taken few all h =
        between s first count came.events came.next [] [] t0 t2 d0 d2 ended o0 o1 o3 o4 outcome.OutOfMemory taken few head all
        (subst (λ (o : Option (List ℕ)). Takes o3 o []) (sym h) (Takes-nothing o3)) (front_none last) (front_none last) tt (λ some. append-nil (text_up_to s (first ++ came.events))) (λ world. refl)
    by outcome.WorldFault taken few all h = absurd h
    by (outcome.TooLong line) taken few all h = absurd h

-- all is written
pub ended_whole : (s : Settings) (m next : Machine) (first : List Event) (count : ℕ) (t0 t1 t2 : Option (List Event)) (d0 d1 d2 : Option (List Action)) (ended : Bool)
    (o0 o1 o2 o3 o4 : Option (List ℕ)) → AreSound s → IsAddress s.own → length first + count ≤ most_events → m ≡ start_of s → t1 ≡ t0 → Takes o0 o1 (printed_head s) →
    Ran m first next d0 d1 o1 o2 → Came next count t1 t2 ended d1 d2 o2 o3 → Takes o3 o4 (ended_lines (codes "end" ∷ [])) →
    Drives s first count t0 t2 d0 d2 ended o0 o4 outcome.Done
ended_whole s m next first count t0 t1 t2 d0 d1 d2 ended o0 o1 o2 o3 o4 sound own few start same head ran came last =
    let begun : Ran (start_of s) first next d0 d1 o1 o2 = subst (λ machine. Ran machine first next d0 d1 o1 o2) start ran in
    let all : Ran (start_of s) (first ++ came.events) came.next d0 d2 o1 o3 =
    Ran-Ran (start_of s) next came.next first came.events d0 d1 d2 o1 o2 o3 begun came.ran in
    let up_to : length came.events ≤ count = up_to_count count ended came.events came.all in
    record {
      events = came.events;
      taken = came.taken ∙ ap (λ told. with_more told came.events) same;
      acts = all_actions s (first ++ came.events);
      done = all.done;
      written = whole_text s (first ++ came.events);
      out = Takes-append o0 o3 o4 (text_up_to s (first ++ came.events)) (ended_lines (codes "end" ∷ []))
          (Takes-append o0 o1 o3 (printed_head s) (text_of (start_of s) (first ++ came.events)) head all.out) last;
      few = up_to;
      is_driven = (came.all, refl, refl);
      is_trace = whole_agrees s (first ++ came.events) sound own all.traceable (omega (arith, few, up_to, length-append first came.events));
    }

-- the last line is put, or not whole
pub at_last : (s : Settings) (m next : Machine) (first : List Event) (count : ℕ) (t0 t1 t2 : Option (List Event)) (d0 d1 d2 : Option (List Action)) (ended : Bool)
    (o0 o1 o2 o3 o4 : Option (List ℕ)) (r : Result (Unit {0}) Outcome) → AreSound s → IsAddress s.own → length first + count ≤ most_events → m ≡ start_of s → t1 ≡ t0 →
    Takes o0 o1 (printed_head s) → Ran m first next d0 d1 o1 o2 → Came next count t1 t2 ended d1 d2 o2 o3 → OnOk r (Takes o3 o4 (ended_lines (codes "end" ∷ []))) → IfErr r (IsUnsaid o3 o4 (ended_lines (codes "end" ∷ []))) →
    Drives s first count t0 t2 d0 d2 ended o0 o4 (outcome_of_drive r)
at_last s m next first count t0 t1 t2 d0 d1 d2 ended o0 o1 o2 o3 o4 (Ok done) sound own few start same head ran came whole part =
    ended_whole s m next first count t0 t1 t2 d0 d1 d2 ended o0 o1 o2 o3 o4 sound own few start same head ran came whole
at_last s m next first count t0 t1 t2 d0 d1 d2 ended o0 o1 o2 o3 o4 (Err outcome) sound own few start same head ran came whole part =
    at_end s m next first count t0 t1 t2 d0 d1 d2 ended ended o0 o1 o2 o3 o4 outcome start same head ran came part

-- what was written with version 2 agrees
pub drives_agreeing : (s : Settings) (first : List Event) (count : ℕ) (t0 t1 : Option (List Event)) (d0 d1 : Option (List Action)) (ended : Bool) (o0 o1 : Option (List ℕ)) (o : Outcome) →
    Drives s first count t0 t1 d0 d1 ended o0 o1 o → o ≡ outcome.Done → s.version ≡ 2 → TakesAgreeing o0 o1
drives_agreeing s first count t0 t1 d0 d1 ended o0 o1 o drives done two =
    let all : Drives s first count t0 t1 d0 d1 ended o0 o1 outcome.Done = subst (λ (r : Outcome). Drives s first count t0 t1 d0 d1 ended o0 o1 r) done drives in
    record { written = all.written; taken = all.out; agrees = all.is_trace (inl two) }
