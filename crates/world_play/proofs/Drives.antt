-- What one event more, and some events more, make of a drive.
use Rattle.std.proofs.Common.{◌≡◌, ℕ, suc, ◌+◌, ◌<◌, Bool, true, List, [], ◌∷◌, ◌++◌, length, map, take, drop, get_or, Option, inl, inr, refl, sym, ap, ◌∙◌, subst, arith, length-append}
use Rattle.std.specs.List.{flat_map, zip}
use Rattle.std.proofs.lemmas.List.{append-nil, append_assoc, take_more, take-append-drop, length-take-le}
use Rattle.std.proofs.Math.Seq.{split_at}
use Rattle.std.proofs.lemmas.List.Elements.{All-nil, All-cons, All-append}
use Rattle.std.proofs.lemmas.List.Concat.{flat_map-append, flat_map-cons}
use Rattle.io_edge.specs.Lines.{ended_lines}
use Rattle.io_edge.specs.Told.{Takes}
use Rattle.io_edge.proofs.ToldLemmas.{Takes-nothing, Takes-append}
use Rattle.machine.specs.Machine.{Machine}
use Rattle.machine.specs.Run.{after_all, actions_of}
use Rattle.machine.specs.Step.{step}
use Rattle.net_base.specs.declared.action.Action.{Action}
use Rattle.net_base.specs.declared.event.Event.{Event}
use Rattle.node_world.specs.Meanings.{with_more, with_one_more}
use Rattle.node_world.proofs.Told.{with_more-nil, with_more-append}
use Rattle.trace_text.specs.EventTexts.{printed_event}
use Rattle.world_play.specs.Drive.{IsFrontOf, acts_of}
use Rattle.trace_compare.specs.RunText.{event_text, text_of}
use Rattle.trace_compare.proofs.RunTexts.{after_all-append, after_all-one, text_of-append, text_of-one, text_of-none}
use Rattle.world_play.specs.DriveCourse.{Ran, RanFor, Broke, BrokeAt, Came, Stopped, IsBreak, IsUnsaid, DoesFront, IsOfWorld}
use Rattle.trace_meaning.specs.Output.{told_event}
use Rattle.trace_compare.specs.Written.{IsTraceable}
use Rattle.trace_meaning.specs.declared.outcome.Outcome.{Outcome}
use Rattle.trace_meaning.specs.declared.outcome.Outcome.TheVariants as outcome

-- ---- fronts

pub front_all : {T : Type 0} (xs : List T) → IsFrontOf xs xs
front_all xs = record { rest = []; split = sym (append-nil xs) }

pub front_none : {T : Type 0} (xs : List T) → IsFrontOf [] xs
front_none xs = record { rest = xs; split = refl }

-- with the same before both
pub front_behind : {T : Type 0} (before front whole : List T) → IsFrontOf front whole → IsFrontOf (before ++ front) (before ++ whole)
front_behind {T} before front whole f = record {
  rest = f.rest;
  split = ap (λ (xs : List T). before ++ xs) f.split ∙ sym (append_assoc before front f.rest);
}

pub front_more : {T : Type 0} (front whole more : List T) → IsFrontOf front whole → IsFrontOf front (whole ++ more)
front_more {T} front whole more f = record {
  rest = f.rest ++ more;
  split = ap (λ (xs : List T). xs ++ more) f.split ∙ append_assoc front f.rest more;
}

-- ---- runs

pub acts_of-none : (m : Machine) → acts_of m [] ≡ []
unfolding acts_of actions_of
acts_of-none m = refl

acts_of-cons : (m : Machine) (x : Event) (xs : List Event) → acts_of m (x ∷ xs) ≡ (step m x).actions ++ acts_of (step m x).machine xs
unfolding acts_of actions_of
acts_of-cons m x xs = flat_map-cons (λ (actions : List Action). actions) (step m x).actions (actions_of (step m x).machine xs)

pub acts_of-append : (m : Machine) (xs ys : List Event) → acts_of m (xs ++ ys) ≡ acts_of m xs ++ acts_of (after_all m xs) ys
unfolding after_all
acts_of-append m [] ys = ap (λ acts. acts ++ acts_of m ys) (sym (acts_of-none m))
acts_of-append m (x ∷ xs) ys =
    acts_of-cons m x (xs ++ ys)
    ∙ ap (λ acts. (step m x).actions ++ acts) (acts_of-append (step m x).machine xs ys)
    ∙ sym (append_assoc (step m x).actions (acts_of (step m x).machine xs) (acts_of (after_all (step m x).machine xs) ys))
    ∙ ap (λ acts. acts ++ acts_of (after_all (step m x).machine xs) ys) (sym (acts_of-cons m x xs))

pub acts_of-one : (m : Machine) (event : Event) → acts_of m (event ∷ []) ≡ (step m event).actions
acts_of-one m event =
    acts_of-cons m event [] ∙ ap (λ acts. (step m event).actions ++ acts) (acts_of-none (step m event).machine) ∙ append-nil (step m event).actions

-- ---- whole events, one behind the other

pub Ran-none : (m : Machine) (d : Option (List Action)) (o : Option (List ℕ)) → Ran m [] m d d o o
unfolding after_all
Ran-none m d o = record {
  machine_is = refl;
  done = sym (ap (λ acts. with_more d acts) (acts_of-none m) ∙ with_more-nil d);
  out = subst (λ text. Takes o o text) (sym (text_of-none m)) (Takes-nothing o);
  traceable = All-nil IsTraceable;
}

pub Ran-Ran : (m next last : Machine) (xs ys : List Event) (d0 d1 d2 : Option (List Action)) (o0 o1 o2 : Option (List ℕ)) →
    Ran m xs next d0 d1 o0 o1 → Ran next ys last d1 d2 o1 o2 → Ran m (xs ++ ys) last d0 d2 o0 o2
Ran-Ran m next last xs ys d0 d1 d2 o0 o1 o2 a b =
    let text : text_of m xs ++ text_of next ys ≡ text_of m (xs ++ ys) =
    ap (λ n. text_of m xs ++ text_of n ys) a.machine_is ∙ sym (text_of-append m xs ys) in
    let acts : acts_of m xs ++ acts_of next ys ≡ acts_of m (xs ++ ys) =
    ap (λ n. acts_of m xs ++ acts_of n ys) a.machine_is ∙ sym (acts_of-append m xs ys) in
    record {
      machine_is = b.machine_is ∙ ap (λ n. after_all n ys) a.machine_is ∙ sym (after_all-append m xs ys);
      done = b.done ∙ ap (λ d. with_more d (acts_of next ys)) a.done ∙ with_more-append d0 (acts_of m xs) (acts_of next ys) ∙ ap (λ more. with_more d0 more) acts;
      out = subst (λ bytes. Takes o0 o2 bytes) text (Takes-append o0 o1 o2 (text_of m xs) (text_of next ys) a.out b.out);
      traceable = All-append IsTraceable xs ys a.traceable b.traceable;
    }

-- with the same before both
pub why_behind : (r : Outcome) (first written due : List ℕ) → IsBreak r written due → IsBreak r (first ++ written) (first ++ due)
why_behind outcome.Done first written due h = absurd h
why_behind (outcome.Differ line) first written due h = absurd h
why_behind (outcome.Refused line kind) first written due h = absurd h
why_behind outcome.ReadFault first written due h = absurd h
why_behind outcome.WriteFault first written due h = omega (arith, h, length-append first written, length-append first due)
why_behind outcome.OutOfMemory first written due h = tt
why_behind outcome.WorldFault first written due h = ap (λ text. first ++ text) h
why_behind (outcome.TooLong line) first written due h = absurd h

-- it broke off behind events that were taken whole
module _ (m next : Machine) (xs before : List Event) (event : Event) (d0 d1 d2 : Option (List Action)) (o0 o1 o2 : Option (List ℕ)) (o : Outcome)
    (a : Ran m xs next d0 d1 o0 o1) (b : Broke next before event d1 d2 o1 o2 o) where
  text_due : (ys : List Event) → text_of m xs ++ text_of next ys ≡ text_of m (xs ++ ys)
  text_due ys = ap (λ n. text_of m xs ++ text_of n ys) a.machine_is ∙ sym (text_of-append m xs ys)

  acts_due : (ys : List Event) → acts_of m xs ++ acts_of next ys ≡ acts_of m (xs ++ ys)
  acts_due ys = ap (λ n. acts_of m xs ++ acts_of n ys) a.machine_is ∙ sym (acts_of-append m xs ys)

  all_due : xs ++ (before ++ event ∷ []) ≡ (xs ++ before) ++ event ∷ []
  all_due = sym (append_assoc xs before (event ∷ []))

  text_last : text_of m xs ++ text_of next (before ++ event ∷ []) ≡ text_of m ((xs ++ before) ++ event ∷ [])
  text_last = text_due (before ++ event ∷ []) ∙ ap (λ es. text_of m es) all_due

  acts_last : acts_of m xs ++ acts_of next (before ++ event ∷ []) ≡ acts_of m ((xs ++ before) ++ event ∷ [])
  acts_last = acts_due (before ++ event ∷ []) ∙ ap (λ es. acts_of m es) all_due

  pub Ran-Broke : Broke m (xs ++ before) event d0 d2 o0 o2 o
  Ran-Broke = record {
    written = text_of m xs ++ b.written;
    out = Takes-append o0 o1 o2 (text_of m xs) b.written a.out b.out;
    acts = acts_of m xs ++ b.acts;
    done = b.done ∙ ap (λ d. with_more d b.acts) a.done ∙ with_more-append d0 (acts_of m xs) b.acts;
    text_behind = subst (λ text. IsFrontOf text (text_of m xs ++ b.written)) (text_due before) (front_behind (text_of m xs) (text_of next before) b.written b.text_behind);
    text_before = subst (λ text. IsFrontOf (text_of m xs ++ b.written) text) text_last
        (front_behind (text_of m xs) b.written (text_of next (before ++ event ∷ [])) b.text_before);
    acts_behind = subst (λ acts. IsFrontOf acts (acts_of m xs ++ b.acts)) (acts_due before) (front_behind (acts_of m xs) (acts_of next before) b.acts b.acts_behind);
    acts_before = subst (λ acts. IsFrontOf (acts_of m xs ++ b.acts) acts) acts_last
        (front_behind (acts_of m xs) b.acts (acts_of next (before ++ event ∷ [])) b.acts_before);
    why = subst (λ text. IsBreak o (text_of m xs ++ b.written) text) text_last (why_behind o (text_of m xs) b.written (text_of next (before ++ event ∷ [])) b.why);
    short = λ world.
        let less = b.short world in
        subst (λ acts. length (acts_of m xs ++ b.acts) < length acts) acts_last
        (omega (arith, less, length-append (acts_of m xs) b.acts, length-append (acts_of m xs) (acts_of next (before ++ event ∷ []))));
  }

-- ---- one event

-- its lines are put
pub said-text : (m : Machine) (event : Event) (before pieces line : List ℕ) (actions : List Action) (o0 o1 : Option (List ℕ)) →
    before ≡ [] → line ≡ printed_event event → actions ≡ (step m event).actions → pieces ≡ before ++ ended_lines (told_event (line, actions)) →
    Takes o0 o1 pieces → Takes o0 o1 (event_text m event)
unfolding event_text
said-text m event before pieces line actions o0 o1 b l a p t =
    let all : pieces ≡ ended_lines (told_event (printed_event event, (step m event).actions)) =
    p ∙ ap (λ (text : List ℕ). text ++ ended_lines (told_event (line, actions))) b
    ∙ ap (λ (text : List ℕ). ended_lines (told_event (text, actions))) l
    ∙ ap (λ (acts : List Action). ended_lines (told_event (printed_event event, acts))) a in
    subst (λ text. Takes o0 o1 text) all t

-- the actions so far were done
pub does-front : (before now then : Option (List Action)) (actions : List Action) (i : ℕ) → i < length actions → now ≡ with_more before (take i actions) → then ≡ now →
    DoesFront before then actions
does-front before now then actions i inside d e = record {
  acts = take i actions;
  front = record { rest = drop i actions; split = sym (take-append-drop i actions) };
  proper = let long = length-take-le i actions (omega (arith, inside)) in omega (arith, inside, long);
  done = e ∙ d;
}

pub said-ran : (m next : Machine) (event : Event) (actions : List Action) (d0 d1 : Option (List Action)) (o0 o1 : Option (List ℕ)) →
    next ≡ (step m event).machine → actions ≡ (step m event).actions → d1 ≡ with_more d0 actions → Takes o0 o1 (event_text m event) → IsTraceable event →
    Ran m (event ∷ []) next d0 d1 o0 o1
said-ran m next event actions d0 d1 o0 o1 n a d t traceable = record {
  machine_is = n ∙ sym (after_all-one m event);
  done = d ∙ ap (λ acts. with_more d0 acts) (a ∙ sym (acts_of-one m event));
  out = subst (λ text. Takes o0 o1 text) (sym (text_of-one m event)) t;
  traceable = All-cons IsTraceable event [] traceable (All-nil IsTraceable);
}

-- the front of an event is written, and none of its actions done
unsaid : (m : Machine) (event : Event) (d : Option (List Action)) (o0 o1 : Option (List ℕ)) (o : Outcome) (written rest : List ℕ) →
    Takes o0 o1 written → event_text m event ≡ written ++ rest → IsBreak o written (event_text m event) → ¬ (o ≡ outcome.WorldFault) → Broke m [] event d d o0 o1 o
unsaid m event d o0 o1 o written rest t split why other = record {
  written = written;
  out = t;
  acts = [];
  done = sym (with_more-nil d);
  text_behind = subst (λ text. IsFrontOf text written) (sym (text_of-none m)) (front_none written);
  text_before = record { rest = rest; split = text_of-one m event ∙ split };
  acts_behind = subst (λ acts. IsFrontOf acts []) (sym (acts_of-none m)) (front_none []);
  acts_before = front_none (acts_of m (event ∷ []));
  why = subst (λ text. IsBreak o written text) (sym (text_of-one m event)) why;
  short = λ world. absurd (other world);
}

pub unsaid-broke : (m : Machine) (event : Event) (d : Option (List Action)) (o0 o1 : Option (List ℕ)) (o : Outcome) →
    IsUnsaid o0 o1 (event_text m event) o → Broke m [] event d d o0 o1 o
unsaid-broke m event d o0 o1 outcome.Done h = absurd h
unsaid-broke m event d o0 o1 (outcome.Differ line) h = absurd h
unsaid-broke m event d o0 o1 (outcome.Refused line kind) h = absurd h
unsaid-broke m event d o0 o1 outcome.ReadFault h = absurd h
unsaid-broke m event d o0 o1 outcome.WriteFault h =
    unsaid m event d o0 o1 outcome.WriteFault h.front h.rest h.taken h.split (subst (λ text. length h.front < length text) (sym h.split) (omega (arith, h.proper, length-append h.front h.rest)))
    (λ e. absurd cc)
unsaid-broke m event d o0 o1 outcome.OutOfMemory h =
    unsaid m event d o0 o1 outcome.OutOfMemory [] (event_text m event) (rw h (Takes-nothing o0)) refl tt (λ e. absurd cc)
unsaid-broke m event d o0 o1 outcome.WorldFault h = absurd h
unsaid-broke m event d o0 o1 (outcome.TooLong line) h = absurd h

-- all that is due is written
pub of_world : (r : Outcome) (text : List ℕ) → IsOfWorld r → IsBreak r text text
of_world outcome.Done text h = absurd h
of_world (outcome.Differ line) text h = absurd h
of_world (outcome.Refused line kind) text h = absurd h
of_world outcome.ReadFault text h = absurd h
of_world outcome.WriteFault text h = absurd h
of_world outcome.OutOfMemory text h = tt
of_world outcome.WorldFault text h = refl
of_world (outcome.TooLong line) text h = absurd h

-- an event is written, and some of its actions are done
pub acts-broke : (m : Machine) (event : Event) (actions : List Action) (d0 d1 : Option (List Action)) (o0 o1 : Option (List ℕ)) (o : Outcome) →
    actions ≡ (step m event).actions → Takes o0 o1 (event_text m event) → DoesFront d0 d1 actions → IsOfWorld o → Broke m [] event d0 d1 o0 o1 o
acts-broke m event actions d0 d1 o0 o1 o a t does ofs = record {
  written = event_text m event;
  out = t;
  acts = does.acts;
  done = does.done;
  text_behind = subst (λ text. IsFrontOf text (event_text m event)) (sym (text_of-none m)) (front_none (event_text m event));
  text_before = subst (λ text. IsFrontOf (event_text m event) text) (sym (text_of-one m event)) (front_all (event_text m event));
  acts_behind = subst (λ acts. IsFrontOf acts does.acts) (sym (acts_of-none m)) (front_none does.acts);
  acts_before = subst (λ acts. IsFrontOf does.acts acts) (a ∙ sym (acts_of-one m event)) does.front;
  why = subst (λ text. IsBreak o (event_text m event) text) (sym (text_of-one m event)) (of_world o (event_text m event) ofs);
  short = λ world.
      let due : length (acts_of m (event ∷ [])) ≡ length actions = ap (λ (acts : List Action). length acts) (acts_of-one m event ∙ sym a) in
      let less = does.proper in
      omega (arith, less, due);
}

-- ---- the events that are given

pub Ran-Broke-here : (m next : Machine) (xs : List Event) (event : Event) (d0 d1 d2 : Option (List Action)) (o0 o1 o2 : Option (List ℕ)) (o : Outcome) →
    Ran m xs next d0 d1 o0 o1 → Broke next [] event d1 d2 o1 o2 o → Broke m xs event d0 d2 o0 o2 o
Ran-Broke-here m next xs event d0 d1 d2 o0 o1 o2 o a b =
    subst (λ es. Broke m es event d0 d2 o0 o2 o) (append-nil xs) (Ran-Broke m next xs [] event d0 d1 d2 o0 o1 o2 o a b)

-- one more of them was taken whole
pub first-ran : (m next last : Machine) (first : List Event) (i : ℕ) (event : Event) (d0 d1 d2 : Option (List Action)) (o0 o1 o2 : Option (List ℕ)) →
    i < length first → event ≡ get_or first i event → Ran m (take i first) next d0 d1 o0 o1 → Ran next (event ∷ []) last d1 d2 o1 o2 →
    Ran m (take (i + 1) first) last d0 d2 o0 o2
first-ran m next last first i event d0 d1 d2 o0 o1 o2 inside is a b =
    subst (λ es. Ran m es last d0 d2 o0 o2) (sym (take_more first i event inside ∙ ap (λ x. take i first ++ x ∷ []) (sym is)))
    (Ran-Ran m next last (take i first) (event ∷ []) d0 d1 d2 o0 o1 o2 a b)

pub first-broke : (m next : Machine) (first : List Event) (i : ℕ) (event : Event) (d0 d1 d2 : Option (List Action)) (o0 o1 o2 : Option (List ℕ)) (o : Outcome) →
    i < length first → event ≡ get_or first i event → Ran m (take i first) next d0 d1 o0 o1 → Broke next [] event d1 d2 o1 o2 o → BrokeAt m first d0 d2 o0 o2 o
first-broke m next first i event d0 d1 d2 o0 o1 o2 o inside is a b = record {
  before = take i first;
  event = event;
  later = drop (suc i) first;
  split = split_at first i event inside ∙ ap (λ x. take i first ++ x ∷ drop (suc i) first) (sym is);
  broke = Ran-Broke-here m next (take i first) event d0 d1 d2 o0 o1 o2 o a b;
}

-- ---- the events of a world

pub RanFor-none : (m : Machine) (t : Option (List Event)) (d : Option (List Action)) (o : Option (List ℕ)) → RanFor m 0 m t t d d o o
RanFor-none m t d o = ([], sym (with_more-nil t), refl, Ran-none m d o)

one_more : (t0 t1 t2 : Option (List Event)) (events : List Event) (event : Event) → t1 ≡ with_more t0 events → t2 ≡ with_one_more t1 event →
    t2 ≡ with_more t0 (events ++ event ∷ [])
one_more t0 t1 t2 events event before t = t ∙ ap (λ told. with_more told (event ∷ [])) before ∙ with_more-append t0 events (event ∷ [])

-- one event more was taken whole
pub RanFor-more : (m next last : Machine) (turns : ℕ) (event : Event) (t0 t1 t2 : Option (List Event)) (d0 d1 d2 d3 : Option (List Action)) (o0 o1 o2 : Option (List ℕ)) →
    RanFor m turns next t0 t1 d0 d1 o0 o1 → t2 ≡ with_one_more t1 event → d2 ≡ d1 → Ran next (event ∷ []) last d2 d3 o1 o2 →
    RanFor m (turns + 1) last t0 t2 d0 d3 o0 o2
RanFor-more m next last turns event t0 t1 t2 d0 d1 d2 d3 o0 o1 o2 a t d b =
    let behind : Ran next (event ∷ []) last d1 d3 o1 o2 = subst (λ done. Ran next (event ∷ []) last done d3 o1 o2) d b in (
      a.0 ++ event ∷ [],
      one_more t0 t1 t2 a.0 event a.1 t,
      length-append a.0 (event ∷ []) ∙ ap (λ n. n + 1) a.2,
      Ran-Ran m next last a.0 (event ∷ []) d0 d1 d3 o0 o1 o2 a.3 behind,
    )

pub RanFor-broke : (m next : Machine) (turns count : ℕ) (event : Event) (t0 t1 t2 : Option (List Event)) (d0 d1 d2 d3 : Option (List Action)) (o0 o1 o2 : Option (List ℕ))
    (o : Outcome) → RanFor m turns next t0 t1 d0 d1 o0 o1 → turns < count → t2 ≡ with_one_more t1 event → d2 ≡ d1 → Broke next [] event d2 d3 o1 o2 o →
    Stopped m count t0 t2 d0 d3 o0 o2 o
RanFor-broke m next turns count event t0 t1 t2 d0 d1 d2 d3 o0 o1 o2 o a few t d b =
    let behind : Broke next [] event d1 d3 o1 o2 o = subst (λ done. Broke next [] event done d3 o1 o2 o) d b in
    inl (record {
      before = a.0;
      event = event;
      taken = one_more t0 t1 t2 a.0 event a.1 t;
      few = rw a.2 few;
      broke = Ran-Broke-here m next a.0 event d0 d1 d3 o0 o1 o2 o a.3 behind;
    })

-- the world gave none
pub RanFor-stopped : (m next : Machine) (turns count : ℕ) (t0 t1 t2 : Option (List Event)) (d0 d1 d2 : Option (List Action)) (o0 o1 : Option (List ℕ)) (o : Outcome) →
    RanFor m turns next t0 t1 d0 d1 o0 o1 → turns < count → t2 ≡ t1 → d2 ≡ d1 → IsOfWorld o → Stopped m count t0 t2 d0 d2 o0 o1 o
RanFor-stopped m next turns count t0 t1 t2 d0 d1 d2 o0 o1 o a few t d ofs =
    inr (record {
      events = a.0;
      taken = t ∙ a.1;
      few = rw a.2 few;
      next = next;
      ran = subst (λ done. Ran m a.0 next d0 done o0 o1) (sym d) a.3;
      why = ofs;
    })

-- it is over before
pub RanFor-ended : (m next : Machine) (turns count : ℕ) (t0 t1 t2 : Option (List Event)) (ended : Bool) (d0 d1 d2 : Option (List Action)) (o0 o1 : Option (List ℕ)) →
    RanFor m turns next t0 t1 d0 d1 o0 o1 → turns < count → ended ≡ true → t2 ≡ t1 → d2 ≡ d1 → Came m count t0 t2 ended d0 d2 o0 o1
RanFor-ended m next turns count t0 t1 t2 ended d0 d1 d2 o0 o1 a few e t d = record {
  events = a.0;
  taken = t ∙ a.1;
  all = inr (rw a.2 few, e);
  next = next;
  ran = subst (λ done. Ran m a.0 next d0 done o0 o1) (sym d) a.3;
}

pub RanFor-all : (m next : Machine) (turns count : ℕ) (t0 t1 : Option (List Event)) (ended : Bool) (d0 d1 : Option (List Action)) (o0 o1 : Option (List ℕ)) →
    RanFor m turns next t0 t1 d0 d1 o0 o1 → turns ≡ count → Came m count t0 t1 ended d0 d1 o0 o1
RanFor-all m next turns count t0 t1 ended d0 d1 o0 o1 a all = record { events = a.0; taken = a.1; all = inl (a.2 ∙ all); next = next; ran = a.3 }
