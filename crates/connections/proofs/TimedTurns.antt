-- The timers of a queue are the deadlines of the connections: that is so after each change of a connection.
use Rattle.std.proofs.Common.{◌≡◌, ℕ, ◌+◌, ◌<◌, ◌≤◌, ◌==◌, ◌&&◌, ◌||◌, Bool, true, false, not, cond, List, [], ◌∷◌, ◌++◌, map, filter, find, Option, Some, None, IfSome, IsSome, IsSomeAnd, is_some, refl, sym, ap, subst, ◌∙◌, inl, inr, arith}
use Rattle.std.specs.List.{AllByRecursion, flat_map, list_any}
use Rattle.std.proofs.lemmas.Bool.{cases_Bool, and_right, true≢false, false≢true}
use Rattle.std.proofs.lemmas.Bool.Decides.{nat_tests}
use Rattle.std.proofs.lemmas.List.{map-append}
use Rattle.std.proofs.lemmas.List.Folds.{list_any-append}
use Rattle.std.proofs.lemmas.Option.{none-some, same_Some}
use Rattle.conn_state.specs.Use.{has_id}
use Rattle.conn_table.specs.Table.{IdsRise}
use Rattle.connections.specs.Standing.{Standing, entry_with, facts_in, turned, come, gone, Turns}
use Rattle.connections.specs.Timed.{ids_in, deadlines_in, IsTimed, IsTimedBut}
use Rattle.machine.specs.Deadlines.{deadlines_of, phase_deadlines, grace_deadlines, reply_kind, reply_deadline}
use Rattle.machine.specs.Machine.{Entry, Owed, fresh_entry}
use Rattle.net_base.specs.Timer.{deadline_before}
use Rattle.net_base.specs.declared.connection.Cid.{Cid}
use Rattle.net_base.specs.declared.connection.Facts.{Facts}
use Rattle.net_base.specs.declared.connection.Grace.{Grace}
use Rattle.net_base.specs.declared.connection.Grace.TheVariants.{Off, ForRemote, ForLocal}
use Rattle.net_base.specs.declared.connection.Phase.{Phase}
use Rattle.net_base.specs.declared.connection.Phase.TheVariants.{Dialing, Greeting, Negotiated, Closing}
use Rattle.net_base.specs.declared.timer.Deadline.{Deadline}
use Rattle.net_base.specs.declared.timer.Kind.{Kind}
use Rattle.net_base.specs.declared.timer.Kind.TheVariants.{Handshake, Grace as GraceKind, TimeWait}
use Rattle.timer_queue.specs.Order.{IsRising}
use Rattle.timer_queue.specs.Queue.{Queue, IsOrderly, told, is_enrolled, with_id, with_enrolled, without_connection}
use Rattle.timer_queue.specs.Timers.{timer, same_cid, cid_below, same_kind, same_timer, has_timer, HaveSame, is_of, without_cid, least, due_at, where_due}
use Rattle.timer_queue.proofs.Firsts.{HaveSame-due_at, least-due_at, least-same}
use Rattle.timer_queue.proofs.Orderly.{nobody_leaves}
use Rattle.timer_queue.proofs.Orders.{timer_order, cid_order, same_cid-is}
use Rattle.timer_queue.proofs.Rising.{has-filter, any-find, any-map, find-replaced, map-replaced, map-taken_out}

abbrev pub id_of : Entry → Cid
id_of e = e.facts.cid

pub has-append : (d : Deadline) (xs ys : List Deadline) → has_timer d (xs ++ ys) ≡ (has_timer d xs || has_timer d ys)
has-append d xs ys = list_any-append (λ e. same_timer e d) xs ys

pub has-without : (cid : Cid) (d : Deadline) (ds : List Deadline) → has_timer d (without_cid cid ds) ≡ (has_timer d ds && not (is_of cid d))
has-without cid d ds = has-filter deadline_before same_timer timer_order (λ e. not (is_of cid e)) d ds

-- ---- a timer of another connection is no deadline of this one

apart : (d : Deadline) (cid : Cid) (kind : Kind) (at : ℕ) → is_of cid d ≡ false → same_timer (timer cid kind at) d ≡ false
apart d cid kind at other = by_numbers at d.at cid.0 d.cid.0 (same_kind kind d.kind) other
  where
    by_numbers : (a b i j : ℕ) (k : Bool) → (j == i) ≡ false → (a == b && (i == j && k)) ≡ false
    by_numbers a b i j k h = grind (arith, nat_tests)

phase-apart : (d : Deadline) (cid : Cid) (phase : Phase) → is_of cid d ≡ false → has_timer d (phase_deadlines cid phase) ≡ false
phase-apart d cid Dialing other = refl
phase-apart d cid (Greeting until) other = rw (apart d cid Handshake until other) refl
phase-apart d cid Negotiated other = refl
phase-apart d cid (Closing until) other = rw (apart d cid TimeWait until other) refl

grace-apart : (d : Deadline) (cid : Cid) (grace : Grace) → is_of cid d ≡ false → has_timer d (grace_deadlines cid grace) ≡ false
grace-apart d cid Off other = refl
grace-apart d cid (ForRemote until) other = rw (apart d cid GraceKind until other) refl
grace-apart d cid (ForLocal until) other = rw (apart d cid GraceKind until other) refl

owed-apart : (d : Deadline) (cid : Cid) (owed : List Owed) → is_of cid d ≡ false → has_timer d (map (reply_deadline cid) owed) ≡ false
owed-apart d cid [] other = refl
owed-apart d cid (o ∷ os) other = rw (apart d cid (reply_kind o.protocol) o.until other) (owed-apart d cid os other)

pub entry-apart : (d : Deadline) (e : Entry) → is_of e.facts.cid d ≡ false → has_timer d (deadlines_of e) ≡ false
entry-apart d e other =
    let cid = e.facts.cid in
    has-append d (phase_deadlines cid e.facts.phase ++ grace_deadlines cid e.facts.grace) (map (reply_deadline cid) e.owed)
    ∙ rw (
      has-append d (phase_deadlines cid e.facts.phase) (grace_deadlines cid e.facts.grace),
      phase-apart d cid e.facts.phase other,
      grace-apart d cid e.facts.grace other,
    ) (owed-apart d cid e.owed other)

abbrev among : Deadline → List Entry → Bool
among d es = has_timer d (flat_map deadlines_of es)

among-cons : (d : Deadline) (e : Entry) (es : List Entry) → among d (e ∷ es) ≡ (has_timer d (deadlines_of e) || among d es)
among-cons d e es = has-append d (deadlines_of e) (flat_map deadlines_of es)

among-both : (d : Deadline) (e f : Entry) (es fs : List Entry) → has_timer d (deadlines_of e) ≡ has_timer d (deadlines_of f) →
    among d es ≡ among d fs → among d (e ∷ es) ≡ among d (f ∷ fs)
among-both d e f es fs first rest =
    among-cons d e es
    ∙ (ap (λ b. b || among d es) first ∙ (ap (λ b. has_timer d (deadlines_of f) || b) rest ∙ sym (among-cons d f fs)))

-- ---- the connection turns

abbrev pub turned_in : Entry → List Entry → List Entry
turned_in new es = map (λ e. cond (same_cid e.facts.cid new.facts.cid) new e) es

among-turned : (d : Deadline) (new : Entry) (es : List Entry) → is_of new.facts.cid d ≡ false → among d (turned_in new es) ≡ among d es
among-turned d new [] other = refl
among-turned d new (e ∷ es) other = elim (cases_Bool (same_cid e.facts.cid new.facts.cid)) [
  | inl same ↦
      let old : has_timer d (deadlines_of e) ≡ false =
      entry-apart d e (ap (λ (c : Cid). is_of c d) (same_cid-is e.facts.cid new.facts.cid same) ∙ other) in
      rw same (among-both d new e (turned_in new es) es (entry-apart d new other ∙ sym old) (among-turned d new es other))
  | inr gone ↦ rw gone (among-both d e e (turned_in new es) es refl (among-turned d new es other))
]

pub stands_as : (cid : Cid) (es : List Entry) → is_some (find (λ e. has_id cid.0 e.facts) es) ≡ list_any (λ e. same_cid e.facts.cid cid) es
stands_as cid es = any-find cid_below same_cid cid_order id_of cid es

pub own_id : (cid : Cid) (es : List Entry) (e : Entry) → find (λ x. has_id cid.0 x.facts) es ≡ Some e → e.facts.cid ≡ cid
own_id cid [] e found = absurd (none-some e found)
own_id cid (x ∷ xs) e found = elim (cases_Bool (same_cid x.facts.cid cid)) [
  | inl here ↦ ap id_of (sym (same_Some x e (rw here at found))) ∙ same_cid-is x.facts.cid cid here
  | inr gone ↦ own_id cid xs e (rw gone at found)
]

-- what was found, by itself
pub found_one : (o : Option Entry) → IsSome o → (e : Entry) × (o ≡ Some e)
found_one None h = absurd (false≢true h)
found_one (Some e) h = (e, refl)

pub if_found : (P : Entry → Type 0) (o : Option Entry) (e : Entry) → o ≡ Some e → IfSome o P → P e
if_found P o e is h = subst (λ p. IfSome p P) is h

apart_both : (x y b : Bool) → (b ≡ false → x ≡ y) → (x && not b) ≡ (y && not b)
apart_both x y true h = and_right x false refl ∙ sym (and_right y false refl)
apart_both x y false h = ap (λ z. z && true) (h refl)

turned_but_by : (cid : Cid) (new : Entry) (s : Standing) (queue : Queue) → IsTimed s queue → new.facts.cid ≡ cid → IsSome (entry_with cid.0 s) →
    IsTimedBut cid (turned new s) queue
turned_but_by cid new s queue timed own there =
    subst (λ c. IsTimedBut c (turned new s) queue) own record {
      enrolled = timed.enrolled ∙ sym (map-replaced cid_below same_cid cid_order id_of new.facts.cid new s.entries refl);
      timers = λ d. has-without new.facts.cid d queue.timers
          ∙ (apart_both _ _ (is_of new.facts.cid d) (λ other. timed.timers d ∙ sym (among-turned d new s.entries other))
          ∙ sym (has-without new.facts.cid d (deadlines_in (turned new s))));
      orderly = timed.orderly;
      stands = ap is_some (find-replaced cid_below same_cid cid_order id_of new.facts.cid new s.entries (cid_order.same_itself new.facts.cid)
          (sym (stands_as new.facts.cid s.entries) ∙ subst (λ c. IsSome (entry_with c.0 s)) (sym own) there));
    }

-- a change of a connection leaves the timers of every other one
pub turned_but : (cid : Cid) (change : Entry → Entry) (old new : Standing) (queue : Queue) → IsTimed old queue → IsSome (entry_with cid.0 old) →
    ((e : Entry) → (change e).facts.cid ≡ e.facts.cid) → Turns cid.0 change old new → IsTimedBut cid new queue
turned_but cid change old new queue timed there keeps turns =
    let it = found_one (entry_with cid.0 old) there in
    let is : new ≡ turned (change it.0) old = if_found (λ e. new ≡ turned (change e) old) (entry_with cid.0 old) it.0 it.1 turns in
    subst (λ s. IsTimedBut cid s queue) (sym is)
    (turned_but_by cid (change it.0) old queue timed (keeps it.0 ∙ own_id cid old.entries it.0 it.1) there)

-- what stands of the one that turned
pub turned_there : (cid : Cid) (change : Entry → Entry) (old new : Standing) (e : Entry) → entry_with cid.0 old ≡ Some e → (change e).facts.cid ≡ cid →
    Turns cid.0 change old new → entry_with cid.0 new ≡ Some (change e)
turned_there cid change old new e found own turns =
    let is : new ≡ turned (change e) old = if_found (λ x. new ≡ turned (change x) old) (entry_with cid.0 old) e found turns in
    let there : entry_with (change e).facts.cid.0 old ≡ Some e = ap (λ (c : Cid). entry_with c.0 old) own ∙ found in
    ap (entry_with cid.0) is
    ∙ (ap (λ (c : Cid). entry_with c.0 (turned (change e) old)) (sym own)
    ∙ find-replaced cid_below same_cid cid_order id_of (change e).facts.cid (change e) old.entries (cid_order.same_itself (change e).facts.cid)
    (sym (stands_as (change e).facts.cid old.entries) ∙ subst IsSome (sym there) refl))

-- what a move asks of the connection says that it stands
pub stands_in : (cid : Cid) (s t : Standing) → t ≡ s → IsSome (entry_with cid.0 s) → IsSome (entry_with cid.0 t)
stands_in cid s t is there = subst (λ r. IsSome (entry_with cid.0 r)) (sym is) there

pub some_of : (P : Entry → Type 0) (o : Option Entry) → IsSomeAnd o P → IsSome o
some_of P None h = absurd h
some_of P (Some e) h = refl

pub moved_but : (cid : Cid) (P : Entry → Type 0) (change : Entry → Entry) (s old new : Standing) (queue : Queue) → IsTimed old queue → old ≡ s →
    IsSomeAnd (entry_with cid.0 s) P → ((e : Entry) → (change e).facts.cid ≡ e.facts.cid) → Turns cid.0 change old new → IsTimedBut cid new queue
moved_but cid P change s old new queue timed is asked keeps turns =
    turned_but cid change old new queue timed (stands_in cid s old is (some_of P (entry_with cid.0 s) asked)) keeps turns

-- ---- its timers are its deadlines again

none-above : (d : Deadline) (cid : Cid) (es : List Entry) → is_of cid d ≡ true → AllByRecursion (λ c. cid_below cid c ≡ true) (map id_of es) →
    among d es ≡ false
none-above d cid [] its above = refl
none-above d cid (e ∷ es) its above =
    among-cons d e es ∙ rw (entry-apart d e (grind (arith, nat_tests, its, above.0))) (none-above d cid es its above.1)

among-own : (d : Deadline) (cid : Cid) (es : List Entry) (e : Entry) → is_of cid d ≡ true → IsRising cid_below (λ c. c) (map id_of es) →
    find (λ x. has_id cid.0 x.facts) es ≡ Some e → among d es ≡ has_timer d (deadlines_of e)
among-own d cid [] e its rises found = absurd (none-some e found)
among-own d cid (x ∷ xs) e its rises found = elim (cases_Bool (same_cid x.facts.cid cid)) [
  | inl here ↦
      let is : x ≡ e = same_Some x e (rw here at found) in
      let own : is_of x.facts.cid d ≡ true = ap (λ (c : Cid). is_of c d) (same_cid-is x.facts.cid cid here) ∙ its in
      among-cons d x xs
      ∙ (ap (λ b. has_timer d (deadlines_of x) || b) (none-above d x.facts.cid xs own rises.0)
      ∙ (or_false (has_timer d (deadlines_of x)) ∙ ap (λ y. has_timer d (deadlines_of y)) is))
  | inr gone ↦
      among-cons d x xs
      ∙ rw (entry-apart d x (grind (arith, nat_tests, its, gone))) (among-own d cid xs e its rises.1 (rw gone at found))
]
  where
    or_false : (b : Bool) → (b || false) ≡ b
    or_false true = refl
    or_false false = refl

-- of a connection the timers are the deadlines
pub own_deadlines : (cid : Cid) (s : Standing) (queue : Queue) (e : Entry) → IsTimed s queue → entry_with cid.0 s ≡ Some e →
    (d : Deadline) → is_of cid d ≡ true → has_timer d queue.timers ≡ has_timer d (deadlines_of e)
own_deadlines cid s queue e timed found d its =
    timed.timers d ∙ among-own d cid s.entries e its (subst (IsRising cid_below (λ c. c)) timed.enrolled timed.orderly.ids_rise) found

pub timed_again : (cid : Cid) (s : Standing) (old new : Queue) (e : Entry) → IsTimedBut cid s old → entry_with cid.0 s ≡ Some e →
    new.enrolled ≡ old.enrolled → HaveSame new.timers (deadlines_of e ++ without_cid e.facts.cid old.timers) → IsOrderly new → IsTimed s new
timed_again cid s old new e but found enrolled same orderly = record {
  enrolled = enrolled ∙ but.enrolled;
  timers = λ d.
      let own : e.facts.cid ≡ cid = own_id cid s.entries e found in
      same d
      ∙ (has-append d (deadlines_of e) (without_cid e.facts.cid old.timers)
      ∙ (ap (λ (c : Cid). has_timer d (deadlines_of e) || has_timer d (without_cid c old.timers)) own
      ∙ (ap (λ b. has_timer d (deadlines_of e) || b) (but.timers d ∙ has-without cid d (deadlines_in s))
      ∙ elim (cases_Bool (is_of cid d)) [
        | inl its ↦
            let rises : IsRising cid_below (λ c. c) (ids_in s) = subst (IsRising cid_below (λ c. c)) but.enrolled but.orderly.ids_rise in
            rw its (own_alone (has_timer d (deadlines_of e)) (has_timer d (deadlines_in s)) (among-own d cid s.entries e its rises found))
        | inr other ↦
            let none : has_timer d (deadlines_of e) ≡ false = entry-apart d e (ap (λ (c : Cid). is_of c d) own ∙ other) in
            rw (none, other) (and_true (has_timer d (deadlines_in s)))
      ])));
  orderly = orderly;
}
  where
    own_alone : (x y : Bool) → y ≡ x → (x || (y && false)) ≡ y
    own_alone true true h = refl
    own_alone true false h = absurd (false≢true h)
    own_alone false true h = absurd (true≢false h)
    own_alone false false h = refl

    and_true : (b : Bool) → (b && true) ≡ b
    and_true true = refl
    and_true false = refl

-- the queue has room for the timers of a connection that stands
pub has_room : (cid : Cid) (s : Standing) (queue : Queue) → IsTimedBut cid s queue → is_enrolled cid queue ≡ true
has_room cid s queue but =
    ap (λ ids. list_any (λ c. same_cid c cid) ids) but.enrolled
    ∙ (any-map cid_below same_cid cid_order id_of cid s.entries ∙ (sym (stands_as cid s.entries) ∙ but.stands))

-- ---- the deadlines stay

among-same : (d : Deadline) (new old : Entry) (es : List Entry) → deadlines_of new ≡ deadlines_of old →
    find (λ x. has_id new.facts.cid.0 x.facts) es ≡ Some old → IsRising cid_below (λ c. c) (map id_of es) →
    among d (turned_in new es) ≡ among d es
among-same d new old [] same found rises = refl
among-same d new old (x ∷ xs) same found rises = elim (cases_Bool (same_cid x.facts.cid new.facts.cid)) [
  | inl here ↦
      let is : x ≡ old = same_Some x old (rw here at found) in
      let above : AllByRecursion (λ c. cid_below new.facts.cid c ≡ true) (map id_of xs) =
      subst (λ (c : Cid). AllByRecursion (λ k. cid_below c k ≡ true) (map id_of xs)) (same_cid-is x.facts.cid new.facts.cid here) rises.0 in
      rw here (among-both d new x (turned_in new xs) xs (ap (has_timer d) (same ∙ ap deadlines_of (sym is))) (ap (among d) (stays xs above)))
  | inr gone ↦ rw gone (among-both d x x (turned_in new xs) xs refl (among-same d new old xs same (rw gone at found) rises.1))
]
  where
    stays : (ys : List Entry) → AllByRecursion (λ c. cid_below new.facts.cid c ≡ true) (map id_of ys) →
        turned_in new ys ≡ ys
    stays [] above = refl
    stays (y ∷ ys) above =
        let other : same_cid y.facts.cid new.facts.cid ≡ false = grind (arith, nat_tests, above.0) in
        rw other (ap (λ l. y ∷ l) (stays ys above.1))

-- a change that leaves the deadlines leaves the timers
pub turned_same : (cid : Cid) (change : Entry → Entry) (old new : Standing) (queue : Queue) → IsTimed old queue → IsSome (entry_with cid.0 old) →
    ((e : Entry) → (change e).facts.cid ≡ e.facts.cid) → ((e : Entry) → deadlines_of (change e) ≡ deadlines_of e) → Turns cid.0 change old new →
    IsTimed new queue
turned_same cid change old new queue timed there keeps same turns =
    let it = found_one (entry_with cid.0 old) there in
    let is : new ≡ turned (change it.0) old = if_found (λ e. new ≡ turned (change e) old) (entry_with cid.0 old) it.0 it.1 turns in
    let own : (change it.0).facts.cid ≡ cid = keeps it.0 ∙ own_id cid old.entries it.0 it.1 in
    let found : entry_with (change it.0).facts.cid.0 old ≡ Some it.0 = ap (λ (c : Cid). entry_with c.0 old) own ∙ it.1 in
    let rises : IsRising cid_below (λ c. c) (ids_in old) = subst (IsRising cid_below (λ c. c)) timed.enrolled timed.orderly.ids_rise in
    subst (λ s. IsTimed s queue) (sym is) record {
      enrolled = timed.enrolled ∙ sym (map-replaced cid_below same_cid cid_order id_of (change it.0).facts.cid (change it.0) old.entries refl);
      timers = λ d. timed.timers d ∙ sym (among-same d (change it.0) it.0 old.entries (same it.0) found rises);
      orderly = timed.orderly;
    }

-- ---- a connection comes

up_to : (above most : ℕ) (fs : List Facts) → IdsRise above most fs → above ≤ most
up_to above most [] rises = rises
up_to above most (f ∷ fs) rises = omega (arith, rises.0, up_to f.cid.0 most fs rises.1)

-- all ids that were given are below the next one
given_below : (above most : ℕ) (next : Cid) (es : List Entry) → IdsRise above most (map (λ e. e.facts) es) → most + 1 ≡ next.0 →
    AllByRecursion (λ c. cid_below c next ≡ true) (map id_of es)
given_below above most next [] rises is = tt
given_below above most next (e ∷ es) rises is =
    (lower (up_to e.facts.cid.0 most (map (λ x. x.facts) es) rises.1), given_below e.facts.cid.0 most next es rises.1 is)
  where
    lower : e.facts.cid.0 ≤ most → cid_below e.facts.cid next ≡ true
    lower h = let lt : e.facts.cid.0 < next.0 = omega (arith, h, is) in grind (arith, nat_tests, lt)

all_below : (next : Cid) (ids : List Cid) → AllByRecursion (λ c. cid_below c next ≡ true) ids → filter (λ c. cid_below c next) ids ≡ ids
all_below next [] below = refl
all_below next (c ∷ cs) below = rw below.0 (ap (λ l. c ∷ l) (all_below next cs below.1))

none_over : (next : Cid) (ids : List Cid) → AllByRecursion (λ c. cid_below c next ≡ true) ids → filter (λ c. cid_below next c) ids ≡ []
none_over next [] below = refl
none_over next (c ∷ cs) below =
    let upto : cid_below next c ≡ false = grind (arith, nat_tests, below.0) in
    rw upto (none_over next cs below.1)

none_same : (next : Cid) (ids : List Cid) → AllByRecursion (λ c. cid_below c next ≡ true) ids → list_any (λ c. same_cid c next) ids ≡ false
none_same next [] below = refl
none_same next (c ∷ cs) below =
    let other : same_cid c next ≡ false = grind (arith, nat_tests, below.0) in
    rw other (none_same next cs below.1)

enrolled_last : (next : Cid) (ids : List Cid) → AllByRecursion (λ c. cid_below c next ≡ true) ids → with_id next ids ≡ ids ++ next ∷ []
enrolled_last next ids below = rw (all_below next ids below, none_over next ids below) refl

stands_last : (cid : ℕ) (es : List Entry) (new : Entry) → has_id cid new.facts ≡ true → IsSome (find (λ e. has_id cid e.facts) (es ++ new ∷ []))
stands_last cid [] new own = rw own refl
stands_last cid (e ∷ es) new own = elim (cases_Bool (has_id cid e.facts)) [
  | inl here ↦ rw here refl
  | inr gone ↦ rw gone (stands_last cid es new own)
]

among-last : (d : Deadline) (new : Entry) (es : List Entry) → is_of new.facts.cid d ≡ false → among d (es ++ new ∷ []) ≡ among d es
among-last d new [] other = among-cons d new [] ∙ rw (entry-apart d new other) refl
among-last d new (e ∷ es) other =
    among-cons d e (es ++ new ∷ [])
    ∙ (ap (λ b. has_timer d (deadlines_of e) || b) (among-last d new es other) ∙ sym (among-cons d e es))

-- what the count of given ids says of those that stand
pub all_given : (given : ℕ) (next : Cid) (s : Standing) → IdsRise 0 given (facts_in s) → given + 1 ≡ next.0 →
    AllByRecursion (λ c. cid_below c next ≡ true) (ids_in s)
all_given given next s rises is = given_below 0 given next s.entries rises is

pub come_but : (f : Facts) (s : Standing) (old new : Queue) → IsTimed s old → AllByRecursion (λ c. cid_below c f.cid ≡ true) (ids_in s) →
    new ≡ with_enrolled f.cid old → IsOrderly new → IsTimedBut f.cid (come f s) new
come_but f s old new timed below is orderly = record {
  enrolled = ap (λ (q : Queue). q.enrolled) is
      ∙ (ap (with_id f.cid) timed.enrolled
      ∙ (enrolled_last f.cid (ids_in s) below ∙ sym (map-append id_of s.entries (fresh_entry f ∷ []))));
  timers = λ d. ap (λ (q : Queue). has_timer d (without_cid f.cid q.timers)) is
      ∙ (has-without f.cid d old.timers
      ∙ (apart_both _ _ (is_of f.cid d) (λ other. timed.timers d ∙ sym (among-last d (fresh_entry f) s.entries other))
      ∙ sym (has-without f.cid d (deadlines_in (come f s)))));
  orderly = orderly;
  stands = stands_last f.cid.0 s.entries (fresh_entry f) (cid_order.same_itself f.cid);
}

-- it doesn't come after all
pub left_again : (next : Cid) (s : Standing) (old enrolled new : Queue) → IsTimed s old → AllByRecursion (λ c. cid_below c next ≡ true) (ids_in s) →
    enrolled ≡ with_enrolled next old → new ≡ without_connection next enrolled → IsOrderly new → IsTimed s new
left_again next s old enrolled new timed below is_then is orderly =
    let both : new ≡ without_connection next (with_enrolled next old) = is ∙ ap (without_connection next) is_then in
    let absent : is_enrolled next old ≡ false = ap (λ ids. list_any (λ c. same_cid c next) ids) timed.enrolled ∙ none_same next (ids_in s) below in
    record {
      enrolled = ap (λ (q : Queue). q.enrolled) both
          ∙ (ap (λ ids. filter (λ c. not (same_cid c next)) (with_id next ids)) timed.enrolled
          ∙ (ap (filter (λ c. not (same_cid c next))) (enrolled_last next (ids_in s) below) ∙ all_others (ids_in s) below));
      timers = λ d. ap (λ (q : Queue). has_timer d q.timers) both
          ∙ (ap (λ (q : Queue). has_timer d q.timers) (nobody_leaves next old timed.orderly absent) ∙ timed.timers d);
      orderly = orderly;
    }
  where
    all_others : (ids : List Cid) → AllByRecursion (λ c. cid_below c next ≡ true) ids → filter (λ c. not (same_cid c next)) (ids ++ next ∷ []) ≡ ids
    all_others [] h = rw (cid_order.same_itself next) refl
    all_others (c ∷ cs) h =
        let other : same_cid c next ≡ false = grind (arith, nat_tests, h.0) in
        rw other (ap (λ l. c ∷ l) (all_others cs h.1))

-- ---- a connection goes

abbrev pub others_in : Cid → List Entry → List Entry
others_in cid es = filter (λ e. not (same_cid e.facts.cid cid)) es

among-gone : (cid : Cid) (d : Deadline) (es : List Entry) → among d (others_in cid es) ≡ (among d es && not (is_of cid d))
among-gone cid d [] = refl
among-gone cid d (e ∷ es) = elim (cases_Bool (same_cid e.facts.cid cid)) [
  | inl here ↦
      let own : e.facts.cid ≡ cid = same_cid-is e.facts.cid cid here in
      rw here (among-gone cid d es
      ∙ (apart_both _ _ (is_of cid d) (λ other.
      sym (among-cons d e es ∙ rw (entry-apart d e (ap (λ (c : Cid). is_of c d) own ∙ other)) refl))))
  | inr other ↦ rw other (among-cons d e (others_in cid es)
      ∙ (ap (λ b. has_timer d (deadlines_of e) || b) (among-gone cid d es)
      ∙ (kept (is_of cid d) other refl ∙ ap (λ b. b && not (is_of cid d)) (sym (among-cons d e es)))))
]
  where
    both : (x y : Bool) → (x || (y && true)) ≡ ((x || y) && true)
    both true y = refl
    both false y = refl

    kept : (b : Bool) → same_cid e.facts.cid cid ≡ false → is_of cid d ≡ b →
        (has_timer d (deadlines_of e) || (among d es && not b)) ≡ ((has_timer d (deadlines_of e) || among d es) && not b)
    kept true other its = rw (entry-apart d e (grind (arith, nat_tests, its, other))) refl
    kept false other gone = both (has_timer d (deadlines_of e)) (among d es)

pub gone_timed : (cid : Cid) (s new : Standing) (old queue : Queue) → IsTimed s old → new ≡ gone cid.0 s → queue ≡ without_connection cid old →
    IsOrderly queue → IsTimed new queue
gone_timed cid s new old queue timed is queue_is orderly =
    subst (λ t. IsTimed t queue) (sym is) record {
      enrolled = ap (λ (q : Queue). q.enrolled) queue_is
          ∙ (ap (filter (λ c. not (same_cid c cid))) timed.enrolled
          ∙ sym (map-taken_out cid_below same_cid cid_order id_of cid s.entries));
      timers = λ d. ap (λ (q : Queue). has_timer d q.timers) queue_is
          ∙ (has-without cid d old.timers
          ∙ (ap (λ b. b && not (is_of cid d)) (timed.timers d) ∙ sym (among-gone cid d s.entries)));
      orderly = orderly;
    }

-- ---- the deadline that is due

pub first_due : (now : ℕ) (s t : Standing) (queue : Queue) → IsTimed s queue → s ≡ t → where_due now (least queue.timers) ≡ least (due_at now (deadlines_in t))
first_due now s t queue timed is =
    sym (least-due_at now queue.timers timed.orderly.in_order)
    ∙ (least-same (due_at now queue.timers) (due_at now (deadlines_in s)) (HaveSame-due_at now queue.timers (deadlines_in s) timed.timers)
    ∙ ap (λ (r : Standing). least (due_at now (deadlines_in r))) is)

pub none_told : (o : Option Deadline) → None ≡ told o → o ≡ None
none_told None h = refl
none_told (Some d) h = cc

pub one_told : (o : Option Deadline) (at : ℕ) (cid : Cid) (kind : Kind) → Some (at, cid, kind) ≡ told o → o ≡ Some (timer cid kind at)
one_told None at cid kind h = cc
one_told (Some d) at cid kind h = ap (λ (t : ℕ × Cid × Kind). Some (timer t.1 t.2 t.0)) (same_Some (d.at, d.cid, d.kind) (at, cid, kind) (sym h))
