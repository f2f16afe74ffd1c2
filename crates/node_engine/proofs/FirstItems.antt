-- Bytes of which the first item was judged before the others were taken, and items of a connection that has ended.
use Rattle.std.proofs.Common.{◌≡◌, ℕ, suc, ◌+◌, arith, drop-cons, true, not, if◌then◌else◌, List, [], ◌∷◌, ◌++◌, drop, map, filter, slice_get, Option, Some, None, append_assoc, append-nil, refl, sym, ap, subst, ◌∙◌, inl, inr, eq-eqb}
use Rattle.std.specs.Option.{option_map}
use Rattle.std.proofs.lemmas.Bool.{cases_Bool}
use Rattle.std.proofs.lemmas.Option.{slice_get_within, get_or_from_slice_get}
use Rattle.conn_state.specs.Names.{name_of, name_place, same_name}
use Rattle.conn_state.specs.Use.{has_id, is_greeting_phase, is_greeting}
use Rattle.connections.specs.Standing.{fed_of, fed_entry}
use Rattle.hs_receive.specs.Receiving.{receives}
use Rattle.hs_receive.specs.declared.received.Received.{Received}
use Rattle.hs_receive.specs.declared.received.Received.TheVariants as received
use Rattle.laws.proofs.Moments.{ending-none, turned-found}
use Rattle.machine.specs.Connections.{with_entry, without_entry, entry_turns, lost_by, ending}
use Rattle.machine.specs.Effect.{Effect, then_do, on_entry, on_connection, for_each}
use Rattle.machine.specs.Greeting.{role_of, greets}
use Rattle.machine.specs.Machine.{Machine, Entry, entry_at}
use Rattle.machine.specs.Own.{own_info}
use Rattle.machine.specs.Stream.{handled_in, handled, handles, faulted, feeds}
use Rattle.mux_segment.specs.declared.item.Item.{Item}
use Rattle.net_base.specs.declared.action.Action.{Action}
use Rattle.net_base.specs.declared.action.Action.TheVariants.{Close, State}
use Rattle.net_base.specs.declared.action.CloseCause.{CloseCause}
use Rattle.net_base.specs.declared.action.CloseCause.TheVariants as cause
use Rattle.net_base.specs.declared.action.FaultKind.{FaultKind}
use Rattle.net_base.specs.declared.action.StateName.TheVariants.{Terminated}
use Rattle.net_base.specs.declared.connection.Cid.{Cid}
use Rattle.net_base.specs.declared.connection.Facts.{Facts}
use Rattle.net_base.specs.declared.connection.Phase.{Phase}
use Rattle.net_base.specs.declared.connection.Phase.TheVariants.{Dialing, Greeting, Negotiated, Closing}
use Rattle.node_engine.specs.Greets.{greeted_as, feeds_as}
use Rattle.node_engine.specs.State.{Does, DoesSilently, DoesTo, IsKnown}
use Rattle.node_engine.proofs.DoesLemmas.{does_silently}
use Rattle.node_engine.proofs.Doings.{does_nothing, does_then, known, of_entry}
use Rattle.node_engine.proofs.Going.{IsGoing}
use Rattle.node_engine.proofs.GreetLemmas.{greets-as}

-- ---- where the connection has ended, nothing more is done

absent-one : (cid : Cid) (act : Entry → Machine → Effect) (m : Machine) (before : List Action) → entry_at cid.0 m ≡ None →
    Does (on_connection cid act m) before m before
absent-one cid act m before none = subst (λ o. Does (on_entry o act m) before m before) (sym none) (does_nothing m before)

absent-each : (cid : Cid) (items : List Item) (m : Machine) (before : List Action) → entry_at cid.0 m ≡ None →
    Does (for_each (handles cid) items m) before m before
unfolding for_each
absent-each cid [] m before none = does_nothing m before
absent-each cid (item ∷ items) m before none =
    does_then (handles cid item m) (for_each (handles cid) items) before before before m m (absent-one cid (handled item) m before none)
    (absent-each cid items m before none)

pub going-absent : (cid : Cid) (all rest : List Item) (first m : Machine) (before after : List Action) → entry_at cid.0 m ≡ None →
    IsGoing (handles cid) all rest first before m after → Does (for_each (handles cid) all first) before m after
going-absent cid all rest first m before after none h =
    let ends = absent-each cid rest m after none in
    record { machine_is = ends.machine_is ∙ sym h.machine_left; actions_are = ends.actions_are ∙ sym h.actions_left }

pub none-found : (o : Option Entry) → None ≡ option_map (λ e. e.facts) o → o ≡ None
none-found None is = refl
none-found (Some e) is = absurd cc

pub drop-at : (items : List Item) (place : ℕ) (item : Item) → slice_get items place ≡ Some item → drop place items ≡ item ∷ drop (place + 1) items
drop-at items place item is =
    let next : suc place ≡ place + 1 = omega arith in
    drop-cons items place item (slice_get_within items place item is) ∙ rw (get_or_from_slice_get items place item item is, next) refl

-- what is done to a known connection is done on the one with its id
pub handled-known : (cid : Cid) (item : Item) (facts : Facts) (m n : Machine) (before after : List Action) → facts.cid ≡ cid → IsKnown facts m →
    DoesTo facts.cid.0 (handled item) before m n after → Does (handles cid item m) before n after
handled-known cid item facts m n before after own there done =
    let it = known facts m there in
    let found : entry_at cid.0 m ≡ Some it.0 = subst (λ (c : Cid). entry_at c.0 m ≡ Some it.0) own it.1 in
    subst (λ o. Does (on_entry o (handled item) m) before n after) (sym found)
    (of_entry (λ e. Does (handled item e m) before n after) (entry_at facts.cid.0 m) it.0 it.1 done)

-- ---- a connection that goes, whatever was not decoded of it

gone_anyway : (new : Entry) (es : List Entry) →
    filter (λ e. not (has_id new.facts.cid.0 e.facts)) (map (λ e. if has_id new.facts.cid.0 e.facts then new else e) es)
    ≡ filter (λ e. not (has_id new.facts.cid.0 e.facts)) es
gone_anyway new [] = refl
gone_anyway new (e ∷ es) =
    let itself : has_id new.facts.cid.0 new.facts ≡ true = eq-eqb new.facts.cid.0 new.facts.cid.0 refl in
    let others = gone_anyway new es in
    elim (cases_Bool (has_id new.facts.cid.0 e.facts)) [
      | inl here ↦ rw (here, itself) others
      | inr other ↦ rw (other, other) (ap (λ (xs : List Entry). e ∷ xs) others)
    ]

ends-anyway : (c : CloseCause) (e new : Entry) (m n : Machine) (before after : List Action) → new.facts ≡ e.facts →
    Does (ending c e m) before n after → Does (ending c new (with_entry new m)) before n after
ends-anyway c e new m n before after same h =
    let k : Does (ending c new m) before n after = subst (λ (f : Facts). Does (ending c (record e { facts = f }) m) before n after) (sym same) h in
    let left : without_entry new.facts.cid.0 (with_entry new m) ≡ without_entry new.facts.cid.0 m =
    ap (λ (es : List Entry). let w : Machine = record m { connections = es } in w) (gone_anyway new m.connections) in
    record {
      machine_is = k.machine_is ∙ sym (ap (λ w. (lost_by c new.facts w).machine) left);
      actions_are = k.actions_are
          ∙ sym (ap (λ w. before ++ (Close new.facts.cid c ∷ [] ++ (State new.facts.cid Terminated ∷ [] ++ (lost_by c new.facts w).actions))) left);
    }

-- ---- the first item

stored-silently : (bytes : List ℕ) (e : Entry) (m : Machine) → DoesSilently (entry_turns e (fed_entry bytes e) m) (with_entry (fed_entry bytes e) m)
stored-silently bytes e m =
    let same : same_name (name_of e.facts) (name_of e.facts) ≡ true = eq-eqb (name_place (name_of e.facts)) (name_place (name_of e.facts)) refl in
    record {
      machine_is = refl;
      tells_nothing = λ before. subst (λ b. before ≡ before ++ (if b then [] else State e.facts.cid (name_of e.facts) ∷ [])) (sym same) (sym (append-nil before));
    }

stored-found : (bytes : List ℕ) (e : Entry) (m : Machine) → entry_at e.facts.cid.0 m ≡ Some e →
    entry_at e.facts.cid.0 (with_entry (fed_entry bytes e) m) ≡ Some (fed_entry bytes e)
stored-found bytes e m found = turned-found e (fed_entry bytes e) m refl ∙ ap (option_map (λ x. fed_entry bytes e)) found

-- where it ends the connection, that is all
pub faulted-first : (kind : FaultKind) (bytes : List ℕ) (e : Entry) (m n : Machine) (before after : List Action) → entry_at e.facts.cid.0 m ≡ Some e →
    Does (ending (cause.Fault kind) e m) before n after → Does (feeds_as (received.Fault kind) bytes e m) before n after
faulted-first kind bytes e m n before after found h =
    let cid : Cid = e.facts.cid in
    let greeting : Entry → Machine → Effect = greeted_as (received.Fault kind) in
    let new : Entry = fed_entry bytes e in
    let m1 : Machine = with_entry new m in
    let items : List Item = drop 1 (fed_of bytes e).items in
    let last : Machine → Effect = on_connection cid (faulted (fed_of bytes e).state.fault) in
    let none : entry_at cid.0 n ≡ None = ap (entry_at cid.0) h.machine_is ∙ ending-none (cause.Fault kind) e m in
    does_then (entry_turns e new m) (λ k. then_do (on_connection cid greeting k) (λ k. then_do (for_each (handles cid) items k) last))
    before before after m1 n (does_silently (entry_turns e new m) before m1 (stored-silently bytes e m))
    (does_then (on_connection cid greeting m1) (λ k. then_do (for_each (handles cid) items k) last) before after after n n
    (subst (λ o. Does (on_entry o greeting m1) before n after) (sym (stored-found bytes e m found)) (ends-anyway (cause.Fault kind) e new m n before after refl h))
    (does_then (for_each (handles cid) items n) last after after after n n (absent-each cid items n after none) (absent-one cid (faulted (fed_of bytes e).state.fault) n after none)))

head-of : (items : List Item) (item : Item) → slice_get items 0 ≡ Some item → items ≡ item ∷ drop 1 items
head-of [] item is = absurd cc
head-of (x ∷ xs) item is = let same : x ≡ item = cc in ap (λ (y : Item). y ∷ xs) same

pub greeting-handled : (p : Phase) (item : Item) (e : Entry) (m : Machine) → is_greeting_phase p ≡ true → handled_in p item e m ≡ greets item e m
greeting-handled Dialing item e m is = absurd cc
greeting-handled (Greeting until) item e m is = refl
greeting-handled Negotiated item e m is = absurd cc
greeting-handled (Closing until) item e m is = absurd cc

for_each-more : (cid : Cid) (item : Item) (items : List Item) (m : Machine) →
    for_each (handles cid) (item ∷ items) m ≡ then_do (handles cid item m) (for_each (handles cid) items)
unfolding for_each
for_each-more cid item items m = refl

-- it is handled as what it came to
pub fed-first : (item : Item) (r : Received) (bytes : List ℕ) (e : Entry) (m n : Machine) (before after : List Action) → entry_at e.facts.cid.0 m ≡ Some e →
    is_greeting e.facts ≡ true → slice_get (fed_of bytes e).items 0 ≡ Some item →
    r ≡ receives received.Fault received.Decided (role_of e.facts.provenance) (own_info m.settings) item →
    Does (feeds_as r bytes e m) before n after → Does (feeds bytes e m) before n after
fed-first item r bytes e m n before after found greeting first is h =
    let cid : Cid = e.facts.cid in
    let new : Entry = fed_entry bytes e in
    let m1 : Machine = with_entry new m in
    let items : List Item = (fed_of bytes e).items in
    let stored : Effect = entry_turns e new m in
    let one : Effect = on_connection cid (greeted_as r) m1 in
    let others : Effect = for_each (handles cid) (drop 1 items) one.machine in
    let last : Machine → Effect = on_connection cid (faulted (fed_of bytes e).state.fault) in
    let there = stored-found bytes e m found in
    let as_one : handles cid item m1 ≡ one =
    ap (λ o. on_entry o (handled item) m1) there
    ∙ greeting-handled new.facts.phase item new m1 greeting
    ∙ sym (greets-as item new m1 r is)
    ∙ sym (ap (λ o. on_entry o (greeted_as r) m1) there) in
    let all : for_each (handles cid) items m1 ≡ then_do one (for_each (handles cid) (drop 1 items)) =
    ap (λ (xs : List Item). for_each (handles cid) xs m1) (head-of items item first)
    ∙ for_each-more cid item (drop 1 items) m1
    ∙ ap (λ (x : Effect). then_do x (for_each (handles cid) (drop 1 items))) as_one in
    record {
      machine_is = h.machine_is ∙ sym (ap (λ (x : Effect). (last x.machine).machine) all);
      actions_are = h.actions_are
          ∙ sym (ap (λ (x : Effect). before ++ (stored.actions ++ (x.actions ++ (last x.machine).actions))) all
          ∙ ap (λ (xs : List Action). before ++ (stored.actions ++ xs)) (append_assoc one.actions others.actions (last others.machine).actions));
    }
