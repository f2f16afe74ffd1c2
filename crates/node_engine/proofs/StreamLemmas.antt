-- Items and bytes that come in on a connection.
use Rattle.std.proofs.Common.{◌≡◌, ℕ, true, ◌==◌, List, drop, Option, Some, None, IfSome, IsSomeAnd, refl, sym, ap, subst, ◌∙◌, eqb-true, eq-eqb}
use Rattle.std.specs.Option.{option_map}
use Rattle.conn_state.specs.Protocols.{has_responder}
use Rattle.conn_state.specs.Use.{agreed_sharing, runs}
use Rattle.laws.proofs.Lists.{find_some}
use Rattle.laws.proofs.Moments.{turned-found}
use Rattle.laws.proofs.Remains.{awake-runs}
use Rattle.laws.proofs.Streams.{found-cid}
use Rattle.machine.specs.Connections.{with_entry, entry_turns, awake}
use Rattle.machine.specs.Effect.{nothing_more, then_do, for_each, on_entry, on_connection}
use Rattle.machine.specs.Machine.{Machine, Entry, Owed, entry_at}
use Rattle.machine.specs.Replies.{reply_on}
use Rattle.machine.specs.Stream.{handles, faulted, feeds}
use Rattle.machine.specs.Talking.{asked_as, answered_as, talks}
use Rattle.mux_segment.specs.Stream.{FedBy}
use Rattle.mux_segment.specs.declared.fault.CutFault.{CutFault}
use Rattle.mux_segment.specs.declared.item.Item.{Item}
use Rattle.net_base.specs.declared.action.Action.{Action}
use Rattle.net_base.specs.declared.connection.Cid.{Cid}
use Rattle.net_base.specs.declared.connection.Facts.{Facts}
use Rattle.connections.specs.Owed.{reply_of}
use Rattle.connections.specs.Standing.{fed_of, fed_entry}
use Rattle.node_engine.specs.Greets.{greeted_as, feeds_as}
use Rattle.node_engine.specs.State.{Does, DoesSilently, IsKnown}
use Rattle.connections.specs.Talks.{IsFed}
use Rattle.connections.specs.declared.decoded.Decoded.{Decoded}
use Rattle.connections.specs.declared.reply.Reply.{Reply}
use Rattle.hs_receive.specs.declared.received.Received.{Received}
use Rattle.node_engine.proofs.DoesLemmas.{does_silently}
use Rattle.node_engine.proofs.Doings.{does_nothing, does_then, known, of_entry}
use Rattle.remote_watch.specs.Watch.{watched}

-- ---- the other side asks

pub talks-asked : (item : Item) (facts : Facts) (e : Entry) (m n : Machine) (before after : List Action) → item.side ≡ 0 → e.facts ≡ facts →
    Does (asked_as (watched item.id (agreed_sharing facts.agreed) item.body) item.id e m) before n after → Does (talks item e m) before n after
talks-asked item facts e m n before after asks same h =
    rw (eq-eqb item.side 0 asks)
    (subst (λ f. Does (asked_as (watched item.id (agreed_sharing f.agreed) item.body) item.id e m) before n after) (sym same) h)

pub awoken : (protocol : ℕ) (facts : Facts) (e x : Entry) (m n : Machine) (before after : List Action) → has_responder protocol ≡ true → e.facts ≡ facts →
    Does (awake protocol e m) before n after → entry_at facts.cid.0 n ≡ Some x → runs protocol x.facts.running ≡ true
awoken protocol facts e x m n before after known same done found =
    awake-runs protocol e x m known
    (subst (λ k. entry_at e.facts.cid.0 k ≡ Some x) done.machine_is (subst (λ f. entry_at f.cid.0 n ≡ Some x) (sym same) found))

-- ---- the other side answers

abbrev pub owed_as : ℕ → Reply → Owed
owed_as protocol reply = record { protocol = protocol; until = reply.until; asked = reply.asked }

-- the reply that is owed on a protocol, from what is kept of it
pub owed-there : (protocol : ℕ) (e : Entry) (reply : Reply) → option_map reply_of (reply_on protocol e) ≡ Some reply →
    reply_on protocol e ≡ Some (owed_as protocol reply)
owed-there protocol e reply is = by_found (reply_on protocol e) refl is
  where
    by_found : (o : Option Owed) → reply_on protocol e ≡ o → option_map reply_of o ≡ Some reply → o ≡ Some (owed_as protocol reply)
    by_found None found none = absurd (never none)
      where
        never : None ≡ Some reply → ⊥
        never e = cc
    by_found (Some owed) found same =
        let own : owed.protocol ≡ protocol = eqb-true owed.protocol protocol (find_some (λ o. o.protocol == protocol) e.owed owed found).passes in
        let kept : reply_of owed ≡ reply = some_same same in
        ap (λ (n : ℕ). let o : Option Owed = Some (record { protocol = n; until = owed.until; asked = owed.asked }) in o) own
        ∙ ap (λ (r : Reply). let o : Option Owed = Some (owed_as protocol r) in o) kept
      where
        some_same : Some (reply_of owed) ≡ Some reply → reply_of owed ≡ reply
        some_same e = cc

pub answered-owed : (item : Item) (reply : Reply) (kept : Option Reply) (e : Entry) (m n : Machine) (before after : List Action) →
    kept ≡ option_map reply_of (reply_on item.id e) → kept ≡ Some reply →
    Does (answered_as (Some (owed_as item.id reply)) item e m) before n after → Does (answered_as (reply_on item.id e) item e m) before n after
answered-owed item reply kept e m n before after kept_is is h =
    subst (λ o. Does (answered_as o item e m) before n after) (sym (owed-there item.id e reply (sym kept_is ∙ is))) h

-- ---- bytes come in

nothing_faulted : (o : Option Entry) (m : Machine) → on_entry o (faulted None) m ≡ nothing_more m
nothing_faulted None m = refl
nothing_faulted (Some e) m = refl

pub no_fault : (cid : Cid) (fault : Option CutFault) (m : Machine) (before : List Action) → fault ≡ None →
    Does (on_connection cid (faulted fault) m) before m before
no_fault cid fault m before none =
    subst (λ f. Does (on_connection cid (faulted f) m) before m before) (sym none)
    (subst (λ effect. Does effect before m before) (sym (nothing_faulted (entry_at cid.0 m) m)) (does_nothing m before))

pub feeds-does : (cid : Cid) (bytes : List ℕ) (fed : Decoded) (e : Entry) (m decoded handled n : Machine) (before mid after : List Action) →
    entry_at cid.0 m ≡ Some e → DoesSilently (entry_turns e (fed_entry bytes e) m) decoded → IsFed (fed_of bytes e) fed →
    Does (for_each (handles cid) fed.items decoded) before handled mid → Does (on_connection cid (faulted fed.fault) handled) mid n after →
    Does (feeds bytes e m) before n after
feeds-does cid bytes fed e m decoded handled n before mid after is turns gives each last =
    let own : e.facts.cid ≡ cid = found-cid cid m e is in
    let all : FedBy = fed_of bytes e in
    let items : Does (for_each (handles e.facts.cid) all.items decoded) before handled mid =
    subst (λ c. Does (for_each (handles c) all.items decoded) before handled mid) (sym own)
    (subst (λ xs. Does (for_each (handles cid) xs decoded) before handled mid) gives.items each) in
    let fault : Does (on_connection e.facts.cid (faulted all.state.fault) handled) mid n after =
    subst (λ c. Does (on_connection c (faulted all.state.fault) handled) mid n after) (sym own)
    (subst (λ f. Does (on_connection cid (faulted f) handled) mid n after) gives.fault last) in
    does_then (entry_turns e (fed_entry bytes e) m)
    (λ k. then_do (for_each (handles e.facts.cid) all.items k) (on_connection e.facts.cid (faulted all.state.fault)))
    before before after decoded n
    (does_silently (entry_turns e (fed_entry bytes e) m) before decoded turns)
    (does_then (for_each (handles e.facts.cid) all.items decoded) (on_connection e.facts.cid (faulted all.state.fault))
    before mid after handled n items fault)

-- the same, where the first item came to something before
pub feeds_as-does : (cid : Cid) (r : Received) (bytes : List ℕ) (fed : Decoded) (e : Entry) (m decoded greeted handled n : Machine) (before one mid after : List Action) →
    entry_at cid.0 m ≡ Some e → DoesSilently (entry_turns e (fed_entry bytes e) m) decoded → IsFed (fed_of bytes e) fed →
    Does (on_connection cid (greeted_as r) decoded) before greeted one → Does (for_each (handles cid) (drop 1 fed.items) greeted) one handled mid →
    Does (on_connection cid (faulted fed.fault) handled) mid n after → Does (feeds_as r bytes e m) before n after
feeds_as-does cid r bytes fed e m decoded greeted handled n before one mid after is turns gives first each last =
    let own : e.facts.cid ≡ cid = found-cid cid m e is in
    let all : FedBy = fed_of bytes e in
    let rest : List Item = drop 1 all.items in
    let greets : Does (on_connection e.facts.cid (greeted_as r) decoded) before greeted one =
    subst (λ c. Does (on_connection c (greeted_as r) decoded) before greeted one) (sym own) first in
    let items : Does (for_each (handles e.facts.cid) rest greeted) one handled mid =
    subst (λ c. Does (for_each (handles c) rest greeted) one handled mid) (sym own)
    (subst (λ xs. Does (for_each (handles cid) (drop 1 xs) greeted) one handled mid) gives.items each) in
    let fault : Does (on_connection e.facts.cid (faulted all.state.fault) handled) mid n after =
    subst (λ c. Does (on_connection c (faulted all.state.fault) handled) mid n after) (sym own)
    (subst (λ f. Does (on_connection cid (faulted f) handled) mid n after) gives.fault last) in
    does_then (entry_turns e (fed_entry bytes e) m)
    (λ k. then_do (on_connection e.facts.cid (greeted_as r) k) (λ k. then_do (for_each (handles e.facts.cid) rest k) (on_connection e.facts.cid (faulted all.state.fault))))
    before before after decoded n
    (does_silently (entry_turns e (fed_entry bytes e) m) before decoded turns)
    (does_then (on_connection e.facts.cid (greeted_as r) decoded) (λ k. then_do (for_each (handles e.facts.cid) rest k) (on_connection e.facts.cid (faulted all.state.fault)))
    before one after greeted n greets
    (does_then (for_each (handles e.facts.cid) rest greeted) (on_connection e.facts.cid (faulted all.state.fault)) one mid after handled n items fault))

-- what was fed is known still
pub known-fed : (bytes : List ℕ) (facts : Facts) (m decoded : Machine) → IsKnown facts m →
    IfSome (entry_at facts.cid.0 m) (λ e. DoesSilently (entry_turns e (fed_entry bytes e) m) decoded) → IsKnown facts decoded
known-fed bytes facts m decoded there turns =
    let it = known facts m there in
    let e : Entry = it.0 in
    let own : e.facts.cid ≡ facts.cid = ap (λ (f : Facts). f.cid) it.2 in
    let done = of_entry (λ x. DoesSilently (entry_turns x (fed_entry bytes x) m) decoded) (entry_at facts.cid.0 m) e it.1 turns in
    let found : entry_at e.facts.cid.0 (with_entry (fed_entry bytes e) m) ≡ Some (fed_entry bytes e) =
    turned-found e (fed_entry bytes e) m refl ∙ ap (option_map (λ x. fed_entry bytes e)) (ap (λ (c : Cid). entry_at c.0 m) own ∙ it.1) in
    let found' : entry_at facts.cid.0 decoded ≡ Some (fed_entry bytes e) =
    ap (entry_at facts.cid.0) done.machine_is ∙ ap (λ (c : Cid). entry_at c.0 (with_entry (fed_entry bytes e) m)) (sym own) ∙ found in
    subst (λ o. IsSomeAnd o (λ x. x.facts ≡ facts)) (sym found') it.2
