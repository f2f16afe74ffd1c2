use Rattle.std.proofs.Common.{◌≡◌, true, false, Some, Ok, ap, sym, subst, ◌∙◌}
use Rattle.std.proofs.lemmas.Result.{on_ok_weaker}
use Rattle.conn_state.specs.Use.{runs}
use Rattle.conn_state.specs.Shapes.{serves_remote}
use Rattle.machine.specs.Connections.{awake}
use Rattle.machine.specs.Effect.{on_connection, on_entry}
use Rattle.machine.specs.Machine.{Entry, entry_at}
use Rattle.machine.specs.Talking.{asked_as, serves, takes_requests}
use Rattle.net_base.specs.declared.connection.Cid.{Cid}
use Rattle.net_base.specs.declared.connection.Facts.{Facts}
use Rattle.node_engine.specs.State.{Does}
use Rattle.node_engine.proofs.Doings.{does_then, known, at_entry, of_entry}
use Rattle.node_engine.proofs.StreamLemmas.{awoken}
use Rattle.node_engine.proofs.node_state.NodeState.begin.Goals.{In-Some}
use Rattle.node_engine.proofs.node_state.NodeState.begin.Goals as goal

-- the connection before the protocol runs
before : (c : In-Some) → (e : Entry) × (entry_at c.args.facts.now.cid.0 c.args.self.now ≡ Some e) × (e.facts ≡ c.args.facts.now)
before c = known c.args.facts.now c.args.self.now c.requires.known

-- and since it does
since : (c : In-Some) → (e : Entry) × (entry_at c.args.facts.now.cid.0 c.awake.new.self ≡ Some e) × (e.facts ≡ c.in-Some.facts)
since c =
    let it = known c.in-Some.facts c.awake.new.self c.in-Some.ensures.known in
    (it.0, ap (λ (i : Cid). entry_at i.0 c.awake.new.self) (sym c.in-Some.ensures.id) ∙ it.1, it.2)

awakes : (c : In-Some) → Does (awake c.args.protocol (before c).0 c.args.self.now) c.args.actions.now c.awake.new.self c.awake.new.actions
awakes c =
    of_entry (λ e. Does (awake c.args.protocol e c.args.self.now) c.args.actions.now c.awake.new.self c.awake.new.actions)
    (entry_at c.args.facts.now.cid.0 c.args.self.now) (before c).0 (before c).1 c.in_ok-awake.ensures

pub serve-requires-clause-runs : goal.serve-requires-clause-runs
serve-requires-clause-runs c =
    let d = (goal.at.serve-requires-clause-runs c).In-Some in
    ap (λ (f : Facts). runs c.args.protocol f.running) (sym (since d).2)
    ∙ awoken c.args.protocol c.args.facts.now (before d).0 (since d).0 c.args.self.now c.awake.new.self c.args.actions.now c.awake.new.actions
    c.requires.responder (before d).2 (awakes d) (since d).1

pub returns-in-Some : goal.returns-in-Some
returns-in-Some c =
    let d = (goal.at.returns-in-Some c).In-Some in
    let m = c.args.self.now in
    let mid = c.awake.new.self in
    let e : Entry = (before d).0 in
    let takes : takes_requests e ≡ true = ap serves_remote (before d).2 ∙ c.requires.serves in
    let stands : runs c.args.protocol e.facts.running ≡ false = ap (λ (f : Facts). runs c.args.protocol f.running) (before d).2 ∙ c.requires.stands_still in
    let there : entry_at e.facts.cid.0 mid ≡ Some (since d).0 = ap (λ (f : Facts). entry_at f.cid.0 mid) (before d).2 ∙ (since d).1 in
    on_ok_weaker c.serve.result (λ served.
    let last : Does (on_connection e.facts.cid (serves c.args.seen c.args.protocol) mid) c.awake.new.actions c.serve.new.self c.serve.new.actions =
    subst (λ o. Does (on_entry o (serves c.args.seen c.args.protocol) mid) c.awake.new.actions c.serve.new.self c.serve.new.actions) (sym there)
    (of_entry (λ x. Does (serves c.args.seen c.args.protocol x mid) c.awake.new.actions c.serve.new.self c.serve.new.actions)
    (entry_at c.in-Some.facts.cid.0 mid) (since d).0 (ap (λ (i : Cid). entry_at i.0 mid) c.in-Some.ensures.id ∙ (since d).1) served) in
    at_entry (λ x. Does (asked_as (Ok c.args.seen) c.args.protocol x m) c.args.actions.now c.serve.new.self c.serve.new.actions)
    (entry_at c.args.facts.now.cid.0 m) e (before d).1
    (rw (takes, stands) (does_then (awake c.args.protocol e m) (on_connection e.facts.cid (serves c.args.seen c.args.protocol))
    c.args.actions.now c.awake.new.actions c.serve.new.actions mid c.serve.new.self (awakes d) last)))
    c.serve.ensures
