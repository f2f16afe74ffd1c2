use Rattle.std.proofs.Common.{drop, sym, subst}
use Rattle.connections.specs.Standing.{fed_of, fed_entry}
use Rattle.connections.specs.Talks.{IsFed}
use Rattle.machine.specs.Connections.{entry_turns}
use Rattle.machine.specs.Effect.{for_each, on_connection, on_entry}
use Rattle.machine.specs.Machine.{entry_at}
use Rattle.machine.specs.Stream.{handles, faulted}
use Rattle.node_engine.specs.Greets.{greeted_as, feeds_as}
use Rattle.node_engine.specs.State.{Does, DoesSilently, DoesTo}
use Rattle.node_engine.proofs.DoesLemmas.{on_ok, if_found}
use Rattle.node_engine.proofs.Doings.{known, of_entry}
use Rattle.node_engine.proofs.StreamLemmas.{feeds_as-does, known-fed}
use Rattle.node_engine.proofs.node_state.NodeState.feed_behind.Goals as goal

pub greet_as-requires-clause-known : goal.greet_as-requires-clause-known
greet_as-requires-clause-known c =
    known-fed c.args.bytes.now c.args.facts.now c.args.self.now c.decode.new.self c.requires.known c.in_ok-fed.ensures.turns

pub returns : goal.returns
returns c =
    let m = c.args.self.now in
    let bytes = c.args.bytes.now in
    let cid = c.args.facts.now.cid in
    let decoded = c.decode.new.self in
    let greeted = c.greet_as.new.self in
    let handled = c.give_back-fault.new.self in
    let there = known c.args.facts.now decoded (known-fed bytes c.args.facts.now m decoded c.requires.known c.in_ok-fed.ensures.turns) in
    let first : Does (on_connection cid (greeted_as c.args.received) decoded) c.args.actions.now greeted c.greet_as.new.actions =
    subst (λ o. Does (on_entry o (greeted_as c.args.received) decoded) c.args.actions.now greeted c.greet_as.new.actions) (sym there.1)
    (of_entry (λ e. Does (greeted_as c.args.received e decoded) c.args.actions.now greeted c.greet_as.new.actions) (entry_at cid.0 decoded) there.0 there.1 c.in_ok-greet_as.ensures) in
    on_ok (Does (on_connection cid (faulted c.give_back-fault.result) handled) c.handle_from.new.actions c.fail_by.new.self c.fail_by.new.actions)
    (DoesTo cid.0 (feeds_as c.args.received bytes) c.args.actions.now m c.fail_by.new.self c.fail_by.new.actions) c.fail_by.result
    (λ done. if_found (entry_at cid.0 m) (λ e. Does (feeds_as c.args.received bytes e m) c.args.actions.now c.fail_by.new.self c.fail_by.new.actions)
    (λ e is. feeds_as-does cid c.args.received bytes c.in_ok-fed.fed e m decoded greeted handled c.fail_by.new.self
    c.args.actions.now c.greet_as.new.actions c.handle_from.new.actions c.fail_by.new.actions is
    (of_entry (λ x. DoesSilently (entry_turns x (fed_entry bytes x) m) decoded) (entry_at cid.0 m) e is c.in_ok-fed.ensures.turns)
    (of_entry (λ x. IsFed (fed_of bytes x) c.in_ok-fed.fed) (entry_at cid.0 m) e is c.in_ok-fed.ensures.gives)
    first
    (subst (λ w. Does (for_each (handles cid) (drop 1 c.in_ok-fed.fed.items) greeted) c.greet_as.new.actions w c.handle_from.new.actions) (sym c.give_back-fault.ensures.same) c.in_ok-handle_from.ensures)
    (subst (λ f. Does (on_connection cid (faulted f) handled) c.handle_from.new.actions c.fail_by.new.self c.fail_by.new.actions) c.give_back-fault.ensures.fault done)))
    c.fail_by.ensures
