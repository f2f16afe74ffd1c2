use Rattle.std.proofs.Common.{drop, sym, subst}
use Rattle.connections.specs.Standing.{fed_of, fed_entry}
use Rattle.connections.specs.Talks.{IsFed}
use Rattle.machine.specs.Connections.{entry_turns}
use Rattle.machine.specs.Effect.{for_each, on_connection}
use Rattle.machine.specs.Machine.{entry_at}
use Rattle.machine.specs.Stream.{handles, faulted, feeds}
use Rattle.node_engine.specs.State.{Does, DoesSilently, DoesTo}
use Rattle.node_engine.proofs.DoesLemmas.{on_ok, if_found}
use Rattle.node_engine.proofs.Doings.{of_entry}
use Rattle.node_engine.proofs.StreamLemmas.{feeds-does}
use Rattle.node_engine.proofs.node_state.NodeState.feed_all.Goals as goal

pub returns : goal.returns
returns c =
    let m = c.args.self.now in
    let bytes = c.args.bytes.now in
    let decoded = c.decode.new.self in
    let handled = c.give_back-fault.new.self in
    on_ok (Does (on_connection c.args.cid (faulted c.give_back-fault.result) handled) c.handle_from.new.actions c.fail_by.new.self c.fail_by.new.actions)
    (DoesTo c.args.cid.0 (feeds bytes) c.args.actions.now m c.fail_by.new.self c.fail_by.new.actions) c.fail_by.result
    (λ done. if_found (entry_at c.args.cid.0 m) (λ e. Does (feeds bytes e m) c.args.actions.now c.fail_by.new.self c.fail_by.new.actions)
    (λ e is. feeds-does c.args.cid bytes c.in_ok-fed.fed e m decoded handled c.fail_by.new.self c.args.actions.now c.handle_from.new.actions c.fail_by.new.actions is
    (of_entry (λ x. DoesSilently (entry_turns x (fed_entry bytes x) m) decoded) (entry_at c.args.cid.0 m) e is c.in_ok-fed.ensures.turns)
    (of_entry (λ x. IsFed (fed_of bytes x) c.in_ok-fed.fed) (entry_at c.args.cid.0 m) e is c.in_ok-fed.ensures.gives)
    (subst (λ w. Does (for_each (handles c.args.cid) (drop 0 c.in_ok-fed.fed.items) decoded) c.args.actions.now w c.handle_from.new.actions) (sym c.give_back-fault.ensures.same) c.in_ok-handle_from.ensures)
    (subst (λ f. Does (on_connection c.args.cid (faulted f) handled) c.handle_from.new.actions c.fail_by.new.self c.fail_by.new.actions) c.give_back-fault.ensures.fault done)))
    c.fail_by.ensures
