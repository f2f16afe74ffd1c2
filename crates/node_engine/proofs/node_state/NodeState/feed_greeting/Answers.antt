use Rattle.std.proofs.Common.{◌≡◌, true, Some, IfSome, slice_get, sym, subst}
use Rattle.conn_state.specs.Use.{is_greeting}
use Rattle.connections.specs.Standing.{fed_of}
use Rattle.hs_receive.specs.Receiving.{receives}
use Rattle.hs_receive.specs.declared.received.Received.TheVariants as received
use Rattle.machine.specs.Connections.{ending}
use Rattle.machine.specs.Greeting.{role_of}
use Rattle.machine.specs.Machine.{entry_at}
use Rattle.machine.specs.Own.{own_info}
use Rattle.machine.specs.Stream.{feeds}
use Rattle.mux_segment.specs.Lent.{lent}
use Rattle.net_base.specs.declared.action.CloseCause.TheVariants as cause
use Rattle.node_engine.specs.Greets.{feeds_as}
use Rattle.node_engine.specs.State.{Does}
use Rattle.node_engine.proofs.DoesLemmas.{does_other}
use Rattle.node_engine.proofs.Doings.{of_entry}
use Rattle.node_engine.proofs.FirstItems.{fed-first, faulted-first}
use Rattle.node_engine.proofs.node_state.NodeState.feed_greeting.Goals.{In_ok-received}
use Rattle.node_engine.proofs.node_state.NodeState.feed_greeting.Goals as goal
use Rattle.machine.specs.Machine.{Machine, Entry}
use Rattle.net_base.specs.declared.action.Action.{Action}
use Rattle.std.proofs.Common.{List}

-- what the first item came to is what the bytes come to
first : (c : In_ok-received) (n : Machine) (after : List Action) (e : Entry) → entry_at c.args.facts.now.cid.0 c.args.self.now ≡ Some e → e.facts ≡ c.args.facts.now →
    Does (feeds_as c.in_ok-received.received c.args.bytes.now e c.args.self.now) c.args.actions.now n after →
    Does (feeds c.args.bytes.now e c.args.self.now) c.args.actions.now n after
first c n after e is same done =
    let m = c.args.self.now in
    let bytes = c.args.bytes.now in
    let item = lent c.in-Some.item in
    let r = c.in_ok-received.received in
    fed-first item r bytes e m n c.args.actions.now after
    (subst (λ f. entry_at f.cid.0 m ≡ Some e) (sym same) is) (subst (λ f. is_greeting f ≡ true) (sym same) c.requires.greeting)
    (of_entry (λ x. slice_get (fed_of bytes x).items 0 ≡ Some item) (entry_at c.args.facts.now.cid.0 m) e is
    (subst (λ w. IfSome (entry_at c.args.facts.now.cid.0 w) (λ x. slice_get (fed_of bytes x).items 0 ≡ Some item)) c.self.view_is c.in-Some.ensures))
    (subst (λ f. r ≡ receives received.Fault received.Decided (role_of f.provenance) (own_info m.settings) item) (sym same) c.in_ok-received.ensures.received) done

pub returns-in-Fault : goal.returns-in-Fault
returns-in-Fault c =
    let m = c.args.self.now in
    let kind = c.in-Fault.kind in
    does_other c.end.result c.args.facts.now (ending (cause.Fault kind)) (feeds c.args.bytes.now) m c.end.new.self c.args.actions.now c.args.actions.now c.end.new.actions
    c.requires.known
    (λ e is same done. first (goal.at.returns-in-Fault c).In_ok-received c.end.new.self c.end.new.actions e is same
    (rw c.in-Fault.is (faulted-first kind c.args.bytes.now e m c.end.new.self c.args.actions.now c.end.new.actions
    (subst (λ f. entry_at f.cid.0 m ≡ Some e) (sym same) is) done)))
    c.end.ensures

pub returns-in-Decided : goal.returns-in-Decided
returns-in-Decided c =
    does_other c.feed_behind.result c.args.facts.now (feeds_as c.in_ok-received.received c.args.bytes.now) (feeds c.args.bytes.now) c.args.self.now c.feed_behind.new.self
    c.args.actions.now c.args.actions.now c.feed_behind.new.actions c.requires.known
    (first (goal.at.returns-in-Decided c).In_ok-received c.feed_behind.new.self c.feed_behind.new.actions) c.feed_behind.ensures
