use Rattle.std.proofs.Common.{◌≡◌, Ok, Err, sym, subst}
use Rattle.conn_state.specs.Use.{agreed_sharing}
use Rattle.machine.specs.Talking.{asked_as, talks}
use Rattle.mux_segment.specs.Lent.{lent}
use Rattle.net_base.specs.declared.action.CloseCause.TheVariants.{Fault}
use Rattle.machine.specs.Connections.{ending}
use Rattle.node_engine.specs.State.{Does}
use Rattle.node_engine.proofs.DoesLemmas.{does_other}
use Rattle.node_engine.proofs.StreamLemmas.{talks-asked}
use Rattle.node_engine.proofs.node_state.NodeState.talk.Goals as goal
use Rattle.remote_watch.specs.Watch.{watched}

pub returns-in-Ok : goal.returns-in-Ok
returns-in-Ok c =
    let item = lent c.args.item.now in
    let is : watched item.id (agreed_sharing c.args.facts.now.agreed) item.body ≡ Ok c.in-Ok.seen =
    rw (← c.is_sharing.ensures) c.in-Ok.ensures.answer in
    does_other c.take_request.result c.args.facts.now (asked_as (Ok c.in-Ok.seen) item.id) (talks item)
    c.args.self.now c.take_request.new.self c.args.actions.now c.args.actions.now c.take_request.new.actions c.requires.known
    (λ e there same done. talks-asked item c.args.facts.now e
    c.args.self.now c.take_request.new.self c.args.actions.now c.take_request.new.actions c.if-item-ne-INITIATOR.false same
    (subst (λ r. Does (asked_as r item.id e c.args.self.now) c.args.actions.now c.take_request.new.self c.take_request.new.actions) (sym is) done))
    c.take_request.ensures

pub returns-in_ok-fault-in-Err : goal.returns-in_ok-fault-in-Err
returns-in_ok-fault-in-Err c =
    let item = lent c.args.item.now in
    let is : watched item.id (agreed_sharing c.args.facts.now.agreed) item.body ≡ Err c.in_ok-fault-in-Err.field-0 =
    rw (← c.is_sharing.ensures) (rw c.in_ok-fault-in-Err.ensures at c.in-Err.ensures.answer) in
    does_other c.end.result c.args.facts.now (ending (Fault c.in_ok-fault-in-Err.field-0)) (talks item)
    c.args.self.now c.end.new.self c.args.actions.now c.args.actions.now c.end.new.actions c.requires.known
    (λ e there same done. talks-asked item c.args.facts.now e
    c.args.self.now c.end.new.self c.args.actions.now c.end.new.actions c.if-item-ne-INITIATOR.false same
    (subst (λ r. Does (asked_as r item.id e c.args.self.now) c.args.actions.now c.end.new.self c.end.new.actions) (sym is) done))
    c.end.ensures
