use Rattle.std.proofs.Common.{◌≡◌, IfOk, sym, ap, subst, ◌∙◌}
use Rattle.std.proofs.lemmas.Result.{IfOk-weaker}
use Rattle.hs_receive.specs.Receiving.{receives}
use Rattle.hs_receive.specs.declared.received.Received.TheVariants as received
use Rattle.machine.specs.Greeting.{role_of}
use Rattle.machine.specs.Own.{own_info}
use Rattle.mux_segment.specs.Lent.{lent}
use Rattle.node_engine.specs.Greets.{CanFollow}
use Rattle.node_engine.proofs.GreetLemmas.{can-follow}
use Rattle.node_engine.proofs.node_state.NodeState.received.Goals as goal

pub returns-clause-received : goal.returns-clause-received
returns-clause-received c =
    let item = lent c.args.item.now in
    let own_is : c.own_info-own.result ≡ own_info c.args.self.now.settings =
    c.own_info-own.ensures ∙ (ap own_info c.settings.ensures.value ∙ ap (λ m. own_info m.settings) c.self.view_is) in
    subst (λ own. IfOk c.receive.result (λ r. r ≡ receives received.Fault received.Decided (role_of c.args.facts.now.provenance) own item)) own_is
    (subst (λ role. IfOk c.receive.result (λ r. r ≡ receives received.Fault received.Decided role c.own_info-own.result item)) c.role_of.ensures c.receive.ensures.received)

pub returns-clause-may : goal.returns-clause-may
returns-clause-may c =
    let item = lent c.args.item.now in
    IfOk-weaker c.receive.result _ _ (λ r is. subst (λ x. CanFollow x c.args.facts.now) (sym is) (can-follow c.args.facts.now c.own_info-own.result item))
    (subst (λ role. IfOk c.receive.result (λ r. r ≡ receives received.Fault received.Decided role c.own_info-own.result item)) c.role_of.ensures c.receive.ensures.received)
