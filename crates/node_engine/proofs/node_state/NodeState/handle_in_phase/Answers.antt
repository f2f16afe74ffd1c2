use Rattle.std.proofs.Common.{◌≡◌, true, sym, ap, subst, ◌∙◌}
use Rattle.conn_state.specs.Use.{is_greeting_phase}
use Rattle.hs_receive.specs.Receiving.{receives}
use Rattle.hs_receive.specs.declared.received.Received.TheVariants as received
use Rattle.machine.specs.Greeting.{role_of}
use Rattle.machine.specs.Own.{own_info}
use Rattle.machine.specs.Stream.{handled}
use Rattle.mux_segment.specs.Lent.{lent}
use Rattle.net_base.specs.declared.connection.Facts.{Facts}
use Rattle.node_engine.specs.Greets.{greeted_as}
use Rattle.node_engine.specs.State.{Does}
use Rattle.node_engine.proofs.DoesLemmas.{does_other}
use Rattle.node_engine.proofs.FirstItems.{greeting-handled}
use Rattle.node_engine.proofs.GreetLemmas.{greets-as}
use Rattle.node_engine.proofs.node_state.NodeState.handle_in_phase.Goals as goal

pub returns-in_ok-received-in-Greeting : goal.returns-in_ok-received-in-Greeting
returns-in_ok-received-in-Greeting c =
    let m = c.args.self.now in
    let item = lent c.args.item.now in
    let r = c.in_ok-received-in-Greeting.received in
    let greets_in : is_greeting_phase c.args.facts.now.phase ≡ true = ap is_greeting_phase c.in-Greeting.is in
    does_other c.greet_as.result c.args.facts.now (greeted_as r) (handled item) m c.greet_as.new.self c.args.actions.now c.args.actions.now c.greet_as.new.actions
    c.requires
    (λ e is same done. subst (λ effect. Does effect c.args.actions.now c.greet_as.new.self c.greet_as.new.actions)
    (greets-as item e m r (subst (λ f. r ≡ receives received.Fault received.Decided (role_of f.provenance) (own_info m.settings) item) (sym same) c.in_ok-received-in-Greeting.ensures.received)
    ∙ sym (greeting-handled e.facts.phase item e m (ap (λ (f : Facts). is_greeting_phase f.phase) same ∙ greets_in))) done)
    c.greet_as.ensures
