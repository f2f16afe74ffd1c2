use Rattle.std.proofs.Common.{◌≡◌, true, false, subst}
use Rattle.conn_state.specs.Use.{is_outbound}
use Rattle.conn_table.specs.Conditions.{after_step}
use Rattle.conn_table.specs.declared.step.Step.TheVariants.{Negotiated}
use Rattle.connections.specs.Steps.{stepped}
use Rattle.machine.specs.Connections.{entry_turns, is_agreed_inbound, is_agreed_outbound, is_used}
use Rattle.node_engine.specs.Greets.{CanJudge}
use Rattle.node_engine.specs.State.{Does}
use Rattle.node_engine.proofs.DoesLemmas.{does_other}
use Rattle.node_engine.proofs.Doings.{agreed_in, agreed_out}
use Rattle.node_engine.proofs.node_state.NodeState.follow_verdict.Goals as goal

pub returns-in-Accept : goal.returns-in-Accept
returns-in-Accept c =
    let agreed = c.in-Accept.agreed in
    let until = c.idle_end-until.result in
    let inbound : is_outbound c.args.facts.now ≡ false = subst (λ v. CanJudge v c.args.facts.now) c.in-Accept.is c.requires.may in
    rw c.in-Accept.is (does_other c.turn.result c.args.facts.now (λ e. entry_turns e (stepped (Negotiated agreed until) e)) (is_agreed_inbound agreed)
    c.args.self.now c.turn.new.self c.args.actions.now c.args.actions.now c.turn.new.actions c.requires.known
    (λ e there is done. subst (λ effect. Does effect c.args.actions.now c.turn.new.self c.turn.new.actions)
    (agreed_in agreed until c.args.facts.now e c.args.self.now inbound is c.idle_end-until.ensures) done)
    c.turn.ensures)

pub returns-in-Agree : goal.returns-in-Agree
returns-in-Agree c =
    let agreed = c.in-Agree.agreed in
    let until = c.idle_end-until-in-Agree.result in
    let outbound : is_outbound c.args.facts.now ≡ true = subst (λ v. CanJudge v c.args.facts.now) c.in-Agree.is c.requires.may in
    rw c.in-Agree.is (does_other c.come_into_use.result c.args.facts.now (λ e. is_used (after_step (Negotiated agreed until) e.facts) e) (is_agreed_outbound agreed)
    c.args.self.now c.come_into_use.new.self c.args.actions.now c.args.actions.now c.come_into_use.new.actions c.requires.known
    (λ e there is done. subst (λ effect. Does effect c.args.actions.now c.come_into_use.new.self c.come_into_use.new.actions)
    (agreed_out agreed until c.args.facts.now e c.args.self.now outbound is c.idle_end-until-in-Agree.ensures) done)
    c.come_into_use.ensures)
