use Rattle.std.proofs.Common.{refl, IsSomeAnd, find, sym, ap, subst, ◌∙◌}
use Rattle.std.proofs.lemmas.Result.{on_ok_weaker}
use Rattle.conn_state.specs.Use.{has_id}
use Rattle.conn_table.specs.Conditions.{CanStep, after_step}
use Rattle.conn_table.proofs.StateFacts.{step_keeps}
use Rattle.machine.specs.Connections.{is_used}
use Rattle.connections.specs.Standing.{moved}
use Rattle.connections.specs.Steps.{stepped}
use Rattle.node_engine.proofs.Doings.{HasTurned, has_turned, turned_as, not_closed, known, on_some, used_does}
use Rattle.node_engine.proofs.node_state.NodeState.come_into_use.Goals.{After-turn-name}
use Rattle.node_engine.proofs.node_state.NodeState.come_into_use.Goals as goal

pub turn-name-requires : goal.turn-name-requires
turn-name-requires c =
    let it = known c.args.facts.now c.args.self.now c.requires.known in
    let there = ap (λ m. find (λ x. has_id c.args.facts.now.cid.0 x.facts) m.connections) c.self.view_is ∙ it.1 in
    subst (λ o. IsSomeAnd o (λ e. CanStep c.args.step e.facts)) (sym there) (subst (CanStep c.args.step) (sym it.2) c.requires.can)

turned : (c : After-turn-name) → HasTurned c.args.facts.now (moved (after_step c.args.step)) c.self.inside.connections c.turn-name.new.self
turned c = turned_as _ (stepped c.args.step) _ _ _
    (has_turned _ _ c.args.self.now _ _ c.requires.known (ap (λ m. m.connections) c.self.view_is)
    (λ e. ap (λ p. p.cid) (step_keeps c.args.step e.facts)) c.turn-name.ensures.turns)
    (λ e is. not_closed c.args.step c.args.facts.now e c.requires.stays is)

pub greet_use-requires-clause-there : goal.greet_use-requires-clause-there
greet_use-requires-clause-there c = on_some _ _ (turned (goal.at.greet_use-requires-clause-there c).After-turn-name).next_there

pub returns : goal.returns
returns c = on_ok_weaker c.greet_use.result (used_does _ _ _ _ _ _ (λ e. is_used (after_step c.args.step e.facts) e) _ _ _ _ (λ e. refl) c.self.view_is
    (turned (goal.at.returns c).After-turn-name) (ap (λ p. p.cid) (step_keeps c.args.step c.args.facts.now)) (ap (λ p. p.addr) (step_keeps c.args.step c.args.facts.now)))
    c.greet_use.ensures
