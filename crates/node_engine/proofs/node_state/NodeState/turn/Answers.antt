use Rattle.std.proofs.Common.{◌++◌, refl, IsSomeAnd, find, sym, ap, subst, ◌∙◌}
use Rattle.std.proofs.lemmas.Option.{IfSome_then}
use Rattle.std.proofs.lemmas.Result.{on_ok_weaker}
use Rattle.conn_state.specs.Use.{has_id}
use Rattle.conn_table.specs.Conditions.{CanStep}
use Rattle.conn_table.proofs.StateFacts.{step_keeps}
use Rattle.machine.specs.Connections.{entry_turns}
use Rattle.connections.specs.Standing.{entry_with}
use Rattle.connections.specs.Steps.{stepped}
use Rattle.node_engine.specs.State.{told_name}
use Rattle.node_engine.proofs.Doings.{HasTurned, has_turned, known, turn_does}
use Rattle.node_engine.proofs.node_state.NodeState.turn.Goals.{After-turn-name}
use Rattle.node_engine.proofs.node_state.NodeState.turn.Goals as goal

pub turn-name-requires : goal.turn-name-requires
turn-name-requires c =
    let it = known c.args.facts.now c.args.self.now c.requires.known in
    let there = ap (λ m. find (λ x. has_id c.args.facts.now.cid.0 x.facts) m.connections) c.self.view_is ∙ it.1 in
    subst (λ o. IsSomeAnd o (λ e. CanStep c.args.step e.facts)) (sym there) (subst (CanStep c.args.step) (sym it.2) c.requires.can)

turned : (c : After-turn-name) → HasTurned c.args.facts.now (stepped c.args.step) c.self.inside.connections c.turn-name.new.self
turned c = has_turned _ _ c.args.self.now _ _ c.requires.known (ap (λ m. m.connections) c.self.view_is)
    (λ e. ap (λ p. p.cid) (step_keeps c.args.step e.facts)) c.turn-name.ensures.turns

pub returns : goal.returns
returns c = on_ok_weaker c.tell_name.result (λ told. turn_does _ _ _ _ _ _ (λ e. entry_turns e (stepped c.args.step e)) _ _ _ (λ e. refl) c.self.view_is
    (turned (goal.at.returns c).After-turn-name)
    (IfSome_then (entry_with c.args.facts.now.cid.0 c.turn-name.new.self) c.turn-name.ensures.name
    (λ e is. told ∙ ap (λ n. c.args.actions.now ++ told_name c.args.facts.now n) is))) c.tell_name.ensures
