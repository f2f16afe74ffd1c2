use Rattle.std.proofs.Common.{subst}
use Rattle.std.proofs.lemmas.Result.{on_ok_weaker}
use Rattle.conn_table.specs.declared.step.Step.TheVariants.{Release}
use Rattle.machine.specs.Connections.{entry_turns}
use Rattle.connections.specs.Steps.{stepped}
use Rattle.node_engine.specs.State.{DoesTo}
use Rattle.node_engine.proofs.Doings.{released_does}
use Rattle.node_engine.proofs.node_state.NodeState.release.Goals as goal

pub returns : goal.returns
returns c = on_ok_weaker c.trim.result
    (released_does c.args.facts.now c.args.self.now _ _ _ _ _ _ _ _ c.requires.known c.in_ok-say_done.ensures
    (subst (λ until. DoesTo c.args.facts.now.cid.0 (λ e. entry_turns e (stepped (Release until) e)) c.say_done.new.actions c.args.self.now c.turn.new.self c.turn.new.actions)
    c.idle_end-until.ensures c.in_ok-turn.ensures)
    c.in_ok-peer_becomes.ensures)
    c.trim.ensures
