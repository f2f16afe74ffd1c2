use Rattle.std.proofs.Common.{ap, sym, ◌∙◌}
use Rattle.conn_state.specs.Use.{has_id, facts_at}
use Rattle.machine.specs.Machine.{facts_of}
use Rattle.node_engine.proofs.FindLemmas.{find-facts}
use Rattle.node_engine.proofs.engine.Engine.facts.Goals as goal

pub returns : goal.returns
returns g c = c.found.ensures.entry
    ∙ (sym (find-facts (has_id c.args.cid.0) c.state.result.now.connections)
    ∙ ap (λ m. facts_at c.args.cid.0 (facts_of m)) c.state.ensures)
