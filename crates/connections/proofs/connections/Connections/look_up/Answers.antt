use Rattle.std.proofs.Common.{ap, sym, ◌∙◌}
use Rattle.std.specs.Option.{option_map}
use Rattle.conn_state.specs.Use.{has_id}
use Rattle.conn_table.specs.Rosters.{facts_kept}
use Rattle.connections.specs.Standing.{entry_with}
use Rattle.connections.proofs.TalkPairs.{find_paired}
use Rattle.connections.proofs.connections.Connections.look_up.Goals as goal

pub returns-clause-found : goal.returns-clause-found
returns-clause-found c = c.copied.ensures ∙ (c.facts.ensures
    ∙ (sym (find_paired (has_id c.args.cid.0) (facts_kept c.self.inside.kept.roster) c.self.inside.kept.talks c.self.invariant.0.talks_are)
    ∙ ap (λ s. option_map (λ e. e.facts) (entry_with c.args.cid.0 s)) c.self.view_is))
