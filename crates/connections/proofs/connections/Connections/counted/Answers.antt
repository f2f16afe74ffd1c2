use Rattle.std.proofs.Common.{ap, sym, ◌∙◌}
use Rattle.conn_state.specs.Counted.{counted}
use Rattle.conn_table.specs.Rosters.{facts_kept}
use Rattle.connections.specs.Standing.{facts_in}
use Rattle.connections.proofs.TalkPairs.{facts_paired}
use Rattle.connections.proofs.connections.Connections.counted.Goals as goal

pub returns : goal.returns
returns c = c.self.invariant.0.roster_kept.counted
    ∙ (ap counted (sym (facts_paired (facts_kept c.self.inside.kept.roster) c.self.inside.kept.talks c.self.invariant.0.talks_are))
    ∙ ap (λ s. counted (facts_in s)) c.self.view_is)
