use Rattle.std.proofs.Common.{sym, subst}
use Rattle.conn_table.specs.Index.{IsRising}
use Rattle.conn_table.specs.Rosters.{facts_kept}
use Rattle.conn_table.proofs.IndexFacts.{index_rises}
use Rattle.conn_table.proofs.table.ConnTable.index.Goals as goal

pub returns-clause-rising : goal.returns-clause-rising
returns-clause-rising c =
    subst IsRising (sym c.self.invariant.indexed)
    (index_rises 0 c.self.inside.roster.given (facts_kept c.self.inside.roster) c.self.invariant.is_kept.ids_rise)
