use Rattle.std.proofs.Common.{ap, ◌∙◌}
use Rattle.conn_state.specs.Use.{live_at}
use Rattle.conn_table.proofs.Lives.{none_live}
use Rattle.conn_table.proofs.table.ConnTable.dial.Goals as goal

pub enter-requires-clause-alone : goal.enter-requires-clause-alone
enter-requires-clause-alone c =
    let fs = c.args.self.now.facts in
    ap (λ f. live_at f.addr fs) c.new-state.ensures ∙ none_live c.args.addr fs c.requires.unknown
