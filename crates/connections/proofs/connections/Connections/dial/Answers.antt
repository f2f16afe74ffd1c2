use Rattle.std.proofs.Common.{ap, ◌∙◌}
use Rattle.conn_state.specs.Use.{live_at}
use Rattle.conn_table.proofs.Lives.{none_live}
use Rattle.net_base.specs.declared.connection.Facts.{Facts}
use Rattle.connections.specs.Standing.{facts_in}
use Rattle.connections.proofs.connections.Connections.dial.Goals as goal

pub enter-requires-clause-alone : goal.enter-requires-clause-alone
enter-requires-clause-alone c =
    ap (λ (f : Facts). live_at f.addr (facts_in c.args.self.now)) c.new-state.ensures
    ∙ none_live c.args.addr (facts_in c.args.self.now) c.requires.none
