use Rattle.std.proofs.Common.{ap, ◌∙◌}
use Rattle.std.specs.Option.{option_map}
use Rattle.conn_state.specs.Use.{live_at}
use Rattle.net_base.specs.declared.connection.Facts.{Facts}
use Rattle.connections.specs.Standing.{facts_in}
use Rattle.connections.proofs.Stepping.{live_of_entries}
use Rattle.connections.proofs.connections.Connections.admit.Goals as goal

pub enter-requires-clause-alone : goal.enter-requires-clause-alone
enter-requires-clause-alone c =
    ap (λ (f : Facts). live_at f.addr (facts_in c.args.self.now)) c.accepted-state.ensures
    ∙ (live_of_entries c.args.addr c.args.self.now.entries ∙ ap (option_map (λ e. e.facts)) c.requires.no_live)
