use Rattle.std.proofs.Common.{drop, sym, ap, ◌∙◌}
use Rattle.std.proofs.lemmas.List.{drop-drop}
use Rattle.io_edge.proofs.window.Window.consume.Goals as goal

pub returns-clause-rest : goal.returns-clause-rest
returns-clause-rest c = sym (drop-drop c.args.count c.self.inside.start _) ∙ ap (drop c.args.count) c.self.view_is
