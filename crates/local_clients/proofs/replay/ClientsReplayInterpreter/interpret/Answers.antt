use Rattle.std.proofs.Common.{◌≡◌, [], ◌∷◌, Ok, Err, refl, sym, ap, ◌∙◌}
use Rattle.line_run.specs.declared.stop.Stop.TheVariants.{Ended}
use Rattle.line_run.proofs.Meant.{says_line, read_interpreted}
use Rattle.local_clients.specs.Lines.{client_line}
use Rattle.local_clients.specs.Replay.{said_means}
use Rattle.local_clients.specs.declared.client_line.ClientLine.{ClientLine}
use Rattle.local_clients.specs.declared.client_line.ClientLine.TheVariants.{End}
use Rattle.local_clients.proofs.replay.ClientsReplayInterpreter.interpret.Goals as goal

pub returns-in_ok-push_line-in-End-clause-meant : goal.returns-in_ok-push_line-in-End-clause-meant
returns-in_ok-push_line-in-End-clause-meant c =
    let read : client_line c.args.line.now ≡ Ok End = sym c.in_ok-event.ensures.line ∙ ap (λ (l : ClientLine). Ok l) c.in-End.is in
    read_interpreted (client_line c.args.line.now) (said_means c.args.self.now c.args.line.now) c.args.self.now End c.args.pieces.now c.push_line.new.self (Err Ended) read
    (c.args.line.now ∷ [], refl, says_line c.args.pieces.now c.push_line.new.self c.args.line.now c.in_ok-push_line-in-End.ensures.ok)
