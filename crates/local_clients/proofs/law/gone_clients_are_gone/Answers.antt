use Rattle.local_clients.proofs.Laws.{gone_are_gone}
use Rattle.local_clients.proofs.law.gone_clients_are_gone.Goals as goal

pub returns : goal.returns
returns c = gone_are_gone
