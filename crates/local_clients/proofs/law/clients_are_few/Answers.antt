use Rattle.local_clients.proofs.Laws.{are_few}
use Rattle.local_clients.proofs.law.clients_are_few.Goals as goal

pub returns : goal.returns
returns c = are_few
