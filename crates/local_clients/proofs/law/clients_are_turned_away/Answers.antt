use Rattle.local_clients.proofs.Laws.{are_turned_away}
use Rattle.local_clients.proofs.law.clients_are_turned_away.Goals as goal

pub returns : goal.returns
returns c = are_turned_away
