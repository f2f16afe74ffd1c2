use Rattle.local_clients.proofs.Laws.{open_clients_stay}
use Rattle.local_clients.proofs.law.open_clients_stay.Goals as goal

pub returns : goal.returns
returns c = open_clients_stay
