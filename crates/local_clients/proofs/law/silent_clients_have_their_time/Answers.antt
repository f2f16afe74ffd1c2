use Rattle.local_clients.proofs.Laws.{keep_their_time}
use Rattle.local_clients.proofs.law.silent_clients_have_their_time.Goals as goal

pub returns : goal.returns
returns c = keep_their_time
