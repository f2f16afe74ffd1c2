use Rattle.local_clients.proofs.Laws.{rise_in_their_time}
use Rattle.local_clients.proofs.law.greeting_clients_rise_in_time.Goals as goal

pub returns : goal.returns
returns c = rise_in_their_time
