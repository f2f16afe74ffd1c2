use Rattle.local_clients.proofs.Led.{lawful_after}
use Rattle.local_clients.proofs.running.clients_run.Goals as goal

pub returns-clause-lawful : goal.returns-clause-lawful
returns-clause-lawful g c = λ input count. lawful_after c.args.rules c.requires input count
