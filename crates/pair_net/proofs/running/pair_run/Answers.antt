use Rattle.pair_net.proofs.Led.{lawful_after}
use Rattle.pair_net.proofs.running.pair_run.Goals as goal

pub returns-clause-lawful : goal.returns-clause-lawful
returns-clause-lawful g c = lawful_after
