use Rattle.local_clients.proofs.Led.{lawful_after}
use Rattle.local_clients.proofs.law.led_clients_are_lawful.Goals as goal

pub returns : goal.returns
returns c = λ rules input count ranges. lawful_after rules ranges input count
