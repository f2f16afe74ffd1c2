use Rattle.pair_net.proofs.Across.{agrees_wrongly}
use Rattle.pair_net.proofs.law.agreeing_across_networks_is_refused.Goals as goal

pub returns : goal.returns
returns c = agrees_wrongly
