use Rattle.pair_net.proofs.Refusals.{agreements_are_heard}
use Rattle.pair_net.proofs.law.agreements_are_heard.Goals as goal

pub returns : goal.returns
returns c = agreements_are_heard
