use Rattle.pair_net.proofs.Refusals.{refusals_are_told}
use Rattle.pair_net.proofs.law.refusals_are_told.Goals as goal

pub returns : goal.returns
returns c = refusals_are_told
