use Rattle.pair_net.proofs.Rightly.{agree_rightly}
use Rattle.pair_net.proofs.law.both_ends_agree_rightly.Goals as goal

pub returns : goal.returns
returns c = agree_rightly
