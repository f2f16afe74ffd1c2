use Rattle.share_rounds.proofs.Rules.{told_are_few, told_may_be, told_rise}
use Rattle.share_rounds.proofs.law.told_peers_are_advertised.Goals as goal

pub returns : goal.returns
returns c = record { few = told_are_few; each = told_may_be; rising = told_rise }
