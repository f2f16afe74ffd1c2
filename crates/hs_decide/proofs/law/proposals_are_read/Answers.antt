use Rattle.hs_decide.proofs.Said.{proposals_are_read}
use Rattle.hs_decide.proofs.law.proposals_are_read.Goals as goal

pub returns : goal.returns
returns c = proposals_are_read
