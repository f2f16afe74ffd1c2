use Rattle.hs_decide.proofs.Ends.{are_agreed}
use Rattle.hs_decide.proofs.law.both_ends_agree.Goals as goal

pub returns : goal.returns
returns c = are_agreed
