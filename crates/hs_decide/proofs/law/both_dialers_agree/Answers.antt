use Rattle.hs_decide.proofs.Ends.{meet_alike}
use Rattle.hs_decide.proofs.law.both_dialers_agree.Goals as goal

pub returns : goal.returns
returns c = meet_alike
