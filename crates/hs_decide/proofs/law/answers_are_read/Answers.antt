use Rattle.hs_decide.proofs.Said.{answers_are_read}
use Rattle.hs_decide.proofs.law.answers_are_read.Goals as goal

pub returns : goal.returns
returns c = answers_are_read
