use Rattle.socket_flow.proofs.Fair.{fair, round}
use Rattle.socket_flow.proofs.law.turns_are_fair.Goals as goal

pub returns-clause-fair : goal.returns-clause-fair
returns-clause-fair c = fair

pub returns-clause-round : goal.returns-clause-round
returns-clause-round c = round
