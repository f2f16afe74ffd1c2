use Rattle.socket_flow.proofs.Ending.{ended_is_silent, ended_is_unwritten}
use Rattle.socket_flow.proofs.law.ended_is_silent.Goals as goal

pub returns-clause-silent : goal.returns-clause-silent
returns-clause-silent c = ended_is_silent

pub returns-clause-unwritten : goal.returns-clause-unwritten
returns-clause-unwritten c = ended_is_unwritten
