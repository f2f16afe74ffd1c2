use Rattle.socket_flow.proofs.Sharing.{one_is_told, all_are_told}
use Rattle.socket_flow.proofs.law.peers_are_told.Goals as goal

pub returns-clause-one : goal.returns-clause-one
returns-clause-one c = one_is_told

pub returns-clause-all : goal.returns-clause-all
returns-clause-all c = all_are_told
