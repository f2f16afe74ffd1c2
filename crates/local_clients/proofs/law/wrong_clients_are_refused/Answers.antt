use Rattle.local_clients.proofs.Refuted.{nobody_goes_is_refused, least_is_refused, faulting_opens_is_refused, faulting_faults_is_refused}
use Rattle.local_clients.proofs.law.wrong_clients_are_refused.Goals as goal

pub returns-clause-gone : goal.returns-clause-gone
returns-clause-gone c = nobody_goes_is_refused

pub returns-clause-version : goal.returns-clause-version
returns-clause-version c = least_is_refused

pub returns-clause-opens : goal.returns-clause-opens
returns-clause-opens c = faulting_opens_is_refused

pub returns-clause-faults : goal.returns-clause-faults
returns-clause-faults c = faulting_faults_is_refused
