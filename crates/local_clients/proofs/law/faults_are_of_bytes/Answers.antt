use Rattle.local_clients.proofs.Behaviour.{faults_are_of_bytes}
use Rattle.local_clients.proofs.law.faults_are_of_bytes.Goals as goal

pub returns : goal.returns
returns c = faults_are_of_bytes
