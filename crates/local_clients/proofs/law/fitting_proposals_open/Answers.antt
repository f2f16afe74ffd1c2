use Rattle.local_clients.proofs.Behaviour.{fitting_proposals_open}
use Rattle.local_clients.proofs.law.fitting_proposals_open.Goals as goal

pub returns : goal.returns
returns c = fitting_proposals_open
