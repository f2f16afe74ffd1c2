use Rattle.local_clients.proofs.Laws.{pieces_do_not_matter}
use Rattle.local_clients.proofs.law.pieces_do_not_matter.Goals as goal

pub returns : goal.returns
returns c = pieces_do_not_matter
