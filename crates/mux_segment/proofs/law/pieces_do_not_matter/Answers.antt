use Rattle.mux_segment.proofs.Laws.{are_fed}
use Rattle.mux_segment.proofs.law.pieces_do_not_matter.Goals as goal

pub returns : goal.returns
returns c = are_fed
