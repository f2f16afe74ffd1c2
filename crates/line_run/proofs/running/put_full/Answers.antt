use Rattle.io_edge.proofs.ToldLemmas.{TakesFront-none}
use Rattle.line_run.proofs.running.put_full.Goals as goal

pub returns-else-is_full-clause-front : goal.returns-else-is_full-clause-front
returns-else-is_full-clause-front g c = TakesFront-none _ _
