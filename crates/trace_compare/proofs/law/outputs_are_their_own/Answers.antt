use Rattle.trace_compare.proofs.Again.{own_output}
use Rattle.trace_compare.proofs.law.outputs_are_their_own.Goals as goal

pub returns-clause-ends : goal.returns-clause-ends
returns-clause-ends c = λ input verdict fits. (own_output input verdict fits).ends

pub returns-clause-same : goal.returns-clause-same
returns-clause-same c = λ input verdict fits. (own_output input verdict fits).same
