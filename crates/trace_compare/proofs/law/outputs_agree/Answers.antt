use Rattle.trace_compare.proofs.Comparing.{output_agrees}
use Rattle.trace_compare.proofs.law.outputs_agree.Goals as goal

pub returns : goal.returns
returns c = output_agrees
