use Rattle.trace_compare.proofs.Agreeing.{agreeing_lines}
use Rattle.trace_compare.proofs.law.agreeing_traces_are_their_output.Goals as goal

pub returns : goal.returns
returns c = agreeing_lines
