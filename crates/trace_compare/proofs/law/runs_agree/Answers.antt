use Rattle.trace_compare.proofs.Written.{text_agrees}
use Rattle.trace_compare.proofs.law.runs_agree.Goals as goal

pub returns : goal.returns
returns c = text_agrees
