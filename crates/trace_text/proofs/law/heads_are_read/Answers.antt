use Rattle.trace_text.proofs.HeadLaws.{cut_head, head_again}
use Rattle.trace_text.proofs.law.heads_are_read.Goals as goal

pub returns-clause-lines : goal.returns-clause-lines
returns-clause-lines c = cut_head

pub returns-clause-read : goal.returns-clause-read
returns-clause-read c = head_again
