use Rattle.trace_text.proofs.LineLaws.{line_told, line_again}
use Rattle.trace_text.proofs.law.lines_are_spelled_once.Goals as goal

pub returns-clause-told : goal.returns-clause-told
returns-clause-told c = line_told

pub returns-clause-read : goal.returns-clause-read
returns-clause-read c = line_again
