use Rattle.trace_text.proofs.ActionLaws.{no_feed}
use Rattle.trace_text.proofs.law.actions_are_lines.Goals as goal

pub returns-clause-one_line : goal.returns-clause-one_line
returns-clause-one_line c = no_feed
