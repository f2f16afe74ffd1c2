use Rattle.trace_text.proofs.ReadEvents.{line_told}
use Rattle.trace_text.proofs.PrintedEvents.{printed_again}
use Rattle.trace_text.proofs.law.events_are_spelled_once.Goals as goal

pub returns-clause-printed : goal.returns-clause-printed
returns-clause-printed c = λ version line event h. (line_told version line event h).printed

pub returns-clause-within : goal.returns-clause-within
returns-clause-within c = λ version line event h. ((line_told version line event h).limits, (line_told version line event h).known)

pub returns-clause-read : goal.returns-clause-read
returns-clause-read c = printed_again
