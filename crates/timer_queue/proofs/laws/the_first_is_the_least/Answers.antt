use Rattle.std.proofs.Common.{ap, ◌∙◌}
use Rattle.timer_queue.specs.Timers.{where_due}
use Rattle.timer_queue.proofs.Firsts.{least-first, least-due_at}
use Rattle.timer_queue.proofs.laws.the_first_is_the_least.Goals as goal

pub returns-clause-least : goal.returns-clause-least
returns-clause-least c = least-first

pub returns-clause-due : goal.returns-clause-due
returns-clause-due c now timers rises = least-due_at now timers rises ∙ ap (where_due now) (least-first timers rises)
