use Rattle.std.proofs.Common.{ap, ◌∙◌}
use Rattle.timer_queue.specs.Queue.{least_due, told}
use Rattle.timer_queue.proofs.Firsts.{none_due_when}
use Rattle.timer_queue.proofs.queue.TimerQueue.pop_due.Goals as goal

pub returns-clause-none : goal.returns-clause-none
returns-clause-none c =
    none_due_when c.args.now c.args.self.now.timers c.tell.result
    (c.tell.ensures ∙ ap told (c.pop_due.ensures.answer ∙ ap (least_due c.args.now) c.self.view_is))
