use Rattle.std.proofs.Common.{ap, ◌∙◌}
use Rattle.timer_queue.specs.Queue.{Queue, told}
use Rattle.timer_queue.specs.Timers.{least}
use Rattle.timer_queue.proofs.Firsts.{none_when}
use Rattle.timer_queue.proofs.queue.TimerQueue.least.Goals as goal

pub returns-clause-none : goal.returns-clause-none
returns-clause-none c =
    none_when c.args.self.now.timers c.tell.result
    (c.tell.ensures ∙ ap told (c.first.ensures ∙ ap (λ (q : Queue). least q.timers) c.self.view_is))
