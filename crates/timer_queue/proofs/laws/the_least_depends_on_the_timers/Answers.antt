use Rattle.timer_queue.specs.Timers.{due_at}
use Rattle.timer_queue.proofs.Firsts.{least-same, HaveSame-due_at}
use Rattle.timer_queue.proofs.laws.the_least_depends_on_the_timers.Goals as goal

pub returns-clause-least : goal.returns-clause-least
returns-clause-least c = least-same

pub returns-clause-due : goal.returns-clause-due
returns-clause-due c now xs ys same = least-same (due_at now xs) (due_at now ys) (HaveSame-due_at now xs ys same)
