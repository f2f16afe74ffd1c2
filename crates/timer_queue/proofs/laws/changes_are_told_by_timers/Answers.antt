use Rattle.std.proofs.Common.{not}
use Rattle.net_base.specs.Timer.{deadline_before}
use Rattle.timer_queue.specs.Timers.{same_timer, is_of, is_timer_of}
use Rattle.timer_queue.proofs.Orderly.{has-with_timer}
use Rattle.timer_queue.proofs.Orders.{timer_order}
use Rattle.timer_queue.proofs.Rising.{has-filter}
use Rattle.timer_queue.proofs.laws.changes_are_told_by_timers.Goals as goal

pub returns-clause-set : goal.returns-clause-set
returns-clause-set c = has-with_timer

pub returns-clause-clear : goal.returns-clause-clear
returns-clause-clear c cid kind e queue =
    has-filter deadline_before same_timer timer_order (λ d. not (is_timer_of cid kind d)) e queue.timers

pub returns-clause-leave : goal.returns-clause-leave
returns-clause-leave c cid e queue = has-filter deadline_before same_timer timer_order (λ d. not (is_of cid d)) e queue.timers
