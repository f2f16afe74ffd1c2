use Rattle.net_base.specs.Timer.{deadline_before}
use Rattle.timer_queue.specs.Timers.{same_timer}
use Rattle.timer_queue.proofs.Orders.{timer_order}
use Rattle.timer_queue.proofs.Rising.{rising_is_one}
use Rattle.timer_queue.proofs.laws.lists_in_order_are_one.Goals as goal

pub returns : goal.returns
returns c = rising_is_one deadline_before same_timer timer_order
