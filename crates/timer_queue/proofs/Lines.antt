-- Lists of timers in order.
use Rattle.std.proofs.Common.{◌≡◌, Bool, false, List, subst}
use Rattle.std.specs.List.{filter}
use Rattle.net_base.specs.Timer.{deadline_before}
use Rattle.net_base.specs.declared.timer.Deadline.{Deadline}
use Rattle.timer_queue.specs.Timers.{IsInOrder, has_timer, same_timer, put_in}
use Rattle.timer_queue.proofs.Orders.{timer_order}
use Rattle.timer_queue.proofs.Rising.{put_in-between, IsRising-put_in, IsRising-filter}

pub IsInOrder-put_in : (new : Deadline) (line : List Deadline) → IsInOrder line → has_timer new line ≡ false → IsInOrder (put_in new line)
IsInOrder-put_in new line rises absent =
    subst IsInOrder (put_in-between deadline_before same_timer timer_order (λ d. d) new line rises absent)
    (IsRising-put_in deadline_before same_timer timer_order (λ d. d) new line rises absent)

pub IsInOrder-filter : (p : Deadline → Bool) (line : List Deadline) → IsInOrder line → IsInOrder (filter p line)
IsInOrder-filter p line rises = IsRising-filter deadline_before same_timer timer_order (λ d. d) p line rises
