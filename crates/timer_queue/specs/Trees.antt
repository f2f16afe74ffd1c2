-- The first of a row's timers.
use Rattle.std.specs.Prelude.{Option, Some, None}
use Rattle.net_base.specs.declared.timer.Deadline.{Deadline}
use Rattle.net_base.specs.declared.timer.Kind.{Kind}
use Rattle.net_base.specs.declared.timer.Kind.TheVariants.{Handshake, Grace, TimeWait, Reply2, Reply8, Reply10}
use Rattle.timer_queue.specs.Rows.{moment, timer_at}
use Rattle.timer_queue.specs.Timers.{earlier}
use Rattle.timer_queue.specs.declared.rows.Row.{Row}

-- the one of two that fires first
abbrev pub sooner : Option Deadline → Option Deadline → Option Deadline
sooner None other = other
sooner (Some d) other = Some (earlier d other)

-- the timer of a kind of a row
abbrev pub timer_in : Row → Kind → Option Deadline
timer_in row kind = timer_at row.cid kind (moment kind row.moments)

-- the one of a row's timers that fires first
abbrev pub first_in : Row → Option Deadline
first_in row =
    sooner (timer_in row Handshake) (sooner (timer_in row Grace) (sooner (timer_in row TimeWait)
    (sooner (timer_in row Reply2) (sooner (timer_in row Reply8) (timer_in row Reply10)))))
