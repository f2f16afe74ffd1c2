use Rattle.timer_queue.proofs.PutTimers.{in_front}
use Rattle.connections.proofs.timed.retime.Goals as goal

pub returns-clause-timers : goal.returns-clause-timers
returns-clause-timers c = in_front _ _ _ _ c.put.ensures.timers c.moments_of.ensures
