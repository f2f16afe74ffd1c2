use Rattle.std.proofs.Common.{ap, ◌∙◌}
use Rattle.timer_queue.specs.Kept.{queue_of}
use Rattle.timer_queue.specs.Queue.{is_enrolled}
use Rattle.timer_queue.proofs.Orderly.{nobody_leaves, orderly_when_kept}
use Rattle.timer_queue.proofs.queue.TimerQueue.leave.Goals as goal

pub returns-clause-absent : goal.returns-clause-absent
returns-clause-absent c absent =
    let kept = c.self.inside.kept in
    c.leave.ensures.queue
    ∙ (nobody_leaves c.args.cid (queue_of kept) (orderly_when_kept kept c.self.invariant) (ap (is_enrolled c.args.cid) c.self.view_is ∙ absent)
    ∙ c.self.view_is)
