use Rattle.std.proofs.Common.{ap, ◌∙◌}
use Rattle.timer_queue.specs.Kept.{queue_of}
use Rattle.timer_queue.specs.Queue.{is_enrolled}
use Rattle.timer_queue.proofs.Orderly.{enrolled_already, orderly_when_kept}
use Rattle.timer_queue.proofs.queue.TimerQueue.enroll.Goals as goal

pub returns-clause-present : goal.returns-clause-present
returns-clause-present c there =
    let kept = c.self.inside.kept in
    c.in_ok-enroll.ensures.ok
    ∙ (enrolled_already c.args.cid (queue_of kept) (orderly_when_kept kept c.self.invariant) (ap (is_enrolled c.args.cid) c.self.view_is ∙ there)
    ∙ c.self.view_is)
