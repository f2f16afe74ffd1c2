use Rattle.std.proofs.Common.{ap, ◌∙◌}
use Rattle.timer_queue.specs.Kept.{queue_of}
use Rattle.timer_queue.specs.Queue.{is_enrolled}
use Rattle.timer_queue.proofs.Orderly.{nothing_to_clear, orderly_when_kept}
use Rattle.timer_queue.proofs.queue.TimerQueue.clear.Goals as goal

pub returns-clause-absent : goal.returns-clause-absent
returns-clause-absent c absent =
    let kept = c.self.inside.kept in
    c.clear.ensures.queue
    ∙ (nothing_to_clear c.args.cid c.args.kind (queue_of kept) (orderly_when_kept kept c.self.invariant) (ap (is_enrolled c.args.cid) c.self.view_is ∙ absent)
    ∙ c.self.view_is)
