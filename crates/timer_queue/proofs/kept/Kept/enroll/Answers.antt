use Rattle.std.proofs.Common.{sym}
use Rattle.timer_queue.specs.Kept.{queue_of}
use Rattle.timer_queue.proofs.Orderly.{enrolled_already, orderly_when_kept}
use Rattle.timer_queue.proofs.kept.Kept.enroll.Goals as goal

pub returns-then-has-clause-ok : goal.returns-then-has-clause-ok
returns-then-has-clause-ok c =
    sym (enrolled_already c.args.cid (queue_of c.args.self.now) (orderly_when_kept c.args.self.now c.requires) (sym c.if-has.ensures))
