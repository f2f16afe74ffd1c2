use Rattle.cbor_items.proofs.Resumes.{left_skips}
use Rattle.cbor_items.proofs.stack.Levels.leave.Goals as goal

pub returns-in-Some-clause-left : goal.returns-in-Some-clause-left
returns-in-Some-clause-left c bytes =
    rw c.requires.done (left_skips c.in-Some.level c.args.self.now.around.items c.pop.new.self.items c.in-Some.ensures.items bytes)
