use Rattle.std.proofs.Common.{refl}
use Rattle.socket_flow.proofs.due_queue.DueQueue.push.Goals as goal

pub returns-clause-ok : goal.returns-clause-ok
returns-clause-ok c = rw (c.in_ok-push_back.ensures.items, c.saturating_add.ensures, ← c.self.view_is) refl
