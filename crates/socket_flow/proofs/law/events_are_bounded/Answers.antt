use Rattle.socket_flow.proofs.Pending.{none_waits, events_are_bounded}
use Rattle.socket_flow.proofs.law.events_are_bounded.Goals as goal

pub returns-clause-none : goal.returns-clause-none
returns-clause-none c = none_waits

pub returns-clause-bounded : goal.returns-clause-bounded
returns-clause-bounded c = events_are_bounded
