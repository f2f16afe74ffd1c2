use Rattle.socket_flow.proofs.Strangers.{strangers_are_few}
use Rattle.socket_flow.proofs.law.strangers_are_few.Goals as goal

pub returns : goal.returns
returns c = strangers_are_few
