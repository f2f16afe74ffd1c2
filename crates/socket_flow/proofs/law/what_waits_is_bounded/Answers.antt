use Rattle.socket_flow.proofs.Strangers.{waits_are_bounded}
use Rattle.socket_flow.proofs.law.what_waits_is_bounded.Goals as goal

pub returns : goal.returns
returns c = waits_are_bounded
