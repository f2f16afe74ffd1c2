use Rattle.socket_flow.proofs.Sharing.{turns_are_shared}
use Rattle.socket_flow.proofs.law.turns_are_shared.Goals as goal

pub returns : goal.returns
returns c = turns_are_shared
