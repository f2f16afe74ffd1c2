use Rattle.socket_flow.proofs.Telling.{what_came_is_told}
use Rattle.socket_flow.proofs.law.what_came_is_told.Goals as goal

pub returns : goal.returns
returns c = what_came_is_told
