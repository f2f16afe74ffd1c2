use Rattle.socket_flow.proofs.Living.{lives_are_right}
use Rattle.socket_flow.proofs.law.lives_are_right.Goals as goal

pub returns : goal.returns
returns c = lives_are_right
