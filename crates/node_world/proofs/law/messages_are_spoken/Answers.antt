use Rattle.node_world.proofs.Hearing.{speaks_messages}
use Rattle.node_world.proofs.law.messages_are_spoken.Goals as goal

pub returns : goal.returns
returns c = speaks_messages
