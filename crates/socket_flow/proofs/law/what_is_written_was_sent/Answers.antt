use Rattle.socket_flow.proofs.Written.{what_is_written_was_sent}
use Rattle.socket_flow.proofs.law.what_is_written_was_sent.Goals as goal

pub returns : goal.returns
returns c = what_is_written_was_sent
