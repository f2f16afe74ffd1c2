use Rattle.hs_message.proofs.Written.{written_is_read}
use Rattle.hs_message.proofs.law.messages_are_read_again.Goals as goal

pub returns : goal.returns
returns c = written_is_read
