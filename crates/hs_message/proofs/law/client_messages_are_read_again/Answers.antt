use Rattle.hs_message.proofs.Written.{client_written_is_read}
use Rattle.hs_message.proofs.law.client_messages_are_read_again.Goals as goal

pub returns : goal.returns
returns c = client_written_is_read
