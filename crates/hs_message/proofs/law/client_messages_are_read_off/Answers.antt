use Rattle.hs_message.proofs.Whole.{clients_are_read_off}
use Rattle.hs_message.proofs.law.client_messages_are_read_off.Goals as goal

pub returns : goal.returns
returns c = clients_are_read_off
