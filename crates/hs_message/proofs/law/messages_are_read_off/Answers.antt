use Rattle.hs_message.proofs.Whole.{are_read_off}
use Rattle.hs_message.proofs.law.messages_are_read_off.Goals as goal

pub returns : goal.returns
returns c = are_read_off
