use Rattle.hs_message.proofs.Whole.{clients_spell_one}
use Rattle.hs_message.proofs.law.bytes_spell_one_client_message.Goals as goal

pub returns : goal.returns
returns c = clients_spell_one
