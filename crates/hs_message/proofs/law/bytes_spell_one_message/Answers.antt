use Rattle.hs_message.proofs.Whole.{spell_one}
use Rattle.hs_message.proofs.law.bytes_spell_one_message.Goals as goal

pub returns : goal.returns
returns c = spell_one
