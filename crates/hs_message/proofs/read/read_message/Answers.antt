use Rattle.hs_message.specs.Spelling.{NodeSpells}
use Rattle.hs_message.specs.Reading.{message_of}
use Rattle.hs_message.proofs.Whole.{is_found, is_none, are_read_off}
use Rattle.hs_message.proofs.read.read_message.Goals as goal

pub returns-clause-found : goal.returns-clause-found
unfolding message_of
returns-clause-found c = is_found NodeSpells message_of are_read_off c.args.bytes.now c.read_whole.result c.read_whole.ensures.reading

pub returns-clause-none : goal.returns-clause-none
unfolding message_of
returns-clause-none c = is_none NodeSpells message_of are_read_off c.args.bytes.now c.read_whole.result c.read_whole.ensures.reading
