use Rattle.hs_message.specs.Spelling.{ClientSpells}
use Rattle.hs_message.specs.Reading.{client_message_of}
use Rattle.hs_message.proofs.Whole.{is_found, is_none, clients_are_read_off}
use Rattle.hs_message.proofs.read.read_client_message.Goals as goal

pub returns-clause-found : goal.returns-clause-found
unfolding client_message_of
returns-clause-found c = is_found ClientSpells client_message_of clients_are_read_off c.args.bytes.now c.read_whole.result c.read_whole.ensures.reading

pub returns-clause-none : goal.returns-clause-none
unfolding client_message_of
returns-clause-none c = is_none ClientSpells client_message_of clients_are_read_off c.args.bytes.now c.read_whole.result c.read_whole.ensures.reading
