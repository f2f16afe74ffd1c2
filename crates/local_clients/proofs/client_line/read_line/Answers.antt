use Rattle.local_clients.specs.Lines.{word_line}
use Rattle.local_clients.proofs.Readings.{word_can, read_can}
use Rattle.local_clients.proofs.client_line.read_line.Goals as goal

pub returns-else-starts_with-clause-can_be : goal.returns-else-starts_with-clause-can_be
returns-else-starts_with-clause-can_be c = read_can c.read_words.result (word_line c.of.result) c.read_words.ensures (word_can c.of.result)
