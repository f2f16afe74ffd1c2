use Rattle.cbor_items.proofs.Shortest.{are_read_again}
use Rattle.cbor_items.proofs.law.heads_are_read_again.Goals as goal

pub returns : goal.returns
returns c = are_read_again
