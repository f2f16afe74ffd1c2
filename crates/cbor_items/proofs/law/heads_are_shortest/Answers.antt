use Rattle.cbor_items.proofs.Shortest.{are_shortest}
use Rattle.cbor_items.proofs.law.heads_are_shortest.Goals as goal

pub returns : goal.returns
returns c = are_shortest
