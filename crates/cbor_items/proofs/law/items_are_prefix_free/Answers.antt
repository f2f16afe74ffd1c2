use Rattle.cbor_items.proofs.Meaning.{prefix_is_whole}
use Rattle.cbor_items.proofs.law.items_are_prefix_free.Goals as goal

pub returns : goal.returns
returns c = prefix_is_whole
