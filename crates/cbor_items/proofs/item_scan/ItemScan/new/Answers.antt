use Rattle.cbor_items.proofs.Resumes.{first_place}
use Rattle.cbor_items.proofs.item_scan.ItemScan.new.Goals as goal

pub returns : goal.returns
returns c bytes = rw c.new.ensures (first_place bytes)
