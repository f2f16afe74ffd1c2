use Rattle.std.proofs.Common.{◌-◌, arith}
use Rattle.cbor_items.proofs.Meaning.{wider_by}
use Rattle.cbor_items.proofs.law.items_are_nested.Goals as goal

pub returns : goal.returns
returns c = λ d e item le is. wider_by (e - d) d e item (omega arith) is
