use Rattle.std.proofs.Common.{◌≡◌, ◌-◌, length}
use Rattle.cbor_items.specs.Scan.{skip_to_break, skip_chunk}
use Rattle.cbor_items.proofs.item.skip_chunks.Given as goal

abbrev pub invariant-loop : goal.invariant-loop
invariant-loop l =
    skip_to_break (skip_chunk l.major) (length l.bytes - l.counter) l.rest
    ≡ skip_to_break (skip_chunk l.major) (length l.bytes) l.bytes
