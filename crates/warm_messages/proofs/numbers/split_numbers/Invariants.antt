use Rattle.std.proofs.Common.{◌≡◌, ◌-◌, length}
use Rattle.cbor_items.specs.Front.{number_at}
use Rattle.warm_messages.specs.Reading.{elements_at, numbers_at}
use Rattle.warm_messages.proofs.Elements.{behind}
use Rattle.warm_messages.proofs.numbers.split_numbers.Given as goal

abbrev pub invariant-loop-count : goal.invariant-loop-count
invariant-loop-count l = (length l.numbers ≡ l.count) × (behind l.numbers (elements_at number_at l.length l.count (8 - l.count) l.rest) ≡ numbers_at l.bytes)
