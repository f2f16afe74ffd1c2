use Rattle.std.proofs.Common.{◌≡◌, ◌-◌}
use Rattle.cbor_items.specs.Front.{number_at}
use Rattle.hs_message.specs.Reading.{row_at}
use Rattle.hs_message.proofs.Loops.{with_front}
use Rattle.hs_message.proofs.read.read_numbers.Given as goal

abbrev pub invariant-loop : goal.invariant-loop
invariant-loop l = with_front l.numbers (row_at number_at (l.count - l.counter) l.rest) ≡ row_at number_at l.count l.bytes
