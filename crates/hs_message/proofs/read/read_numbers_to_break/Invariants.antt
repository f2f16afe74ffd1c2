use Rattle.std.proofs.Common.{◌≡◌, ◌-◌, length}
use Rattle.cbor_items.specs.Front.{number_at}
use Rattle.hs_message.specs.Reading.{row_to_break_at}
use Rattle.hs_message.proofs.Loops.{with_front}
use Rattle.hs_message.proofs.read.read_numbers_to_break.Given as goal

abbrev pub invariant-loop : goal.invariant-loop
invariant-loop l = with_front l.numbers (row_to_break_at number_at (length l.bytes - l.counter) l.rest) ≡ row_to_break_at number_at (length l.bytes) l.bytes
