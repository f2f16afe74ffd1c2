use Rattle.std.proofs.Common.{◌≡◌, ◌++◌, take, length}
use Rattle.std.specs.List.{flat_map}
use Rattle.warm_messages.specs.Writing.{written_number, written_opening}
use Rattle.warm_messages.proofs.array.write_numbers.Given as goal

abbrev pub invariant-loop-number : goal.invariant-loop-number
invariant-loop-number l = l.out ≡ (l.fn.out ++ written_opening (length l.numbers)) ++ flat_map written_number (take l.number-index l.numbers)
