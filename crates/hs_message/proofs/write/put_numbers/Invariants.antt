use Rattle.std.proofs.Common.{◌≡◌, ◌++◌, length, take}
use Rattle.std.specs.List.{flat_map}
use Rattle.hs_message.specs.Canonical.{array_spelling, number_spelling}
use Rattle.hs_message.proofs.write.put_numbers.Given as goal

abbrev pub invariant-loop-number : goal.invariant-loop-number
invariant-loop-number l = l.out ≡ l.fn.out ++ array_spelling (length l.numbers) (flat_map number_spelling (take l.number-index l.numbers))
