use Rattle.std.proofs.Common.{All, take}
use Rattle.trace_text.specs.EventTexts.{IsKnownIn}
use Rattle.trace_compare.proofs.holding.hold_addresses.Given as goal

abbrev pub invariant-loop-address : goal.invariant-loop-address
invariant-loop-address l = All (IsKnownIn 2) (take l.address-index l.addresses)
