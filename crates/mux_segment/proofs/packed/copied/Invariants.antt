use Rattle.std.proofs.Common.{◌≡◌, ◌++◌, drop}
use Rattle.mux_segment.specs.Packed.{packed_items}
use Rattle.mux_segment.proofs.packed.copied.Given as goal

abbrev pub invariant-loop-head : goal.invariant-loop-head
invariant-loop-head l = l.items ++ packed_items l.bodies (drop l.head-index l.heads) ≡ packed_items l.bodies l.heads
