use Rattle.std.proofs.Common.{All, take}
use Rattle.trace_text.specs.EventTexts.{AreKnownIn}
use Rattle.trace_compare.proofs.holding.hold_groups.Given as goal

abbrev pub invariant-loop-group : goal.invariant-loop-group
invariant-loop-group l = All (λ group. AreKnownIn 2 group.members) (take l.group-index l.groups)
