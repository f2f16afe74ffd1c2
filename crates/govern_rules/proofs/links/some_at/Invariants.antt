use Rattle.std.proofs.Common.{◌+◌}
use Rattle.govern_rules.proofs.Spots.{SayAll}
use Rattle.govern_rules.proofs.links.some_at.Given as goal

abbrev pub invariant-loop-link : goal.invariant-loop-link
invariant-loop-link l = SayAll l.addr l.mark l.links (l.spot.place + l.link-index)
