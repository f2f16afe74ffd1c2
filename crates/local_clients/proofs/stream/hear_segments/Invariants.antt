use Rattle.std.proofs.Common.{length}
use Rattle.local_clients.proofs.Streams.{IsHearing}
use Rattle.local_clients.proofs.stream.hear_segments.Given as goal

abbrev pub invariant-loop-header : goal.invariant-loop-header
invariant-loop-header l = IsHearing l.context l.fn.phase l.fn.actions l.stream l.phase l.actions l.rest

abbrev pub decreases-loop-header : goal.decreases-loop-header
decreases-loop-header l = length l.rest
