use Rattle.std.proofs.Common.{length}
use Rattle.local_clients.proofs.PassedOver.{PassesTo}
use Rattle.local_clients.proofs.stream.are_passed_over.Given as goal

abbrev pub invariant-loop-header : goal.invariant-loop-header
invariant-loop-header l = PassesTo l.bytes l.rest

abbrev pub decreases-loop-header : goal.decreases-loop-header
decreases-loop-header l = length l.rest
