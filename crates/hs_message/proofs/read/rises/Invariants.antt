use Rattle.std.proofs.Common.{◌≡◌, length}
use Rattle.hs_message.specs.Spelling.{rises}
use Rattle.hs_message.proofs.read.rises.Given as goal

abbrev pub invariant-loop-first : goal.invariant-loop-first
invariant-loop-first l = rises l.rest ≡ rises l.offers

abbrev pub decreases-loop-first : goal.decreases-loop-first
decreases-loop-first l = length l.rest
