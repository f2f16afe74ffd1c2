use Rattle.std.proofs.Common.{length}
use Rattle.govern_rules.specs.SortedLinks.{IsInOrder}
use Rattle.govern_rules.proofs.link_rows.is_in_order.Given as goal

abbrev pub invariant-loop-link : goal.invariant-loop-link
invariant-loop-link l = IsInOrder l.rest → IsInOrder l.links

abbrev pub decreases-loop-link : goal.decreases-loop-link
decreases-loop-link l = length l.rest
