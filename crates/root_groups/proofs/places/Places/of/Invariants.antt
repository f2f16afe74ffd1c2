use Rattle.std.proofs.Common.{◌≤◌, length}
use Rattle.root_groups.proofs.Placing.{AreNoted}
use Rattle.root_groups.proofs.places.Places.of.Given as goal

abbrev pub invariant-loop-place : goal.invariant-loop-place
invariant-loop-place l = (l.place ≤ length l.groups) × AreNoted l.groups l.places l.place

abbrev pub decreases-loop-place : goal.decreases-loop-place
decreases-loop-place l = l.place
