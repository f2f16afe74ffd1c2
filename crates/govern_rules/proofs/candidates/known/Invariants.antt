use Rattle.std.proofs.Common.{◌≡◌, ◌-◌, length, take}
use Rattle.std.specs.List.{filter}
use Rattle.govern_rules.specs.Search.{suits}
use Rattle.govern_rules.proofs.candidates.known.Given as goal

abbrev pub invariant-loop-place : goal.invariant-loop-place
invariant-loop-place l = (l.cands ≡ filter (suits l.search) (take l.place l.book)) × (l.walk ≡ l.search.view.now.links)

abbrev pub decreases-loop-place : goal.decreases-loop-place
decreases-loop-place l = length l.book - l.place
