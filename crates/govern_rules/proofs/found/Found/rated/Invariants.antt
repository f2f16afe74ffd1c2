use Rattle.std.proofs.Common.{◌≡◌, take, map}
use Rattle.govern_rules.specs.Orders.{rated_of}
use Rattle.govern_rules.proofs.found.Found.rated.Given as goal

abbrev pub invariant-loop-peer : goal.invariant-loop-peer
invariant-loop-peer l = l.rated.items ≡ map (λ p. rated_of p.now) (take l.peer-index l.peer-items)
