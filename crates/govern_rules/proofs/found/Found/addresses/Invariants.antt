use Rattle.std.proofs.Common.{◌≡◌, map, take}
use Rattle.govern_rules.proofs.found.Found.addresses.Given as goal

abbrev pub invariant-loop-peer : goal.invariant-loop-peer
invariant-loop-peer l = l.addrs.items ≡ map (λ p. p.now.addr) (take l.peer-index l.peer-items)
