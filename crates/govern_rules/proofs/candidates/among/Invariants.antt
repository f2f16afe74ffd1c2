use Rattle.std.proofs.Common.{◌≡◌, take}
use Rattle.std.specs.List.{filter}
use Rattle.govern_rules.specs.Search.{suits}
use Rattle.govern_rules.proofs.candidates.among.Given as goal

abbrev pub invariant-loop-peer : goal.invariant-loop-peer
invariant-loop-peer l = l.cands ≡ filter (suits l.search) (take l.peer-index l.peers)
