use Rattle.std.proofs.Common.{List, length}
use Rattle.net_base.specs.declared.peer.Peer.{Peer}
use Rattle.govern_rules.specs.Walks.{AreKnown}
use Rattle.govern_rules.proofs.nearby.passed.Given as goal

abbrev pub invariant-loop-peer : goal.invariant-loop-peer
invariant-loop-peer l = (book : List Peer) → AreKnown l.run book → AreKnown l.rest book

abbrev pub decreases-loop-peer : goal.decreases-loop-peer
decreases-loop-peer l = length l.rest
