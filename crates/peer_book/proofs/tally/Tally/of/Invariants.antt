use Rattle.std.proofs.Common.{◌≡◌, take}
use Rattle.peer_book.specs.Tallies.{tally_of}
use Rattle.peer_book.proofs.tally.Tally.of.Given as goal

abbrev pub invariant-loop-peer : goal.invariant-loop-peer
invariant-loop-peer l = l.tally ≡ tally_of (take l.peer-index l.peers)
