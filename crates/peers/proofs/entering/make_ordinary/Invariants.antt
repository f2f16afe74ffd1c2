use Rattle.std.proofs.Common.{◌≡◌, take}
use Rattle.peers.specs.Changes.{all_ordinary}
use Rattle.peers.proofs.entering.make_ordinary.Given as goal

abbrev pub invariant-loop-addr : goal.invariant-loop-addr
invariant-loop-addr l = l.book ≡ all_ordinary (take l.addr-index l.addrs) l.fn.book
