use Rattle.std.proofs.Common.{drop}
use Rattle.peer_book.proofs.Gathered.{Gathering}
use Rattle.peer_book.proofs.leaving.gathered.Given as goal

abbrev pub invariant-loop-addr : goal.invariant-loop-addr
invariant-loop-addr l = Gathering l.addrs (drop l.addr-index l.addrs) l.sorted.keys
