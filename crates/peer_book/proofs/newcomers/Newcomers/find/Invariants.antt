use Rattle.std.proofs.Common.{drop}
use Rattle.peer_book.proofs.ComingIn.{Coming}
use Rattle.peer_book.proofs.newcomers.Newcomers.find.Given as goal

abbrev pub invariant-loop-addr : goal.invariant-loop-addr
invariant-loop-addr l = Coming l.most l.big l.addrs (drop l.addr-index l.addrs) l.kept.peers l.given l.sorted.keys
