use Rattle.std.proofs.Common.{drop}
use Rattle.peer_book.specs.Newcomers.{with_all_new}
use Rattle.peer_book.proofs.Merging.{Merging}
use Rattle.peer_book.proofs.merge.merged.Given as goal

abbrev pub invariant-loop-addr : goal.invariant-loop-addr
invariant-loop-addr l = Merging l.big (with_all_new l.big l.addrs l.peers) l.all.items (drop l.addr-index l.addrs) l.rest
