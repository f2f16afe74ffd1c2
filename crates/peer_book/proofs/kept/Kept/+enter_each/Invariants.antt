use Rattle.std.proofs.Common.{length}
use Rattle.peer_book.proofs.kept.Kept.+enter_each.Given as goal

abbrev pub decreases-enter_each : goal.decreases-enter_each
decreases-enter_each l = length l.addrs.now
