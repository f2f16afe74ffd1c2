use Rattle.std.proofs.Common.{◌≡◌, take}
use Rattle.govern_rules.specs.Search.{lookups}
use Rattle.govern_rules.proofs.valency.look_up.Given as goal

abbrev pub invariant-loop-addr : goal.invariant-loop-addr
invariant-loop-addr l = l.known.items ≡ lookups l.book (take l.addr-index l.addrs)
