use Rattle.std.proofs.Common.{◌≡◌, take}
use Rattle.std.specs.List.{filter}
use Rattle.peers.specs.Changes.{is_stranger}
use Rattle.peers.proofs.peers.Peers.strangers.Given as goal

abbrev pub invariant-loop-addr : goal.invariant-loop-addr
invariant-loop-addr l = l.strangers ≡ filter (is_stranger l.own l.self.groups) (take l.addr-index l.addrs)
