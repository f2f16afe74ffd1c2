use Rattle.std.proofs.Common.{◌≡◌, ◌++◌, take, length}
use Rattle.std.specs.List.{flat_map}
use Rattle.warm_messages.specs.Writing.{written_address, written_opening}
use Rattle.warm_messages.proofs.share.write_addresses.Given as goal

abbrev pub invariant-loop-addr : goal.invariant-loop-addr
invariant-loop-addr l = l.out ≡ (l.fn.out ++ written_opening (length l.peers)) ++ flat_map written_address (take l.addr-index l.peers)
