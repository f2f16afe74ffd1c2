use Rattle.std.proofs.Common.{◌≡◌, ◌-◌, length}
use Rattle.warm_messages.specs.Reading.{elements_at, address_at, addresses_at}
use Rattle.warm_messages.proofs.Elements.{behind}
use Rattle.warm_messages.proofs.Firsts.{BeganWith}
use Rattle.warm_messages.proofs.share.split_addresses.Given as goal

abbrev pub invariant-loop-count : goal.invariant-loop-count
invariant-loop-count l =
    (behind l.peers (elements_at address_at l.length l.count (length l.bytes - l.count) l.rest) ≡ addresses_at l.bytes)
    × BeganWith l.bytes l.rest
