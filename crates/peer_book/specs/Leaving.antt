-- Peers that leave together.
use Rattle.std.specs.Prelude.{not, List, filter}
use Rattle.net_base.specs.declared.address.Addr.{Addr}
use Rattle.net_base.specs.declared.peer.Peer.{Peer}
use Rattle.peer_book.specs.Addresses.{has_address}

-- the peers at other addresses than some
abbrev pub others_than : List Addr → List Peer → List Peer
others_than addrs peers = filter (λ p. not (has_address p.addr addrs)) peers
