-- Rising lists of addresses.
use Rattle.std.specs.Prelude.{Bool, List, find, is_some}
use Rattle.net_base.specs.Address.{same_address}
use Rattle.net_base.specs.declared.address.Addr.{Addr}
use Rattle.peer_book.specs.Order.{put_in, taken_out}

abbrev pub has_address : Addr → List Addr → Bool
has_address addr addrs = is_some (find (λ a. same_address a addr) addrs)

abbrev pub with_address : Addr → List Addr → List Addr
with_address = put_in (λ a. a)

abbrev pub without_address : Addr → List Addr → List Addr
without_address = taken_out (λ a. a)
