-- One list of addresses and another that has the same.
use Rattle.std.specs.Prelude.{◌≡◌, List}
use Rattle.net_base.specs.declared.address.Addr.{Addr}
use Rattle.root_groups.specs.Cleaned.{is_listed}

abbrev pub HasSame : List Addr → List Addr → Type 0
HasSame list other = (addr : Addr) → is_listed addr other ≡ is_listed addr list
