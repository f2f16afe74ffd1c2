-- A row of addresses.
use Rattle.std.specs.Prelude.{List, ◌++◌}
use Rattle.net_base.specs.declared.address.Addr.{Addr}
use Rattle.peer_book.specs.declared.row.Row.{Row}

-- those in chunks, and then those behind them
abbrev pub addresses_in : Row → List Addr
addresses_in row = row.chunks ++ row.rest.items
