-- The lists of addresses, one for each temperature.
use Rattle.std.specs.Prelude.{ℕ, List, vec_capacity, if◌then◌else◌}
use Rattle.net_base.specs.declared.address.Addr.{Addr}
use Rattle.net_base.specs.declared.peer.Temp.{Temp}
use Rattle.net_base.specs.declared.peer.Temp.TheVariants.{Cold, Warm, Hot}
use Rattle.peer_book.specs.Book.{same_temp}
use Rattle.peer_book.specs.Addresses.{with_address, without_address}
use Rattle.peer_book.specs.Row.{addresses_in}
use Rattle.peer_book.specs.declared.rows.Rows.{Rows}

abbrev pub row_of : Temp → Rows → List Addr
row_of Cold rows = addresses_in rows.cold
row_of Warm rows = addresses_in rows.warm
row_of Hot rows = addresses_in rows.hot

-- for how many addresses there is memory
abbrev pub room_of : Temp → Rows → ℕ
room_of Cold rows = vec_capacity rows.cold.rest
room_of Warm rows = vec_capacity rows.warm.rest
room_of Hot rows = vec_capacity rows.hot.rest

-- what the row of one temperature becomes where an address moves from one row to another
abbrev pub moved : Temp → Temp → Addr → Temp → List Addr → List Addr
moved from to addr temp row =
    if same_temp from to then row
    else if same_temp from temp then without_address addr row
    else if same_temp to temp then with_address addr row
    else row
