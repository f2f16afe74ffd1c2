-- What the table says to the outbound side, and to a grace that is over.
use Rattle.std.specs.Prelude.{ℕ, Bool, ◌&&◌, nat_le, List, Option, Some, None, is_some, find, if◌then◌else◌, true, false}
use Rattle.net_base.specs.Address.{same_address}
use Rattle.net_base.specs.declared.address.Addr.{Addr}
use Rattle.net_base.specs.declared.connection.Cid.{Cid}
use Rattle.net_base.specs.declared.connection.Facts.{Facts}
use Rattle.net_base.specs.declared.connection.Grace.{Grace}
use Rattle.net_base.specs.declared.connection.Grace.TheVariants.{Off, ForRemote, ForLocal}
use Rattle.conn_state.specs.Moves.{acquired}
use Rattle.conn_state.specs.Names.{name_of}
use Rattle.conn_state.specs.Use.{is_acquirable, is_outbound, live_at}
use Rattle.conn_table.specs.Table.{Table, with_moved}
use Rattle.conn_table.specs.declared.acquire.Acquire.{Acquire}
use Rattle.conn_table.specs.declared.acquire.Acquire.TheVariants.{Leased, NoSuch, NotReusable}
use Rattle.conn_table.specs.declared.grace_end.GraceEnd.{GraceEnd}
use Rattle.conn_table.specs.declared.grace_end.GraceEnd.TheVariants.{Expired, Closing}

-- ---- a connection of an address

abbrev pub has_address : Addr → Facts → Bool
has_address addr f = same_address f.addr addr

-- some connection has the address, closed or not
abbrev pub any_at : Addr → List Facts → Bool
any_at addr fs = is_some (find (has_address addr) fs)

-- ---- the wish to use the connection of an address

abbrev pub acquire_answer : Option Facts → Acquire
acquire_answer None = NoSuch
acquire_answer (Some f) = if is_acquirable f then Leased f.cid else NotReusable (name_of f)

-- by the live connection of the address
abbrev pub acquire_of : Addr → List Facts → Acquire
acquire_of addr fs = acquire_answer (live_at addr fs)

-- only a lease that is given changes the table: its connection comes into local use
abbrev pub after_acquire : Acquire → Table → Table
after_acquire (Leased cid) t = with_moved cid.0 acquired t
after_acquire NoSuch t = t
after_acquire (NotReusable name) t = t

-- some connection of the address may be taken into use
abbrev pub any_acquirable : Addr → List Facts → Bool
any_acquirable addr fs = is_some (find (λ f. has_address addr f && is_acquirable f) fs)

-- one that was found, and may be taken into use
abbrev pub may_acquire : Option Facts → Bool
may_acquire None = false
may_acquire (Some f) = is_acquirable f

abbrev pub is_leased : Acquire → Bool
is_leased (Leased cid) = true
is_leased NoSuch = false
is_leased (NotReusable name) = false

-- ---- the end of a handshake

-- a lease comes with an outbound connection, which is in local use from then on
abbrev pub lease_of : Facts → Option Cid
lease_of f = if is_outbound f then Some f.cid else None

-- ---- a grace

-- it runs until a moment that has come
abbrev pub is_due : ℕ → Grace → Bool
is_due now Off = false
is_due now (ForRemote until) = nat_le until now
is_due now (ForLocal until) = nat_le until now

abbrev pub grace_end_of : Facts → GraceEnd
grace_end_of f = if f.local then Expired else Closing
