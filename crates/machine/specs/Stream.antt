-- The bytes that come in on a connection.
use Rattle.std.specs.Prelude.{ℕ, ◌||◌, List, Option, Some, None, if◌then◌else◌}
use Rattle.conn_state.specs.Use.{is_greeting, is_negotiated}
use Rattle.hs_receive.specs.Receiving.{kind_of}
use Rattle.mux_segment.specs.Protocols.{node_limits}
use Rattle.mux_segment.specs.Stream.{FedBy, fed_by}
use Rattle.mux_segment.specs.declared.fault.CutFault.{CutFault}
use Rattle.mux_segment.specs.declared.item.Item.{Item}
use Rattle.net_base.specs.declared.action.CloseCause.TheVariants.{Fault}
use Rattle.net_base.specs.declared.connection.Cid.{Cid}
use Rattle.net_base.specs.declared.connection.Phase.{Phase}
use Rattle.net_base.specs.declared.connection.Phase.TheVariants.{Greeting, Negotiated}
use Rattle.machine.specs.Machine.{Machine, Entry}
use Rattle.machine.specs.Effect.{Effect, nothing_more, then_do, on_connection, for_each}
use Rattle.machine.specs.Connections.{entry_turns, ending}
use Rattle.machine.specs.Greeting.{greets}
use Rattle.machine.specs.Talking.{talks}

-- What comes in is handled by how far the connection has come. In no other phase does anything come in.
abbrev pub handled_in : Phase → Item → Entry → Machine → Effect
handled_in (Greeting until) item entry m = greets item entry m
handled_in Negotiated item entry m = talks item entry m
handled_in other item entry m = nothing_more m

abbrev pub handled : Item → Entry → Machine → Effect
handled item entry m = handled_in entry.facts.phase item entry m

-- where the connection has ended, nothing more is handled
abbrev pub handles : Cid → Item → Machine → Effect
handles cid item m = on_connection cid (handled item) m

abbrev pub faulted : Option CutFault → Entry → Machine → Effect
faulted None entry m = nothing_more m
faulted (Some fault) entry m = ending (Fault (kind_of fault)) entry m

-- The new bytes follow those that are not decoded yet. Each item is handled before the next one, and a fault of the
-- stream after the items before it. What stays undecoded is kept at once, since handling an item does not look at it.
abbrev pub fed_with : FedBy → Entry → Machine → Effect
fed_with fed entry m = then_do (entry_turns entry (record entry { undecoded = fed.state.undecoded }) m)
    (λ m. then_do (for_each (handles entry.facts.cid) fed.items m)
    (on_connection entry.facts.cid (faulted fed.state.fault)))

abbrev pub feeds : List ℕ → Entry → Machine → Effect
feeds bytes entry m =
    fed_with (fed_by node_limits (record { undecoded = entry.undecoded; fault = None }) bytes) entry m

-- nothing comes in on a socket that is not open
abbrev pub comes_in : List ℕ → Entry → Machine → Effect
comes_in bytes entry m =
    if is_greeting entry.facts || is_negotiated entry.facts then feeds bytes entry m else nothing_more m

abbrev pub bytes_come_in : Cid → List ℕ → Machine → Effect
bytes_come_in cid bytes m = on_connection cid (comes_in bytes) m
