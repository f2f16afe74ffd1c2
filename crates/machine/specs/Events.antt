-- What each event does.
use Rattle.std.specs.Prelude.{ℕ, ◌+◌, Bool, nat_le, nat_lt, List, [], ◌∷◌, if◌then◌else◌, Option, Some, None}
use Rattle.accept_gate.specs.Gate.{pause_of}
use Rattle.conn_state.specs.Moves.{accepted}
use Rattle.conn_state.specs.Use.{is_live, is_pending, is_dialing}
use Rattle.net_base.specs.Address.{same_address, address_below}
use Rattle.net_base.specs.declared.action.Action.{Action}
use Rattle.net_base.specs.declared.action.Action.TheVariants.{Admit, Turnaway, Pause}
use Rattle.net_base.specs.declared.action.Away.{Away}
use Rattle.net_base.specs.declared.action.Away.TheVariants.{Full, OwnAddr, Crossed, Present}
use Rattle.net_base.specs.declared.action.CloseCause.TheVariants.{Overwritten}
use Rattle.net_base.specs.declared.address.Addr.{Addr}
use Rattle.net_base.specs.declared.connection.Cid.{Cid}
use Rattle.net_base.specs.declared.event.Event.{Event}
use Rattle.net_base.specs.declared.event.Event.TheVariants.{Now, Govern, Accepted, Dialed, Bytes, Closed, Aims, Locals, Roots, BigAims, Bigs}
use Rattle.machine.specs.Machine.{Machine, Entry, fresh_entry, counted_in, live_entry_at, next_cid}
use Rattle.machine.specs.Effect.{Effect, nothing_more, tells, then_do, on_connection}
use Rattle.machine.specs.Connections.{entry_comes, ending, vanishes, dial_opens, dial_fails}
use Rattle.machine.specs.Deadlines.{fire_all}

-- The clock shows a moment. Where it is a later one, all that is due by then happens.
abbrev pub clock_shows : ℕ → Machine → Effect
clock_shows t m = if nat_le t m.now then nothing_more m else fire_all (record m { now = t })

abbrev pub turned_away : Away → Machine → Effect
turned_away away = tells (Turnaway away ∷ [])

-- the pause where the soft limit is passed
abbrev pub pause_notice : Machine → List Action
pause_notice m =
    if nat_lt m.settings.soft (counted_in m) then Pause (pause_of m.settings (counted_in m)) ∷ [] else []

-- An address is admitted under the next id, and then accepting pauses where the soft limit is passed.
abbrev pub admitted : Addr → Machine → Effect
admitted addr m = then_do
    (entry_comes (Admit (next_cid m) addr ∷ []) (fresh_entry (accepted m.next_id addr (m.now + m.settings.handshake))) m)
    (λ m. tells (pause_notice m) m)

-- Two nodes have dialed each other: the connection that the lower address dialed survives.
abbrev pub crossed : Addr → Entry → Machine → Effect
crossed addr entry m =
    if address_below addr m.settings.own then then_do (ending Overwritten entry m) (admitted addr)
    else turned_away Crossed m

-- by the live connection of the address
abbrev pub accepted_beside : Option Entry → Addr → Machine → Effect
accepted_beside None addr m = admitted addr m
accepted_beside (Some entry) addr m =
    if is_pending entry.facts then crossed addr entry m else turned_away Present m

-- A peer has connected. The first that decides: the own address, the hard limit, a live connection of the address.
abbrev pub peer_connects : Addr → Machine → Effect
peer_connects addr m =
    if same_address addr m.settings.own then turned_away OwnAddr m
    else if nat_le m.settings.hard (counted_in m) then turned_away Full m
    else accepted_beside (live_entry_at addr m) addr m

-- one that this side has closed stays for its time-wait
abbrev pub closes : Entry → Machine → Effect
closes entry m = if is_live entry.facts then vanishes entry m else nothing_more m

-- The other side has closed.
abbrev pub peer_closes : Cid → Machine → Effect
peer_closes cid m = on_connection cid closes m

-- ---- a dial has ended

abbrev pub dialed : Bool → Entry → Machine → Effect
dialed opened entry m =
    if is_dialing entry.facts then (if opened then dial_opens entry m else dial_fails entry m)
    else nothing_more m

-- An answer to a dial that is no longer awaited changes nothing.
abbrev pub dial_ends : Cid → Bool → Machine → Effect
dial_ends cid opened m = on_connection cid (dialed opened) m
