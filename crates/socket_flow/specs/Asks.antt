-- What is asked for.
use Rattle.std.specs.Prelude.{◌≡◌, ◌⊎◌, ℕ, ◌<◌, Bool, true, false, eqb, MatchBool, List, [], ◌∷◌, Option, Some}
use Rattle.net_base.specs.Limits.{IsWithinLimits}
use Rattle.net_base.specs.declared.address.Addr.{Addr}
use Rattle.net_base.specs.declared.event.Event.{Event}
use Rattle.net_base.specs.declared.event.Event.TheVariants.{Accepted}
use Rattle.socket_flow.specs.Acting.{LeavesAt}
use Rattle.socket_flow.specs.Peers.{IsNextOf}
use Rattle.socket_flow.specs.Stages.{unheard}
use Rattle.socket_flow.specs.Table.{stage_at, out_at, is_dialing, NamesSame}
use Rattle.socket_flow.specs.Talk.{HasNoMoreStrangers, KeepsAll, KeepsSockets, MayLose}
use Rattle.socket_flow.specs.declared.ask.Ask.{Ask}
use Rattle.socket_flow.specs.declared.flow.SocketFlow.{SocketFlow}
use Rattle.socket_flow.specs.declared.socket.Stage.{Stage}
use Rattle.socket_flow.specs.declared.socket.Stage.TheVariants.{Announcing, Waiting, Told, Open}
use Rattle.socket_flow.specs.declared.socket_table.SocketTable.{SocketTable}
use Rattle.socket_flow.specs.declared.ask.Ask.TheVariants.{Close, Connect, Write, Accept, Read, Give}

-- Where no event waits the node is told of the peer that has waited for longest, by its own address, and the others wait. The
-- next word of the node's on a peer is on this one.
pub record IsNextCaller (old new : SocketFlow) (event : Event) : Type 0 where
  pub key : ℕ
  pub addr : Addr
  pub none : old.events ≡ []
  pub first : IsNextOf old.table old.callers.items key addr new.callers.items
  pub waits : stage_at old.table key ≡ Some (Waiting addr)
  pub told : event ≡ Accepted addr
  pub caller : new.caller ≡ Some key
  pub now_told : stage_at new.table key ≡ Some Told
  pub others : (k : ℕ) → eqb key k ≡ false → stage_at new.table k ≡ stage_at old.table k
  pub outs : (k : ℕ) → out_at new.table k ≡ out_at old.table k
  pub names : NamesSame old.table new.table
  pub left : new.events ≡ []
  pub next : new.table.next_key ≡ old.table.next_key
  pub greeting : new.greeting ≡ old.greeting
  pub strangers : HasNoMoreStrangers old new

-- An event that is given is the first that waits, or tells of the next peer. Before that the socket of a peer that the node
-- was told of, and has neither admitted nor turned away, is closed.
abbrev pub Gives : SocketFlow → SocketFlow → Ask → Type 0
Gives old new (Give event) = (left : SocketFlow) × LeavesAt old.table left.table old.caller × ((left.events ≡ event ∷ new.events) ⊎ IsNextCaller left new event)
Gives old new _ = Unit {0}

-- one more is accepted only where somebody may wait, and fewer than the most announce themselves
abbrev pub AsksForRoom : SocketFlow → Ask → Type 0
AsksForRoom flow Accept = (flow.door.is_called ≡ true) × (flow.strangers < flow.strangers_most)
AsksForRoom flow _ = Unit {0}

-- an event that is to be given is one that a trace may hold
abbrev pub GivesWithinLimits : Ask → Type 0
GivesWithinLimits (Give event) = IsWithinLimits event
GivesWithinLimits _ = Unit {0}

-- something is to be done on the sockets, and no event is given
abbrev pub IsOfSockets : Ask → Type 0
IsOfSockets (Give event) = ⊥
IsOfSockets _ = Unit {0}

-- so many bytes may be read of a socket: as many as its announcement still has, or of a connection any
abbrev pub MayRead : Option Stage → ℕ → Type 0
MayRead (Some (Announcing said)) most = most ≡ unheard (Announcing said)
MayRead (Some (Open id)) most = Unit {0}
MayRead _ most = ⊥

-- nothing is given, and what is read may be
abbrev pub IsReadable : SocketTable → Ask → Type 0
IsReadable table (Give event) = ⊥
IsReadable table (Read key most) = MayRead (stage_at table key) most
IsReadable table _ = Unit {0}

-- the first event that waits, without which the others wait
pub record IsFirst (old new : SocketFlow) (event : Event) : Type 0 where
  pub first : old.events ≡ event ∷ new.events
  pub sockets : KeepsSockets old new

-- bytes are read only where nothing else waits to be told
abbrev pub IsSilent : SocketFlow → Ask → Type 0
IsSilent flow (Read key most) = flow.events ≡ []
IsSilent flow _ = Unit {0}

-- what is asked for of a socket that is not read
abbrev pub IsNoRead : Ask → Type 0
IsNoRead (Read key most) = ⊥
IsNoRead _ = Unit {0}

-- what is asked for where nobody is accepted
abbrev pub IsNoAccept : Ask → Type 0
IsNoAccept Accept = ⊥
IsNoAccept _ = Unit {0}

abbrev pub Asks : SocketFlow → SocketFlow → Ask → Type 0
Asks old new (Give event) = IsFirst old new event ⊎ IsNextCaller old new event
Asks old new (Read key most) = KeepsAll old new × IsReadable new.table (Read key most) × (new.events ≡ [])
Asks old new ask = KeepsAll old new × IsReadable new.table ask

-- ---- what comes before what

-- what comes behind all that is to be done on sockets and all events
abbrev pub comes_last : Ask → Bool
comes_last (Close key) = false
comes_last (Connect key addr) = false
comes_last (Write key) = false
comes_last (Give event) = false
comes_last _ = true

-- none of these dials is to be begun still
abbrev pub HasNoDial : SocketTable → List (ℕ × Addr) → Type 0
HasNoDial table [] = Unit {0}
HasNoDial table (dial ∷ dials) = (is_dialing (stage_at table dial.0) ≡ false) × HasNoDial table dials

-- nothing is to be closed, to be connected or to be written
pub record NoneIsLeft (flow : SocketFlow) : Type 0 where
  pub closing : flow.closing.items ≡ []
  pub connecting : HasNoDial flow.table flow.connecting.items
  pub writes : flow.writes ≡ []

-- closings come first, then connects, then what is to be written, and then all else
abbrev pub ComesAfter : SocketFlow → Ask → Type 0
ComesAfter flow (Close key) = Unit {0}
ComesAfter flow (Connect key addr) = flow.closing.items ≡ []
ComesAfter flow (Write key) = (flow.closing.items ≡ []) × HasNoDial flow.table flow.connecting.items
ComesAfter flow _ = NoneIsLeft flow

-- every event was given, and the node was told of every peer
pub record IsQuiet (flow : SocketFlow) : Type 0 where
  pub events : flow.events ≡ []
  pub callers : flow.callers.items ≡ []

-- Sockets may go, each with its end told. Then the first event is given, or the next peer is told of, or something is to be
-- done on a socket, which is read only where it may be, and where nothing else waits to be told. A peer is accepted only where
-- there is room for one more that announces itself. What comes first is done first.
pub record IsAsked (old new : SocketFlow) (ask : Ask) : Type 0 where
  pub left : SocketFlow
  pub loses : MayLose old left
  pub asks : Asks left new ask
  pub room : AsksForRoom new ask
  pub order : ComesAfter old ask
  pub quiet : MatchBool (comes_last ask) (IsQuiet new) (Unit {0})
