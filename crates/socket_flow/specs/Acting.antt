-- What comes of what the node does.
use Rattle.std.specs.Prelude.{◌≡◌, ℕ, ◌+◌, ◌-◌, ◌^◌, Bool, false, not, ◌&&◌, eqb, nat_le, nat_lt, max, min, List, [], ◌∷◌, ◌++◌, length, if◌then◌else◌, Option, Some, None, is_some}
use Rattle.std.specs.Bool.{MatchBool}
use Rattle.net_base.specs.declared.action.Action.{Action}
use Rattle.net_base.specs.declared.action.Action.TheVariants.{Admit, Turnaway, Dial, Send, Close, Pause, AskRoots, State, Peer}
use Rattle.net_base.specs.declared.address.Addr.{Addr}
use Rattle.net_base.specs.declared.connection.Cid.{Cid}
use Rattle.net_base.specs.declared.event.Event.{Event}
use Rattle.net_base.specs.declared.event.Event.TheVariants.{Roots as Answered}
use Rattle.net_base.specs.declared.event.Job.{Job}
use Rattle.net_base.specs.declared.event.RootAnswer.TheVariants.{Found}
use Rattle.socket_flow.specs.Table.{socket_at, key_at, stage_at, out_at, is_linked, Puts, HasSame}
use Rattle.socket_flow.specs.Talk.{HasNoMoreStrangers, KeepsAll, KeepsKeys, KeepsRest, Loses, MayLose, TakesIn}
use Rattle.socket_flow.specs.declared.flow.SocketFlow.{SocketFlow}
use Rattle.socket_flow.specs.declared.roots.Roots.{Roots}
use Rattle.socket_flow.specs.declared.socket.Socket.{Socket}
use Rattle.socket_flow.specs.declared.socket.Stage.{Stage}
use Rattle.socket_flow.specs.declared.socket_table.SocketTable.{SocketTable}
use Rattle.socket_flow.specs.declared.socket.Stage.TheVariants.{Dialing, Open, Closing}

-- an id that a trace may name, and that is no connection yet
abbrev pub is_free : SocketFlow → ℕ → Bool
is_free flow cid = not (is_some (key_at flow.table cid)) && nat_le cid (2 ^ 48)

-- ---- a peer is let in, or not

abbrev pub IsOpenAs : Cid → Option Socket → Option Stage → Type 0
IsOpenAs cid (Some socket) (Some (Open id)) = id.cid ≡ cid
IsOpenAs cid (Some socket) _ = ⊥
IsOpenAs cid None stage = stage ≡ None

-- from now on an id is the connection of the socket of this key
abbrev pub Names : SocketFlow → SocketFlow → Cid → ℕ → Type 0
Names old new cid key = (c : ℕ) → key_at new.table c ≡ (if eqb cid.0 c then Some key else key_at old.table c)

-- The socket of the peer that the node was told of is the connection from now on, with what waited on it, and no other socket
-- is another.
pub record IsOpened (old new : SocketFlow) (key : ℕ) (cid : Cid) : Type 0 where
  pub stage : IsOpenAs cid (socket_at old.table key) (stage_at new.table key)
  pub out : out_at new.table key ≡ out_at old.table key
  pub others : (k : ℕ) → eqb key k ≡ false → socket_at new.table k ≡ socket_at old.table k
  pub caller : new.caller ≡ None
  pub names : Names old new cid key
  pub events : new.events ≡ old.events
  pub next : new.table.next_key ≡ old.table.next_key
  pub greeting : new.greeting ≡ old.greeting
  pub strangers : HasNoMoreStrangers old new

abbrev pub OpensOn : SocketFlow → SocketFlow → Option ℕ → Cid → Type 0
OpensOn old new None cid = KeepsAll old new
OpensOn old new (Some key) cid = IsOpened old new key cid

abbrev pub Admits : SocketFlow → SocketFlow → Cid → Type 0
Admits old new cid = MatchBool (is_free old cid.0) (OpensOn old new old.caller cid) (KeepsAll old new)

-- the socket of the peer that the node was told of is closed
abbrev pub LeavesAt : SocketTable → SocketTable → Option ℕ → Type 0
LeavesAt old new None = HasSame old new
LeavesAt old new (Some key) = Puts old new key None

abbrev pub Leaves : SocketFlow → SocketFlow → Type 0
Leaves old new = LeavesAt old.table new.table old.caller × (new.caller ≡ None)

-- ---- a dial

abbrev pub IsDialingAs : Cid → Option Stage → Type 0
IsDialingAs cid (Some (Dialing id)) = id.cid ≡ cid
IsDialingAs cid _ = ⊥

-- a new socket is to connect, on which the announcement waits
pub record DialsAt (old new : SocketFlow) (key : ℕ) (cid : Cid) (addr : Addr) : Type 0 where
  pub stage : IsDialingAs cid (stage_at new.table key)
  pub out : out_at new.table key ≡ old.greeting
  pub others : (k : ℕ) → eqb key k ≡ false → socket_at new.table k ≡ socket_at old.table k
  pub connects : new.connecting.items ≡ old.connecting.items ++ (key, addr) ∷ []
  pub names : Names old new cid key
  pub events : new.events ≡ old.events
  pub taken : TakesIn key old new
  pub strangers : HasNoMoreStrangers old new

abbrev pub Dials : SocketFlow → SocketFlow → Cid → Addr → Type 0
Dials old new cid addr = MatchBool (is_free old cid.0) (DialsAt old new old.table.next_key cid addr) (KeepsAll old new)

-- ---- what is sent

abbrev pub put_on : Option Socket → List ℕ → List ℕ
put_on (Some socket) bytes = socket.out ++ bytes
put_on None bytes = []

-- the bytes are put behind those that wait on the socket, and no other socket has more
pub record PutsOn (old new : SocketFlow) (key : ℕ) (bytes : List ℕ) : Type 0 where
  pub outs : (k : ℕ) → out_at new.table k ≡ (if eqb key k then put_on (socket_at old.table key) bytes else out_at old.table k)
  pub stages : (k : ℕ) → stage_at new.table k ≡ stage_at old.table k
  pub rest : KeepsRest old new

-- where more than the most would wait on all sockets, the connection ends in its place
abbrev pub SendsOn : SocketFlow → SocketFlow → Option ℕ → List ℕ → Type 0
SendsOn old new None bytes = KeepsAll old new
SendsOn old new (Some key) bytes =
    MatchBool (nat_lt 67108864 (min (old.unsent + length bytes) (2 ^ 64 - 1))) (Loses key old new) (PutsOn old new key bytes)

abbrev pub Sends : SocketFlow → SocketFlow → Cid → List ℕ → Type 0
Sends old new cid bytes = SendsOn old new (key_at old.table cid.0) bytes

-- ---- the rest

abbrev pub IsClosing : Option Stage → Type 0
IsClosing (Some Closing) = Unit {0}
IsClosing (Some stage) = ⊥
IsClosing None = Unit {0}

-- where there is a socket still, the same waits on it
abbrev pub OutStays : Option Stage → List ℕ → List ℕ → Type 0
OutStays None before after = Unit {0}
OutStays (Some stage) before after = after ≡ before

-- The id has no socket from then on, nothing is told of it, and no other socket is another.
pub record ClosesAt (old new : SocketFlow) (key : ℕ) (cid : Cid) : Type 0 where
  pub stage : MatchBool (is_linked (stage_at old.table key)) (IsClosing (stage_at new.table key)) (stage_at new.table key ≡ stage_at old.table key)
  pub out : OutStays (stage_at new.table key) (out_at old.table key) (out_at new.table key)
  pub others : (k : ℕ) → eqb key k ≡ false → socket_at new.table k ≡ socket_at old.table k
  pub names : (c : ℕ) → key_at new.table c ≡ (if eqb cid.0 c then None else key_at old.table c)
  pub events : new.events ≡ old.events
  pub keys : KeepsKeys old new

abbrev pub ClosesOn : SocketFlow → SocketFlow → Option ℕ → Cid → Type 0
ClosesOn old new None cid = KeepsAll old new
ClosesOn old new (Some key) cid = ClosesAt old new key cid

-- nothing is told of a connection that the node closes, and its id has no socket from then on
abbrev pub Closes : SocketFlow → SocketFlow → Cid → Type 0
Closes old new cid = (key_at new.table cid.0 ≡ None) × (new.events ≡ old.events) × ClosesOn old new (key_at old.table cid.0) cid

-- the public root peers, for this question
abbrev pub answers : Roots → Job → List Event
answers roots job = if nat_le job.0 (2 ^ 48) then Answered job (Found roots.serve roots.publics) ∷ [] else []

abbrev pub Does : Action → SocketFlow → SocketFlow → Type 0
Does (Admit cid addr) old new = Admits old new cid
Does (Turnaway away) old new = Leaves old new × MayLose old new
Does (Dial cid addr) old new = Dials old new cid addr
Does (Send cid bytes) old new = Sends old new cid bytes
Does (Close cid cause) old new = Closes old new cid
Does (Pause time) old new = new ≡ record old { door = record old.door { rests_until = max old.door.rests_until (min (old.moments.moment + time) (2 ^ 64 - 1)) } }
Does (AskRoots job) old new = new ≡ record old { events = old.events ++ answers old.roots job }
Does (State cid name) old new = new ≡ old
Does (Peer addr note) old new = new ≡ old
