-- What a call leaves as it is of all that is told and sent, and which sockets go.
use Rattle.std.specs.Prelude.{◌≡◌, ℕ, ◌+◌, ◌≤◌, max, true, false, eqb, List, [], ◌∷◌, ◌++◌, if◌then◌else◌, Option, Some, None}
use Rattle.net_base.specs.declared.event.Event.{Event}
use Rattle.net_base.specs.declared.event.Event.TheVariants.{Dialed}
use Rattle.socket_flow.specs.Announcement.{announced}
use Rattle.socket_flow.specs.Flow.{endings}
use Rattle.socket_flow.specs.Table.{socket_at, key_at, out_at, stage_at, is_of, Puts, KeepsTalk, NamesSame}
use Rattle.socket_flow.specs.declared.ask.Dialed.{Dialed as Outcome}
use Rattle.socket_flow.specs.declared.ask.Dialed.TheVariants.{Connected, Failed}
use Rattle.socket_flow.specs.declared.flow.SocketFlow.{SocketFlow}
use Rattle.socket_flow.specs.declared.id.Id.{Id}
use Rattle.socket_flow.specs.declared.socket.Stage.{Stage}
use Rattle.socket_flow.specs.declared.socket.Stage.TheVariants.{Dialing, Open}
use Rattle.socket_flow.specs.declared.terms.Terms.{Terms}

-- ---- what stays

-- no more sockets count as those that announce an address, and as many may
pub record HasNoMoreStrangers (old new : SocketFlow) : Type 0 where
  pub count : new.strangers ≤ old.strangers
  pub most : new.strangers_most ≡ old.strangers_most

-- No key is given to a socket, the announcement is what it was, nobody else is the peer that the node was told of, and nobody
-- more is to announce an address.
pub record KeepsKeys (old new : SocketFlow) : Type 0 where
  pub next : new.table.next_key ≡ old.table.next_key
  pub greeting : new.greeting ≡ old.greeting
  pub caller : (key : ℕ) → new.caller ≡ Some key → old.caller ≡ Some key
  pub strangers : HasNoMoreStrangers old new

-- every socket is for what it was, and the same waits on it
pub record KeepsSockets (old new : SocketFlow) : Type 0 where
  pub talk : KeepsTalk old.table new.table
  pub names : NamesSame old.table new.table
  pub keys : KeepsKeys old new

-- and the same is to be told
pub record KeepsAll (old new : SocketFlow) : Type 0 where
  pub sockets : KeepsSockets old new
  pub events : new.events ≡ old.events

-- but for the sockets of this call: no connection has another socket, and nothing more is to be told
pub record KeepsRest (old new : SocketFlow) : Type 0 where
  pub names : NamesSame old.table new.table
  pub events : new.events ≡ old.events
  pub keys : KeepsKeys old new

-- ---- what goes

-- a socket is gone, if there was one, and its end is the last that is to be told
pub record Loses (key : ℕ) (old new : SocketFlow) : Type 0 where
  pub gone : Puts old.table new.table key None
  pub names : (cid : ℕ) → key_at new.table cid ≡ (if is_of (socket_at old.table key) cid then None else key_at old.table cid)
  pub events : new.events ≡ old.events ++ endings (socket_at old.table key)
  pub keys : KeepsKeys old new

-- these sockets go, one after another, and nothing else comes of it
abbrev pub Losing : List ℕ → SocketFlow → SocketFlow → Type 0
Losing [] old new = KeepsAll old new
Losing (key ∷ keys) old new = (before : SocketFlow) × (after : SocketFlow) × KeepsAll old before × Loses key before after × Losing keys after new

-- sockets may go, each with its end told, and nothing else comes of it
pub record MayLose (old new : SocketFlow) : Type 0 where
  pub gone : List ℕ
  pub losing : Losing gone old new

-- ---- what comes

-- a key is given, which none had before, to a socket that may be one that announces an address
pub record TakesIn (key : ℕ) (old new : SocketFlow) : Type 0 where
  pub was : old.table.next_key ≡ key
  pub next : new.table.next_key ≡ key + 1
  pub greeting : new.greeting ≡ old.greeting
  pub caller : new.caller ≡ old.caller
  pub strangers : new.strangers ≤ old.strangers + 1
  pub most : new.strangers_most ≡ old.strangers_most

-- a socket that was to connect has, and its dial is answered
pub record Connects (key : ℕ) (id : Id) (old new : SocketFlow) : Type 0 where
  pub stage : stage_at new.table key ≡ Some (Open id)
  pub others : (k : ℕ) → eqb key k ≡ false → stage_at new.table k ≡ stage_at old.table k
  pub outs : (k : ℕ) → out_at new.table k ≡ out_at old.table k
  pub names : NamesSame old.table new.table
  pub events : new.events ≡ old.events ++ Dialed id.cid true ∷ []
  pub keys : KeepsKeys old new

-- what has become of a socket that is for this: only a dial is answered, and by its end where it failed
abbrev pub IsDialed : Option Stage → Outcome → ℕ → SocketFlow → SocketFlow → Type 0
IsDialed (Some (Dialing id)) Connected key old new = Connects key id old new
IsDialed (Some (Dialing id)) Failed key old new = Loses key old new
IsDialed _ _ key old new = KeepsAll old new

-- events are told first, and then sockets may go
pub record TellsAndMayLose (old new : SocketFlow) (events : List Event) : Type 0 where
  pub told : SocketFlow
  pub sockets : KeepsSockets old told
  pub last : told.events ≡ old.events ++ events
  pub loses : MayLose told new

-- ---- how it begins

abbrev pub greeting_by : Terms → List ℕ
greeting_by terms = if terms.announce then announced terms.own else []

-- there is no socket, and nothing to be told
pub record Begins (terms : Terms) (flow : SocketFlow) : Type 0 where
  pub sockets : (key : ℕ) → socket_at flow.table key ≡ None
  pub names : (cid : ℕ) → key_at flow.table cid ≡ None
  pub events : flow.events ≡ []
  pub greeting : flow.greeting ≡ greeting_by terms
  pub caller : flow.caller ≡ None
  pub strangers : flow.strangers ≡ 0
  pub most : flow.strangers_most ≡ max terms.soft 1
