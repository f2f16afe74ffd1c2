-- What stands for the machine's record, and what a part of a step does to it.
use Rattle.std.specs.Prelude.{◌≡◌, ℕ, ◌%◌, List, [], ◌∷◌, ◌++◌, map, Option, Some, None, IfSome, IsSomeAnd, if◌then◌else◌}
use Rattle.conn_state.specs.Names.{name_of, same_name}
use Rattle.net_base.specs.declared.action.Action.{Action}
use Rattle.net_base.specs.declared.action.Action.TheVariants.{Peer as TellPeer, State, Send}
use Rattle.net_base.specs.declared.action.PeerNote.TheVariants.{Known}
use Rattle.net_base.specs.declared.action.StateName.{StateName}
use Rattle.net_base.specs.declared.address.Addr.{Addr}
use Rattle.net_base.specs.declared.connection.Cid.{Cid}
use Rattle.net_base.specs.declared.connection.Facts.{Facts}
use Rattle.net_base.specs.declared.peer.Temp.{Temp}
use Rattle.machine.specs.Connections.{with_entry}
use Rattle.machine.specs.Effect.{Effect, tells, then_do}
use Rattle.machine.specs.Machine.{Machine, Entry, entry_at}
use Rattle.machine.specs.Peers.{note_of, peer_succeeds}
use Rattle.machine.specs.Replies.{owing, sends_as_initiator}
use Rattle.connections.specs.Standing.{Standing}
use Rattle.mux_segment.specs.Frame.{frame_of}
use Rattle.peers.specs.State.{PeerState}
use Rattle.warm_messages.specs.Writing.{written_alive}
use Rattle.warm_messages.specs.declared.alive.Alive.TheVariants.{Ask}

abbrev pub machine_of : ℕ → PeerState → Standing → Machine
machine_of now p s = record {
  settings = s.settings;
  now = now;
  targets = p.targets;
  big_targets = p.big_targets;
  groups = p.groups;
  roots = p.roots;
  connections = s.entries;
  peers = p.peers;
  next_id = s.next_id;
}

-- what it has of peers
abbrev pub peers_of : Machine → PeerState
peers_of m = record { targets = m.targets; big_targets = m.big_targets; groups = m.groups; roots = m.roots; peers = m.peers }

-- A part of a step led to a machine, and to the actions before it with its own behind them.
pub record Does (effect : Effect) (before : List Action) (machine : Machine) (after : List Action) : Type 0 where
  pub machine_is : machine ≡ effect.machine
  pub actions_are : after ≡ before ++ effect.actions

-- the same of a part that tells nothing
pub record DoesSilently (effect : Effect) (machine : Machine) : Type 0 where
  pub machine_is : machine ≡ effect.machine
  pub tells_nothing : (before : List Action) → before ≡ before ++ effect.actions

-- what is known of a connection that stands
abbrev pub IsKnown : Facts → Machine → Type 0
IsKnown facts m = IsSomeAnd (entry_at facts.cid.0 m) (λ e. e.facts ≡ facts)

-- A part of a step that is about the connection with an id did that.
abbrev pub DoesTo : ℕ → (Entry → Machine → Effect) → List Action → Machine → Machine → List Action → Type 0
DoesTo cid act before old new after = IfSome (entry_at cid old) (λ e. Does (act e old) before new after)

-- a message on a protocol, from a side
abbrev pub sends_from : ℕ → Cid → ℕ → List ℕ → Machine → Effect
sends_from side cid protocol payload m = tells (Send cid (frame_of side protocol m.now payload) ∷ []) m

-- ---- what is told

-- a peer's temperature, where there is one to tell
abbrev pub temp_notice : Addr → Option Temp → List Action
temp_notice addr None = []
temp_notice addr (Some temp) = TellPeer addr (note_of temp) ∷ []

-- that addresses are known, each of which is new in the book
abbrev pub known_notices : List Addr → List Action
known_notices = map (λ addr. TellPeer addr Known)

-- a connection's name, where it is another one than before
abbrev pub told_name : Facts → StateName → List Action
told_name old name = if same_name (name_of old) name then [] else State old.cid name ∷ []

abbrev pub name_notice : Facts → Facts → List Action
name_notice old new = told_name old (name_of new)

-- ---- parts of moves

-- A connection has come into use, which told and did nothing more than that yet: its name is told, its peer is warm,
-- and a keep-alive is sent, to which a reply is owed.
abbrev pub is_used_from : Facts → Entry → Machine → Effect
is_used_from before entry m =
    let cookie = before.cid.0 % 65536 in
    then_do (tells (name_notice before entry.facts) (with_entry (owing 8 cookie m entry) m))
    (λ m. then_do (peer_succeeds before.addr m)
    (sends_as_initiator before.cid 8 (written_alive (Ask cookie))))
