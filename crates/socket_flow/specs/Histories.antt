-- Histories of a flow: what it is told and asked, one call after another, and what it answers.
use Rattle.std.specs.Prelude.{◌≡◌, ◌≢◌, ◌⊎◌, ℕ, ◌≤◌, Bool, true, false, not, ◌&&◌, ◌||◌, ◌==◌, eqb, List, [], ◌∷◌, ◌++◌, length, Option, Some, None}
use Rattle.std.specs.List.{AllByRecursion}
use Rattle.net_base.specs.declared.action.Action.{Action}
use Rattle.net_base.specs.declared.action.Action.TheVariants.{Admit}
use Rattle.net_base.specs.declared.address.Addr.{Addr}
use Rattle.net_base.specs.declared.connection.Cid.{Cid}
use Rattle.net_base.specs.declared.event.Event.{Event}
use Rattle.net_base.specs.declared.event.Event.TheVariants.{Bytes}
use Rattle.socket_flow.specs.Acting.{Does}
use Rattle.socket_flow.specs.Announcement.{announced_size, hearing}
use Rattle.socket_flow.specs.Asks.{IsAsked}
use Rattle.socket_flow.specs.Flow.{told_of, after_bytes, after_going, after_full, newcomer}
use Rattle.socket_flow.specs.Moments.{moments_told}
use Rattle.socket_flow.specs.Rounds.{MayQueue, MayQueueAt, HasTurn}
use Rattle.socket_flow.specs.Table.{socket_at, stage_at, out_at, Puts, NamesSame}
use Rattle.socket_flow.specs.Writing.{went_of}
use Rattle.socket_flow.specs.Talk.{KeepsAll, KeepsRest, Loses, MayLose, TellsAndMayLose, TakesIn, IsDialed, Begins, greeting_by}
use Rattle.socket_flow.specs.declared.announcement.Heard.{Heard}
use Rattle.socket_flow.specs.declared.announcement.Heard.TheVariants.{Whole}
use Rattle.socket_flow.specs.declared.ask.Ask.{Ask}
use Rattle.socket_flow.specs.declared.ask.Ask.TheVariants.{Read}
use Rattle.socket_flow.specs.declared.ask.Dialed.{Dialed as Outcome}
use Rattle.socket_flow.specs.declared.flow.SocketFlow.{SocketFlow}
use Rattle.socket_flow.specs.declared.terms.Terms.{Terms}

-- ---- calls

-- A call, with what it is given and what it answers. One that is refused memory is none: the node ends then.
pub data Call : Type 0 where
  PeerWaits : Call
  NobodyWaits : Call
  PeerIsGone : Call
  HasNoRoom : Call
  HasNoRoomToDial : (key : ℕ) (addr : Addr) → Call
  MayBeReady : (key : ℕ) (writable : Bool) → Call
  RoundBegins : (moment : ℕ) → Call
  -- a peer with this address was accepted, and its socket has this key
  PeerCame : (addr : Addr) (key : ℕ) → Call
  DialCameTo : (key : ℕ) (outcome : Outcome) → Call
  -- these bytes came, and they are this event
  BytesCame : (key : ℕ) (bytes : List ℕ) (event : Option Event) → Call
  -- so many bytes went out, which are these: the first of those that wait
  BytesWent : (key count : ℕ) (bytes : List ℕ) → Call
  TakesNoMore : (key : ℕ) → Call
  HasEnded : (key : ℕ) → Call
  NodeDoes : (action : Action) → Call
  NodeAsks : (ask : Ask) → Call

-- what a call makes of a flow, as the contracts say
abbrev pub Makes : Call → SocketFlow → SocketFlow → Type 0
Makes PeerWaits old new = KeepsAll old new
Makes NobodyWaits old new = KeepsAll old new
Makes PeerIsGone old new = KeepsAll old new
Makes HasNoRoom old new = KeepsAll old new
Makes (HasNoRoomToDial key addr) old new = MayLose old new
Makes (MayBeReady key writable) old new = KeepsAll old new
Makes (RoundBegins moment) old new = TellsAndMayLose old new (moments_told old.moments moment)
Makes (PeerCame addr key) old new =
    Puts old.table new.table key (Some (newcomer old.greeting addr)) × (new.events ≡ old.events) × NamesSame old.table new.table × TakesIn key old new
Makes (DialCameTo key outcome) old new = IsDialed (stage_at old.table key) outcome key old new
Makes (BytesCame key bytes event) old new =
    (event ≡ told_of (socket_at old.table key) bytes) × Puts old.table new.table key (after_bytes (socket_at old.table key) bytes) × KeepsRest old new
Makes (BytesWent key count bytes) old new =
    (bytes ≡ went_of (out_at old.table key) count) × Puts old.table new.table key (after_going (socket_at old.table key) count) × KeepsRest old new
Makes (TakesNoMore key) old new = Puts old.table new.table key (after_full (socket_at old.table key)) × KeepsRest old new
Makes (HasEnded key) old new = Loses key old new
Makes (NodeDoes action) old new = Does action old new
Makes (NodeAsks ask) old new = IsAsked old new ask

-- and who stands in line for a turn afterwards
abbrev pub QueuesBy : Action → SocketFlow → SocketFlow → Type 0
QueuesBy (Admit cid addr) old new = MayQueueAt old.turns new.turns old.caller
QueuesBy _ old new = new.turns ≡ old.turns

abbrev pub Queues : Call → SocketFlow → SocketFlow → Type 0
Queues (MayBeReady key writable) old new = MayQueue old.turns new.turns key
Queues (DialCameTo key outcome) old new = MayQueue old.turns new.turns key
Queues (BytesCame key bytes event) old new = MayQueue old.turns new.turns key
Queues (BytesWent key count bytes) old new = MayQueue old.turns new.turns key
Queues (NodeDoes action) old new = QueuesBy action old new
Queues (NodeAsks ask) old new = HasTurn old new ask
Queues _ old new = new.turns ≡ old.turns

-- ---- histories

-- of which socket how many bytes may be read, once a call was made
abbrev pub to_read_of : Ask → Option (ℕ × ℕ)
to_read_of (Read key most) = Some (key, most)
to_read_of _ = None

abbrev pub to_read : Call → Option (ℕ × ℕ)
to_read (NodeAsks ask) = to_read_of ask
to_read _ = None

abbrev pub IsWithin : Option (ℕ × ℕ) → ℕ → List ℕ → Type 0
IsWithin (Some reading) key bytes = (key ≡ reading.0) × (length bytes ≤ reading.1)
IsWithin None key bytes = ⊥

-- bytes are told only where they were asked for, and no more than was asked for
abbrev pub MayCall : Option (ℕ × ℕ) → Call → Type 0
MayCall reading (BytesCame key bytes event) = IsWithin reading key bytes
MayCall reading _ = Unit {0}

abbrev pub Runs : Option (ℕ × ℕ) → List Call → SocketFlow → SocketFlow → Type 0
Runs reading [] old new = new ≡ old
Runs reading (call ∷ calls) old new = MayCall reading call × (next : SocketFlow) × Makes call old next × Runs (to_read call) calls next new × Queues call old next

-- ---- what comes on a socket, and what is told of it

abbrev pub if_on : Bool → List ℕ → List ℕ
if_on true bytes = bytes
if_on false bytes = []

abbrev pub came_by : ℕ → Call → List ℕ
came_by key (BytesCame other bytes event) = if_on (eqb other key) bytes
came_by key _ = []

-- all that came on a socket
abbrev pub came_on : ℕ → List Call → List ℕ
came_on key [] = []
came_on key (call ∷ calls) = came_by key call ++ came_on key calls

abbrev pub event_if_on : Bool → Option Event → List Event
event_if_on true (Some event) = event ∷ []
event_if_on true None = []
event_if_on false event = []

abbrev pub told_by : ℕ → Call → List Event
told_by key (BytesCame other bytes event) = event_if_on (eqb other key) event
told_by key _ = []

-- the events that these bytes were
abbrev pub told_on : ℕ → List Call → List Event
told_on key [] = []
told_on key (call ∷ calls) = told_by key call ++ told_on key calls

abbrev pub is_accepted_by : ℕ → Call → Bool
is_accepted_by key (PeerCame addr other) = eqb other key
is_accepted_by key _ = false

-- whether the socket is that of a peer that connected
abbrev pub is_accepted : ℕ → List Call → Bool
is_accepted key [] = false
is_accepted key (call ∷ calls) = is_accepted_by key call || is_accepted key calls

-- ---- the law

-- events, each of which is bytes of this connection
abbrev pub IsBytesOf : Cid → Event → Type 0
IsBytesOf cid (Bytes other bytes) = other ≡ cid
IsBytesOf cid _ = ⊥

abbrev pub AreBytesOf : Cid → List Event → Type 0
AreBytesOf cid events = AllByRecursion (IsBytesOf cid) events

abbrev pub bytes_of : Event → List ℕ
bytes_of (Bytes cid bytes) = bytes
bytes_of _ = []

-- their bytes, one after another
abbrev pub all_bytes : List Event → List ℕ
all_bytes [] = []
all_bytes (event ∷ events) = bytes_of event ++ all_bytes events

abbrev pub size_at_most : Option ℕ → ℕ
size_at_most (Some size) = size
size_at_most None = 7

-- no more than an announcement that begins so, or nothing where none is awaited
abbrev pub IsSaid : Bool → List ℕ → Type 0
IsSaid true said = length said ≤ size_at_most (announced_size said)
IsSaid false said = said ≡ []

abbrev pub IsAddress : Heard → Type 0
IsAddress (Whole addr) = Unit {0}
IsAddress _ = ⊥

-- an address was announced, where one is awaited
abbrev pub IsAnnounced : Bool → List ℕ → Type 0
IsAnnounced true said = IsAddress (hearing said)
IsAnnounced false said = Unit {0}

-- What came on a socket is what was announced on it, and behind that the bytes of the events, one after another, each told of
-- one and the same connection. Nothing is told before all was announced.
pub record IsTold (announces : Bool) (came : List ℕ) (told : List Event) : Type 0 where
  pub said : List ℕ
  pub no_more : IsSaid announces said
  pub events : (told ≡ []) ⊎ (IsAnnounced announces said × ((cid : Cid) × AreBytesOf cid told))
  pub bytes : came ≡ said ++ all_bytes told

-- those who connect announce an address, where this node announces its own
abbrev pub is_awaited : Terms → ℕ → List Call → Bool
is_awaited terms key calls = is_accepted key calls && not (length (greeting_by terms) == 0)

-- of every history, on every socket
abbrev pub WhatCameIsTold : Type 0
WhatCameIsTold =
    (terms : Terms) (first last : SocketFlow) (calls : List Call) → Begins terms first → Runs None calls first last
    → (key : ℕ) → IsTold (is_awaited terms key calls) (came_on key calls) (told_on key calls)

-- A socket that has ended is read no more, and nothing more is told of it. It is one whose peer connected, or on which bytes
-- came.
abbrev pub EndedIsSilent : Type 0
EndedIsSilent =
    (terms : Terms) (first last : SocketFlow) (before after : List Call) (key : ℕ) → Begins terms first → Runs None (before ++ HasEnded key ∷ after) first last
    → (is_accepted key before ≡ true) ⊎ (came_on key before ≢ []) → (came_on key after ≡ []) × (told_on key after ≡ [])
