-- What waits to be sent and to be told, and who announces an address, is bounded, whatever is called.
use Rattle.std.specs.Prelude.{◌≡◌, ℕ, ◌+◌, ◌*◌, ◌≤◌, max, Bool, true, false, List, [], ◌∷◌, length, sum_by, Option, Some, None}
use Rattle.net_base.specs.declared.action.Action.{Action}
use Rattle.net_base.specs.declared.action.Action.TheVariants.{Admit, Dial, AskRoots}
use Rattle.socket_flow.specs.Asks.{comes_last}
use Rattle.socket_flow.specs.Counts.{unsent_at, stranger_at, IsMost}
use Rattle.socket_flow.specs.Histories.{Call, RoundBegins, PeerCame, NodeDoes, NodeAsks, Makes, Runs}
use Rattle.socket_flow.specs.Table.{stage_at}
use Rattle.socket_flow.specs.Talk.{Begins}
use Rattle.socket_flow.specs.Turns.{IsOnce}
use Rattle.socket_flow.specs.declared.ask.Ask.{Ask}
use Rattle.socket_flow.specs.declared.ask.Ask.TheVariants.{Accept}
use Rattle.socket_flow.specs.declared.flow.SocketFlow.{SocketFlow}
use Rattle.socket_flow.specs.declared.socket.Stage.{Stage}
use Rattle.socket_flow.specs.declared.socket.Stage.TheVariants.{Dialing, Open}
use Rattle.socket_flow.specs.declared.socket_table.SocketTable.{SocketTable}
use Rattle.socket_flow.specs.declared.terms.Terms.{Terms}

-- ---- what waits

-- Of every flow, whatever was called: on its sockets, whichever one takes, each once, no more waits together than a `send` may
-- leave on all, and on each of them an announcement.
abbrev pub WaitsAreBounded : Type 0
WaitsAreBounded = (flow : SocketFlow) (keys : List ℕ) → IsOnce keys → sum_by (unsent_at flow.table) keys ≤ 67108864 + 19 * length keys

-- ---- who announces an address

abbrev pub is_accept : Ask → Bool
is_accept Accept = true
is_accept _ = false

-- whether a peer may be accepted, once a call was made
abbrev pub lets_in : Call → Bool
lets_in (NodeAsks ask) = is_accept ask
lets_in _ = false

abbrev pub MayLetIn : Bool → Call → Type 0
MayLetIn false (PeerCame addr key) = ⊥
MayLetIn _ _ = Unit {0}

-- a peer is accepted only where that is what was asked for last
abbrev pub AcceptsAsAsked : Bool → List Call → Type 0
AcceptsAsAsked may [] = Unit {0}
AcceptsAsAsked may (call ∷ calls) = MayLetIn may call × AcceptsAsAsked (lets_in call) calls

-- Of every history in which peers are accepted as asked: no more sockets, each counted once, announce an address than accepting
-- pauses behind, and one where that is none.
abbrev pub StrangersAreFew : Type 0
StrangersAreFew =
    (terms : Terms) (first last : SocketFlow) (calls : List Call) → Begins terms first → Runs None calls first last → AcceptsAsAsked false calls
    → IsMost (stranger_at last.table) (max terms.soft 1)

-- ---- events that wait

-- as many events may still be told of a socket: the answer of its dial, and its end
abbrev pub untold_of : Option Stage → ℕ
untold_of (Some (Dialing id)) = 2
untold_of (Some (Open id)) = 1
untold_of _ = 0

abbrev pub untold_at : SocketTable → ℕ → ℕ
untold_at table key = untold_of (stage_at table key)

-- as many more may be told of what the node does
abbrev pub more_of : Action → ℕ
more_of (Dial cid addr) = 2
more_of (Admit cid addr) = 1
more_of (AskRoots job) = 1
more_of _ = 0

-- as many more may be told of a call: of a round its moment
abbrev pub more_by : Call → ℕ
more_by (RoundBegins moment) = 1
more_by (NodeDoes action) = more_of action
more_by _ = 0

abbrev pub more_in : List Call → ℕ
more_in [] = 0
more_in (call ∷ calls) = more_by call + more_in calls

-- Of every flow: where it asks for anything behind closings, connects, writes and events, no event waits.
abbrev pub NoneWaits : Type 0
NoneWaits = (old new : SocketFlow) (ask : Ask) → Makes (NodeAsks ask) old new → comes_last ask ≡ true → new.events ≡ []

-- Of every history, from a flow on in which no event waits: no more wait than its sockets had to tell, two of each that dials and
-- one of each connection, and one of each round and each question for roots, two of each dial and one of each peer let in since.
abbrev pub EventsAreBounded : Type 0
EventsAreBounded =
    (reading : Option (ℕ × ℕ)) (first last : SocketFlow) (calls : List Call) (most : ℕ) → first.events ≡ [] → IsMost (untold_at first.table) most → Runs reading calls first last
    → length last.events ≤ most + more_in calls
