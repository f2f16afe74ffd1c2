-- Whose turn comes before whose, over whole histories.
use Rattle.std.specs.Prelude.{◌≡◌, ℕ, Bool, true, false, eqb, ◌||◌, List, [], ◌∷◌, ◌++◌, Option, Some}
use Rattle.socket_flow.specs.Asks.{comes_last}
use Rattle.socket_flow.specs.Histories.{Call, NodeAsks, Makes, to_read, Runs}
use Rattle.socket_flow.specs.Rounds.{may_be_read}
use Rattle.socket_flow.specs.Table.{stage_at, is_waiting, is_told, is_open}
use Rattle.socket_flow.specs.Turns.{has_turn}
use Rattle.socket_flow.specs.declared.ask.Ask.{Ask}
use Rattle.socket_flow.specs.declared.ask.Ask.TheVariants.{Read}
use Rattle.socket_flow.specs.declared.flow.SocketFlow.{SocketFlow}

-- ---- peers that have connected

-- Of every flow, whatever was called: a peer that the node was told of, and has neither admitted nor turned away, is the one that
-- its next word on a peer is on. So there is one at a time.
abbrev pub OneIsTold : Type 0
OneIsTold = (flow : SocketFlow) (key : ℕ) → is_told (stage_at flow.table key) ≡ true → flow.caller ≡ Some key

-- Of every flow: where it asks for anything behind closings, connects, writes and events, the node was told of each peer that
-- has connected and has an address.
abbrev pub AllAreTold : Type 0
AllAreTold = (old new : SocketFlow) (ask : Ask) → Makes (NodeAsks ask) old new → comes_last ask ≡ true → (key : ℕ) → is_waiting (stage_at new.table key) ≡ false

-- ---- connections

-- in each flow that a history goes through this holds
abbrev pub Throughout : (holds : SocketFlow → Type 0) (reading : Option (ℕ × ℕ)) (calls : List Call) (old new : SocketFlow) → Runs reading calls old new → Type 0
Throughout holds reading [] old new runs = holds old
Throughout holds reading (call ∷ calls) old new runs = holds old × Throughout holds (to_read call) calls runs.1 new runs.3

abbrev pub is_read_by : ℕ → Ask → Bool
is_read_by key (Read other most) = eqb other key
is_read_by key _ = false

abbrev pub asks_to_read : ℕ → Call → Bool
asks_to_read key (NodeAsks ask) = is_read_by key ask
asks_to_read key _ = false

-- whether it is asked to read a socket
abbrev pub is_read_in : ℕ → List Call → Bool
is_read_in key [] = false
is_read_in key (call ∷ calls) = asks_to_read key call || is_read_in key calls

-- Of every history, between two reads of one connection: each other that stood in line for a turn behind the first, and may be
-- read all the while, is read.
abbrev pub TurnsAreShared : Type 0
TurnsAreShared =
    (reading : Option (ℕ × ℕ)) (old first last : SocketFlow) (between : List Call) (key other most more : ℕ)
    → Runs reading (NodeAsks (Read key most) ∷ []) old first → (runs : Runs (Some (key, most)) (between ++ NodeAsks (Read key more) ∷ []) first last)
    → is_open (stage_at first.table key) ≡ true → is_open (stage_at last.table key) ≡ true
    → has_turn first.turns other ≡ true → Throughout (λ flow. may_be_read flow other ≡ true) (Some (key, most)) (between ++ NodeAsks (Read key more) ∷ []) first last runs
    → is_read_in other between ≡ true
