-- Whose turn it is: connections have theirs in the order in which they became ready.
use Rattle.std.specs.Prelude.{◌≡◌, ◌⊎◌, ℕ, Bool, true, false, not, ◌&&◌, ◌||◌, nat_lt, List, [], ◌∷◌, ◌++◌, length, if◌then◌else◌, Option, Some, None}
use Rattle.socket_flow.specs.Table.{stage_at, out_at, is_open}
use Rattle.socket_flow.specs.Turns.{has_turn, queued}
use Rattle.socket_flow.specs.declared.ask.Ask.{Ask}
use Rattle.socket_flow.specs.declared.ask.Ask.TheVariants.{Read}
use Rattle.socket_flow.specs.declared.flow.SocketFlow.{SocketFlow}
use Rattle.socket_flow.specs.declared.socket_table.SocketTable.{SocketTable}

-- ---- who may be read

-- so much waits to be sent, on a socket and on all, that nothing is read from it
abbrev pub is_behind : List ℕ → ℕ → Bool
is_behind out unsent = nat_lt 1048576 (length out) || (nat_lt 16777216 unsent && nat_lt 0 (length out))

-- a connection, on which not too much waits to be sent
abbrev pub may_be_read : SocketFlow → ℕ → Bool
may_be_read flow key = is_open (stage_at flow.table key) && not (is_behind (out_at flow.table key) flow.unsent)

-- ---- who stands in line

-- nobody leaves the line, and this one may be put behind the others
abbrev pub MayQueue : List ℕ → List ℕ → ℕ → Type 0
MayQueue old new key = (new ≡ old) ⊎ (new ≡ queued old key)

abbrev pub MayQueueAt : List ℕ → List ℕ → Option ℕ → Type 0
MayQueueAt old new None = new ≡ old
MayQueueAt old new (Some key) = MayQueue old new key

-- none of these may be read
abbrev pub NoneMayBeRead : SocketFlow → List ℕ → Type 0
NoneMayBeRead flow [] = Unit {0}
NoneMayBeRead flow (key ∷ keys) = (may_be_read flow key ≡ false) × NoneMayBeRead flow keys

-- the first of a line were passed over, since none of them may be read
pub record HasPassed (flow : SocketFlow) (line behind : List ℕ) : Type 0 where
  pub passed : List ℕ
  pub none : NoneMayBeRead flow passed
  pub first : line ≡ passed ++ behind

-- whose turn it is to be read, if a connection is
abbrev pub turn_of : SocketTable → Ask → List ℕ
turn_of table (Read key most) = if is_open (stage_at table key) then key ∷ [] else []
turn_of table _ = []

abbrev pub IsOutOfLine : List ℕ → List ℕ → Type 0
IsOutOfLine line [] = Unit {0}
IsOutOfLine line (key ∷ keys) = (has_turn line key ≡ false) × IsOutOfLine line keys

-- Whose turn it is stands first in line, but for those who may not be read, and stands there no more.
pub record HasTurn (old new : SocketFlow) (ask : Ask) : Type 0 where
  pub passed : HasPassed new old.turns (turn_of new.table ask ++ new.turns)
  pub out : IsOutOfLine new.turns (turn_of new.table ask)

-- this connection is to be read
abbrev pub IsTurnOf : SocketFlow → ℕ → Ask → Type 0
IsTurnOf flow key (Read other most) = (other ≡ key) × (is_open (stage_at flow.table key) ≡ true)
IsTurnOf flow key _ = ⊥
