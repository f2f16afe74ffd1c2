-- Peers that have connected: the node is told of one at a time, and each waits in line until then.
use Rattle.std.specs.Prelude.{◌≡◌, ℕ, true, false, List, [], ◌∷◌, ◌++◌, Option, Some}
use Rattle.net_base.specs.declared.address.Addr.{Addr}
use Rattle.socket_flow.specs.Table.{stage_at, is_waiting, is_told}
use Rattle.socket_flow.specs.Turns.{has_turn}
use Rattle.socket_flow.specs.declared.socket.Stage.TheVariants.{Waiting}
use Rattle.socket_flow.specs.declared.socket_table.SocketTable.{SocketTable}

-- the node has admitted or turned away each peer that it was told of, but the last
abbrev pub IsToldAlone : SocketTable → Option ℕ → Type 0
IsToldAlone table caller = (key : ℕ) → is_told (stage_at table key) ≡ true → caller ≡ Some key

-- each peer of which the node is to be told stands in line
abbrev pub StandInLine : SocketTable → List ℕ → Type 0
StandInLine table line = (key : ℕ) → is_waiting (stage_at table key) ≡ true → has_turn line key ≡ true

-- the node is to be told of none of these
abbrev pub NoneOf : SocketTable → List ℕ → Type 0
NoneOf table [] = Unit {0}
NoneOf table (key ∷ keys) = (is_waiting (stage_at table key) ≡ false) × NoneOf table keys

-- the first in a line of whom the node is to be told, with its address, and those behind it
pub record IsNextOf (table : SocketTable) (line : List ℕ) (key : ℕ) (addr : Addr) (behind : List ℕ) : Type 0 where
  pub gone : List ℕ
  pub none : NoneOf table gone
  pub first : line ≡ gone ++ key ∷ behind
  pub waits : stage_at table key ≡ Some (Waiting addr)
