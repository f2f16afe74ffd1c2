-- How much waits on sockets, and how many announce an address, whatever sockets one takes.
use Rattle.std.specs.Prelude.{ℕ, ◌+◌, ◌*◌, ◌≤◌, List, length, sum_by, if◌then◌else◌}
use Rattle.socket_flow.specs.Table.{out_at, stage_at, is_announcing}
use Rattle.socket_flow.specs.Turns.{IsOnce}
use Rattle.socket_flow.specs.declared.socket_table.SocketTable.{SocketTable}

-- how many bytes wait to be sent on the socket of a key
abbrev pub unsent_at : SocketTable → ℕ → ℕ
unsent_at table key = length (out_at table key)

-- one where the socket of a key announces an address
abbrev pub stranger_at : SocketTable → ℕ → ℕ
stranger_at table key = if is_announcing (stage_at table key) then 1 else 0

-- all sockets that one takes, each once, have no more together
abbrev pub IsMost : (ℕ → ℕ) → ℕ → Type 0
IsMost size most = (keys : List ℕ) → IsOnce keys → sum_by size keys ≤ most

-- On any sockets, each taken once, no more waits to be sent than a `send` may leave on all, and 19 bytes on each beside, which is
-- what an announcement has at most.
abbrev pub IsBelow : SocketTable → Type 0
IsBelow table = (keys : List ℕ) → IsOnce keys → sum_by (unsent_at table) keys ≤ 67108864 + 19 * length keys
