-- What a history says of a table.
use Rattle.std.specs.Prelude.{◌≡◌, List, [], ◌∷◌}
use Rattle.conn_table.specs.Table.{Table, empty_table}
use Rattle.shared_table.specs.Calls.{reply_to, table_after}
use Rattle.shared_table.specs.Entries.{entry_of}
use Rattle.shared_table.specs.declared.entry.Entry.{Entry}

-- a table with the calls that were made on it
pub record Recorded : Type 0 where
  pub table : Table
  pub history : List Entry

-- Made one after another from a table, the calls are answered with the replies that stand there, and lead to another.
abbrev pub Replays : List Entry → Table → Table → Type 0
Replays [] from to = from ≡ to
Replays (e ∷ es) from to = (e ≡ entry_of e.call (reply_to e.call from)) × Replays es (table_after e.call from) to

-- from no connection to the table as it is
abbrev pub IsReplayed : Recorded → Type 0
IsReplayed r = Replays r.history (empty_table r.table.settings) r.table
