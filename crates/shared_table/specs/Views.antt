-- What a seat has seen of the calls at its table.
use Rattle.std.specs.Prelude.{◌≡◌, List, [], ◌∷◌, ◌++◌, Option, Some, None}
use Rattle.atomic_table.specs.Seated.{TableId}
use Rattle.atomic_table.specs.declared.badge.Badge.{Badge}
use Rattle.conn_table.specs.Table.{Table, empty_table}
use Rattle.net_base.specs.declared.settings.Settings.{Settings}
use Rattle.shared_table.specs.Calls.{reply_to}
use Rattle.shared_table.specs.Entries.{entry_of}
use Rattle.shared_table.specs.Replay.{Replays}
use Rattle.shared_table.specs.declared.call.TableCall.{TableCall}
use Rattle.shared_table.specs.declared.entry.Entry.{Entry}
use Rattle.shared_table.specs.declared.reply.TableReply.{TableReply}
use Rattle.shared_table.specs.declared.view.View.{View}
use Rattle.shared_table.specs.declared.view.View.TheVariants.{Whole, Waits, Holds, Both, Gone}

-- which shared table it is, and with which settings it began
pub record TableName : Type 0 where
  pub id : TableId
  pub settings : Settings

-- the history goes on from these calls
pub record Begins (seen history : List Entry) : Type 0 where
  pub more : List Entry
  pub are : history ≡ seen ++ more

-- The call was made behind all that had been seen, and it is the last that was seen then. The calls up to there lead from no
-- connection, with these settings, to a table, and the reply is that table's.
pub record IsMade (settings : Settings) (before : List Entry) (call : TableCall) (reply : TableReply) (after : List Entry) : Type 0 where
  -- calls that had not been seen
  pub between : List Entry
  pub table : Table
  pub seen : after ≡ (before ++ between) ++ entry_of call reply ∷ []
  pub replayed : Replays (before ++ between) (empty_table settings) table
  pub answered : reply ≡ reply_to call table

-- ---- the view of a seat

abbrev pub seen_in : View → List Entry
seen_in (Whole settings) = []
seen_in (Waits settings seen) = seen
seen_in (Holds settings seen found) = seen
seen_in (Both settings one other) = one
seen_in Gone = []

-- what it found when its turn came
abbrev pub found_in : View → List Entry
found_in (Whole settings) = []
found_in (Waits settings seen) = []
found_in (Holds settings seen found) = found
found_in (Both settings one other) = []
found_in Gone = []

abbrev pub seen_of : List View → List Entry
seen_of [] = []
seen_of (view ∷ views) = seen_in view

abbrev pub settings_in : View → Option Settings
settings_in (Whole settings) = Some settings
settings_in (Waits settings seen) = Some settings
settings_in (Holds settings seen found) = Some settings
settings_in (Both settings one other) = Some settings
settings_in Gone = None

abbrev pub settings_of : List View → Option Settings
settings_of [] = None
settings_of (view ∷ views) = settings_in view

-- the one view of a seat that has no turn
abbrev pub IsWaiting : List View → Type 0
IsWaiting views = (settings : Settings) × (views ≡ Waits settings (seen_of views) ∷ [])

-- somebody sits at this table, and has no turn
abbrev pub SitsAt : TableName → Badge View → Type 0
SitsAt name badge = (badge.table_id ≡ name.id) × (badge.views ≡ Waits name.settings (seen_of badge.views) ∷ [])
