-- What the seat of a governor keeps.
use Rattle.std.specs.Prelude.{ℕ, ◌≡◌, List, [], Option, Some}
use Rattle.atomic_table.specs.Seated.{TableId}
use Rattle.net_base.specs.declared.settings.Settings.{Settings}
use Rattle.shared_table.specs.Views.{TableName}
use Rattle.shared_table.specs.declared.entry.Entry.{Entry}
use Rattle.shared_table.specs.declared.entry.Noted.{Noted}

pub record Seated : Type 0 where
  -- How many parts of its ledger it has.
  pub parts : ℕ
  -- Which table it is a seat at, and with which settings that began.
  pub id : TableId
  pub settings : Option Settings
  -- its calls with the replies, in the order in which they were made
  pub noted : List Noted
  -- The history of the table, up to its last call.
  pub seen : List Entry

-- a seat at this table, with every part of its ledger
pub record IsAt (parts : ℕ) (table : TableName) (seat : Seated) : Type 0 where
  pub parts-are : seat.parts ≡ parts
  pub id-is : seat.id ≡ table.id
  pub settings-are : seat.settings ≡ Some table.settings

-- no call was made yet
abbrev pub new_seat_at : ℕ → TableName → Seated
new_seat_at parts table = record { parts = parts; id = table.id; settings = Some table.settings; noted = []; seen = [] }
