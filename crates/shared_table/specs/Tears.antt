-- Where what the seats kept is not what the history has.
use Rattle.std.specs.Prelude.{ℕ, ◌≡◌, ◌≢◌, ◌+◌, List, ◌∷◌, ◌++◌, Some, slice_get, take}
use Rattle.shared_table.specs.Entries.{calls_of, count_of, noted_in}
use Rattle.shared_table.specs.declared.entry.Entry.{Entry}
use Rattle.shared_table.specs.declared.entry.Noted.{Noted}
use Rattle.shared_table.specs.declared.tear.Seen.{Seen}
use Rattle.shared_table.specs.declared.torn.Torn.{Torn}
use Rattle.shared_table.specs.declared.who.Who.{Who}
use Rattle.shared_table.specs.declared.who.Who.TheVariants.{Out, In}

-- each caller has in the history the calls that its seat kept, and no others
pub record AreNoted (history : List Entry) (outs ins : List Noted) : Type 0 where
  pub outs_are : calls_of Out history ≡ outs
  pub ins_are : calls_of In history ≡ ins

-- what the seat of a caller kept
abbrev pub kept_by : Who → List Noted → List Noted → List Noted
kept_by Out outs ins = outs
kept_by In outs ins = ins

-- an entry is not what its caller's seat kept behind so many others
pub record Differs (entry : Entry) (kept : List Noted) (others : ℕ) (torn : Torn) : Type 0 where
  pub who : torn.who ≡ entry.who
  pub place : torn.place ≡ others + 1
  pub kept_there : slice_get kept others ≡ Some torn.kept
  pub found_there : torn.found ≡ noted_in entry
  pub apart : torn.kept ≢ torn.found

-- The first entry that is not what its caller's seat kept: those before it are.
pub record IsTorn (history : List Entry) (outs ins : List Noted) (torn : Torn) : Type 0 where
  pub before : List Entry
  pub entry : Entry
  pub after : List Entry
  pub parts : history ≡ before ++ entry ∷ after
  pub outs_agree : calls_of Out before ≡ take (count_of Out before) outs
  pub ins_agree : calls_of In before ≡ take (count_of In before) ins
  pub differs : Differs entry (kept_by entry.who outs ins) (count_of entry.who before) torn

-- ---- the comparison

-- how many calls of a caller were compared
abbrev pub seen_of : Who → Seen → ℕ
seen_of Out seen = seen.outs
seen_of In seen = seen.ins

-- one more of a caller
abbrev pub seen_with : Who → Seen → Seen
seen_with Out seen = record seen { outs = seen.outs + 1 }
seen_with In seen = record seen { ins = seen.ins + 1 }
