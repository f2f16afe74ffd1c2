-- What is known of a table and its history when both seats come back to it.
use Rattle.std.specs.Prelude.{◌≡◌, List}
use Rattle.shared_table.specs.Entries.{count_of}
use Rattle.shared_table.specs.Replay.{Recorded, IsReplayed}
use Rattle.shared_table.specs.Tears.{AreNoted}
use Rattle.shared_table.specs.declared.entry.Noted.{Noted}
use Rattle.shared_table.specs.declared.gathered.Gathered.{Gathered}
use Rattle.shared_table.specs.declared.who.Who.TheVariants.{Out, In}

abbrev pub recorded_in : Gathered → Recorded
recorded_in g = record { table = g.table; history = g.history.items }

-- The history leads to the table, it has as many calls of each governor as that one made, and they are those that its seat kept.
pub record IsGathered (g : Gathered) (outs ins : List Noted) : Type 0 where
  pub replayed : IsReplayed (recorded_in g)
  pub made_out : g.made_out ≡ count_of Out g.history.items
  pub made_in : g.made_in ≡ count_of In g.history.items
  pub noted : AreNoted g.history.items outs ins
