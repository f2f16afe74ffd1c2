-- What is kept of the connections that stand, as the list of them.
use Rattle.conn_table.specs.Rosters.{IsKept, facts_kept}
use Rattle.conn_table.specs.Table.{Table}
use Rattle.conn_table.specs.declared.roster.Roster.{Roster}
use Rattle.net_base.specs.Bounds.{AreSound}
use Rattle.net_base.specs.declared.settings.Settings.{Settings}
use Rattle.connections.specs.Ordered.{IsOrdered}
use Rattle.connections.specs.Standing.{Standing}
use Rattle.connections.specs.Talks.{AreTalksOf, standing_of}
use Rattle.connections.specs.declared.kept.Kept.{Kept}

abbrev pub table_of : Settings → Roster → Table
table_of settings roster = record { settings = settings; facts = facts_kept roster; given = roster.given }

abbrev pub standing : Kept → Standing
standing kept = standing_of (table_of kept.settings kept.roster) kept.talks

-- what always holds of it
pub record IsWhole (kept : Kept) : Type 0 where
  pub settings_sound : AreSound kept.settings
  pub roster_kept : IsKept kept.roster
  pub talks_are : AreTalksOf (facts_kept kept.roster) kept.talks
  pub ordered : IsOrdered (facts_kept kept.roster) kept.roster.given kept.order
