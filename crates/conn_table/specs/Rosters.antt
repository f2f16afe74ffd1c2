-- What is kept beside the list of connections, and always true of it.
use Rattle.std.specs.Prelude.{◌≡◌, ◌≤◌, ◌^◌, true, false, List, [], ◌∷◌, map, Option, IfSome}
use Rattle.net_base.specs.Bounds.{AreSound}
use Rattle.net_base.specs.declared.connection.Facts.{Facts}
use Rattle.net_base.specs.declared.settings.Settings.{Settings}
use Rattle.conn_state.specs.Counted.{counted}
use Rattle.conn_state.specs.State.{facts_of}
use Rattle.conn_state.specs.Use.{is_live}
use Rattle.conn_table.specs.Answers.{any_at}
use Rattle.conn_table.specs.Index.{index_of}
use Rattle.conn_table.specs.Table.{IdsRise}
use Rattle.conn_table.specs.Finds.{id_place}
use Rattle.conn_table.specs.declared.placed.Placed.{Placed}
use Rattle.conn_table.specs.declared.recent.Recent.{Recent}
use Rattle.conn_table.specs.declared.roster.Roster.{Roster}

-- what is known of the connections
abbrev pub facts_kept : Roster → List Facts
facts_kept roster = map facts_of roster.states

-- where a later connection has its address, a connection is closed
abbrev pub OnlyLastLives : List Facts → Type 0
OnlyLastLives [] = Unit {0}
OnlyLastLives (f ∷ fs) = (is_live f ≡ true → any_at f.addr fs ≡ false) × OnlyLastLives fs

-- a connection that was looked for is where it was found
abbrev pub IsWhere : Option Recent → List Facts → Type 0
IsWhere recent fs = IfSome recent (λ r. r.place ≡ id_place r.cid.0 fs)

pub record IsKept (roster : Roster) : Type 0 where
  pub few : roster.given ≤ 2 ^ 48
  pub ids_rise : IdsRise 0 roster.given (facts_kept roster)
  pub last_lives : OnlyLastLives (facts_kept roster)
  pub counted : roster.counted ≡ counted (facts_kept roster)
  pub recent : IsWhere roster.recent (facts_kept roster)

-- what every table keeps
pub record IsSettled (settings : Settings) (roster : Roster) (index : List Placed) : Type 0 where
  pub settings_sound : AreSound settings
  pub is_kept : IsKept roster
  pub indexed : index ≡ index_of (facts_kept roster)
