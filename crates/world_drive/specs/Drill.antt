-- A drill: the machine in a made town of peers, and what is told of it.
use Rattle.std.specs.Prelude.{ℕ, zero, suc, ◌+◌, ◌*◌, ◌^◌, Bool, true, false, List, [], ◌∷◌, ◌++◌, length, count_by, codes, decimal, Option}
use Rattle.io_edge.specs.Lines.{ended_lines}
use Rattle.io_edge.specs.Told.{Takes, TakesProperPrefix}
use Rattle.machine.specs.Machine.{Machine, start_of}
use Rattle.machine.specs.Step.{step}
use Rattle.net_base.specs.declared.action.Action.{Action}
use Rattle.net_base.specs.declared.action.Action.TheVariants.{Admit, Turnaway, Dial, Send, Close, Pause, AskRoots, State, Peer}
use Rattle.net_base.specs.declared.address.Ip.TheVariants.{V4}
use Rattle.net_base.specs.declared.settings.Settings.{Settings}
use Rattle.node_engine.specs.Tally.{tally_of}
use Rattle.node_world.specs.Town.{Town, new_town, next_of, act_of}
use Rattle.trace_text.specs.declared.line.HeadLine.TheVariants.{Trace, Own}
use Rattle.line_run.specs.Runs.{TakesPrefix}
use Rattle.trace_meaning.specs.Settings.{settings_in}
use Rattle.trace_meaning.specs.declared.outcome.Outcome.{Outcome}
use Rattle.trace_meaning.specs.declared.outcome.Outcome.TheVariants as outcome
use Rattle.world_drive.specs.declared.tallies.Counts.{Counts}
use Rattle.world_drive.specs.declared.tallies.Tallies.{Tallies}

-- ---- the run

-- How far a drill has come: its town and its machine, and all actions so far, in order.
pub record Drilled : Type 0 where
  pub town : Town
  pub machine : Machine
  pub actions : List Action

-- the usual settings, and the address 10.0.1.1:3001
abbrev pub town_settings : Settings
town_settings = settings_in (Trace 1 ∷ Own (record { ip = V4 (10 * 2 ^ 24 + 257); port = 3001 }) ∷ [])

-- the town behind all of these actions
unfoldable pub acted : Town → List Action → Town
acted town [] = town
acted town (action ∷ actions) = acted (act_of town action) actions

-- The town gives its next event, the machine takes it, and the town is handed each action for it.
unfoldable pub turned : Drilled → Drilled
turned d =
    let given = next_of d.town in
    let stepped = step d.machine given.0 in
    record {
      town = acted given.1 stepped.actions;
      machine = stepped.machine;
      actions = d.actions ++ stepped.actions;
    }

-- the town of a seed and its machine behind so many events
unfoldable pub drilled : ℕ → ℕ → Drilled
drilled seed zero = record { town = new_town seed; machine = start_of town_settings; actions = [] }
drilled seed (suc count) = turned (drilled seed count)

-- ---- what is counted

abbrev pub is_admit : Action → Bool
is_admit (Admit cid addr) = true
is_admit other = false

abbrev pub is_turnaway : Action → Bool
is_turnaway (Turnaway away) = true
is_turnaway other = false

abbrev pub is_dial : Action → Bool
is_dial (Dial cid addr) = true
is_dial other = false

abbrev pub is_close : Action → Bool
is_close (Close cid cause) = true
is_close other = false

-- how many actions there are, and how many of four kinds
abbrev pub counts_of : List Action → Counts
counts_of actions = record {
  actions = length actions;
  admitted = count_by is_admit actions;
  turned = count_by is_turnaway actions;
  dials = count_by is_dial actions;
  closes = count_by is_close actions;
}

-- The actions are counted over the whole run, the peers at its end.
abbrev pub tallies : ℕ → ℕ → Tallies
tallies seed count =
    let d = drilled seed count in record {
      events = count;
      counts = counts_of d.actions;
      established = (tally_of d.machine).established;
      active = (tally_of d.machine).active;
    }

-- ---- what is told

abbrev pub told_count : List ℕ → ℕ → List ℕ
told_count name count = name ++ (codes " " ++ decimal count)

abbrev pub tally_lines : Tallies → List (List ℕ)
tally_lines t =
    told_count (codes "events") t.events
    ∷ told_count (codes "actions") t.counts.actions
    ∷ told_count (codes "admitted") t.counts.admitted
    ∷ told_count (codes "turned") t.counts.turned
    ∷ told_count (codes "dials") t.counts.dials
    ∷ told_count (codes "closes") t.counts.closes
    ∷ told_count (codes "established") t.established
    ∷ told_count (codes "active") t.active
    ∷ []

unfoldable pub drill_text : ℕ → ℕ → List ℕ
drill_text seed count = ended_lines (tally_lines (tallies seed count))

-- What the sink took of the text, by the outcome.
abbrev pub IsDrilled : List ℕ → Option (List ℕ) → Option (List ℕ) → Outcome → Type 0
IsDrilled text before after outcome.Done = Takes before after text
IsDrilled text before after outcome.WriteFault = TakesProperPrefix before after text
IsDrilled text before after outcome.OutOfMemory = TakesPrefix before after text
IsDrilled text before after other = ⊥
