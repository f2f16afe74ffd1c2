-- What a run of a node comes to, over what a shelf, a world and two sinks tell.
use Rattle.std.specs.Prelude.{◌≡◌, ℕ, ◌≤◌, ◌⊎◌, Bool, true, false, List, [], ◌∷◌, ◌++◌, Option, Some, Result, Ok, Err}
use Rattle.std.specs.Option.{option_map}
use Rattle.laws.specs.Runs.{IsLawfulRun}
use Rattle.net_base.specs.declared.action.Action.{Action}
use Rattle.net_base.specs.declared.event.Event.{Event}
use Rattle.net_base.specs.declared.event.Event.TheVariants.{Aims, Locals}
use Rattle.node_settings.specs.declared.config.Config.{Config}
use Rattle.node_settings.specs.declared.topology.Topology.{Topology}
use Rattle.node_world.specs.declared.opening.Opening.{Opening}
use Rattle.node_world.specs.Meanings.{Rose}
use Rattle.trace_compare.specs.RunText.{text_up_to}
use Rattle.world_play.specs.Drive.{Drives, HasWorldCount}
use Rattle.trace_meaning.specs.FaultCounts.{HasWriteCount}
use Rattle.trace_meaning.specs.declared.outcome.Outcome.{Outcome}
use Rattle.trace_meaning.specs.declared.outcome.Outcome.TheVariants as outcomes
use Rattle.node_run.specs.Asked.{Asked}
use Rattle.node_run.specs.Files.{ShelfTold, AreJudged, IsDue, HasFailed}
use Rattle.tool_status.specs.Status.{status_text, unresolved_text}
use Rattle.tool_status.specs.Streams.{SinkTold, IsSaid}
use Rattle.tool_status.specs.Told.{status_told}
use Rattle.tool_status.specs.declared.status.Status.{Status}
use Rattle.tool_status.specs.declared.status.Status.TheVariants.{Done, WriteFault, OutOfMemory, WorldFault, FileFault, BadSettings, FileTooLarge}
use Rattle.tool_status.specs.declared.status.Which.{Which}

-- what a world tells of itself
pub record WorldTold : Type 0 where
  pub is_open : Bool
  pub has_ended : Bool
  pub faults : ℕ
  pub opening : Option (Option Opening)
  pub taken : Option (List Event)
  pub done : Option (List Action)

abbrev pub world_told : Bool → Bool → ℕ → Option (Option Opening) → Option (List Event) → Option (List Action) → WorldTold
world_told is_open has_ended faults opening taken done =
    record { is_open = is_open; has_ended = has_ended; faults = faults; opening = opening; taken = taken; done = done }

-- what all around a node tells
pub record NodeTold : Type 0 where
  pub shelf : ShelfTold
  pub world : WorldTold
  pub out : SinkTold
  pub err : SinkTold

abbrev pub node_told : ShelfTold → WorldTold → SinkTold → SinkTold → NodeTold
node_told shelf world out err = record { shelf = shelf; world = world; out = out; err = err }

-- ---- what is served

-- what the world is opened with
abbrev pub opening_for : Config → Topology → Opening
opening_for config topology = record { config = config; publics = topology.publics }

-- what it tells of that then
abbrev pub opened_with : Option (Option Opening) → Opening → Option (Option Opening)
opened_with told opening = option_map (λ before. Some opening) told

-- the events before those of the world: the targets and the local root peers that the files have
abbrev pub first_events : Config → Topology → List Event
first_events config topology = Aims config.targets ∷ Locals topology.groups ∷ []

-- The machine was driven in a world: what was taken, done and written, and whose count of faults rose. Where the world
-- failed, only `end` is missing. Every law holds in the run that was made: that of the settings of the file, of its
-- events and of those that the world gave.
pub record IsDriving (config : Config) (topology : Topology) (count : ℕ) (before after : WorldTold) (out_before out_after : SinkTold) (status : Status) : Type 0 where
  pub outcome : Outcome
  pub told : status ≡ status_told outcome
  pub opened : after.is_open ≡ true
  pub opening : after.opening ≡ before.opening
  pub drives : Drives config.settings (first_events config topology) count before.taken after.taken before.done after.done after.has_ended
      out_before.taken out_after.taken outcome
  pub but_end : outcome ≡ outcomes.WorldFault → drives.written ≡ text_up_to config.settings (first_events config topology ++ drives.events)
  pub lawful : IsLawfulRun config.settings (first_events config topology ++ drives.events)
  pub worlds : HasWorldCount before.faults after.faults outcome
  pub writes : HasWriteCount out_before.faults out_after.faults outcome

-- the world before the drive: opened with what the files say
abbrev pub opened_world : WorldTold → Config → Topology → WorldTold
opened_world before config topology = record before { is_open = true; opening = opened_with before.opening (opening_for config topology) }

-- why a world was not opened
abbrev pub IsOpenRefused : ℕ → ℕ → Status → Type 0
IsOpenRefused before now WorldFault = (before ≤ now) × Rose before now
IsOpenRefused before now OutOfMemory = now ≡ before
IsOpenRefused before now status = ⊥

-- The world was not opened: nothing is taken, done or written.
pub record IsShut (before after : WorldTold) (out_before out_after : SinkTold) (status : Status) : Type 0 where
  pub shut : after.is_open ≡ false
  pub opening : after.opening ≡ before.opening
  pub taken : after.taken ≡ before.taken
  pub done : after.done ≡ before.done
  pub ended : after.has_ended ≡ before.has_ended
  pub out : out_after ≡ out_before
  pub refused : IsOpenRefused before.faults after.faults status

abbrev pub IsServing : Config → Topology → ℕ → WorldTold → WorldTold → SinkTold → SinkTold → Status → Type 0
IsServing config topology count before after out_before out_after status =
    IsDriving config topology count (opened_world before config topology) after out_before out_after status ⊎ IsShut before after out_before out_after status

-- ---- the whole

-- Where both files are accepted the node is served, or its world not opened. Else nothing is done, and the status is that
-- of the file.
abbrev pub ComesTo : Result (Config × Topology) Status → ℕ → NodeTold → NodeTold → Status → Type 0
ComesTo (Ok both) count before after status =
    IsServing both.0 both.1 count before.world after.world before.out after.out status × IsSaid before.err after.err (unresolved_text both.1.unresolved ++ status_text status)
ComesTo (Err refusal) count before after status =
    (status ≡ refusal) × (after.world ≡ before.world) × (after.out ≡ before.out) × IsSaid before.err after.err (status_text status)

pub record IsNodeRun (asked : Asked) (before after : NodeTold) (status : Status) : Type 0 where
  pub files : Result (Config × Topology) Status
  pub judged : AreJudged asked before.shelf after.shelf.readings files
  pub comes : ComesTo files asked.count before after status

-- ---- what follows

abbrev pub RoseOut : NodeTold → NodeTold → Type 0
RoseOut before after = Rose before.out.faults after.out.faults

abbrev pub RoseWorld : NodeTold → NodeTold → Type 0
RoseWorld before after = Rose before.world.faults after.world.faults

abbrev pub HasFailedFile : Asked → NodeTold → NodeTold → Which → Type 0
HasFailedFile asked before after which = HasFailed asked before.shelf.readings after.shelf.readings which

-- what is due of the files of a shelf, where it tells them
abbrev pub IsDueOf : Asked → NodeTold → Status → Type 0
IsDueOf asked before due = IsDue (before.shelf.file asked.conf) (before.shelf.file asked.topo) due

-- The status is the one that is due. Only want of memory may come in its place, and a fault whose cause is there.
abbrev pub IsNodeAnswered : Asked → NodeTold → NodeTold → Status → Status → Type 0
IsNodeAnswered asked before after due status =
    (status ≡ due) ⊎ ((status ≡ OutOfMemory) ⊎ (((which : Which) × (status ≡ FileFault which) × HasFailedFile asked before after which)
    ⊎ (((status ≡ WriteFault) × RoseOut before after) ⊎ ((status ≡ WorldFault) × RoseWorld before after))))

-- The statuses that a node may have: a fault only where its cause is there, and what is said of a file only as the file
-- is.
abbrev pub HasNodeCause : Asked → NodeTold → NodeTold → Status → Type 0
HasNodeCause asked before after Done = Unit {0}
HasNodeCause asked before after OutOfMemory = Unit {0}
HasNodeCause asked before after WriteFault = RoseOut before after
HasNodeCause asked before after WorldFault = RoseWorld before after
HasNodeCause asked before after (FileFault which) = HasFailedFile asked before after which
HasNodeCause asked before after (BadSettings what) = AreJudged asked before.shelf after.shelf.readings (Err (BadSettings what))
HasNodeCause asked before after (FileTooLarge which size) = AreJudged asked before.shelf after.shelf.readings (Err (FileTooLarge which size))
HasNodeCause asked before after status = ⊥
