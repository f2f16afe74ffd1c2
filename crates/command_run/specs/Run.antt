-- What a run of the program comes to, by the command.
use Rattle.std.specs.Prelude.{◌≡◌, Option, Some, None}
use Rattle.command_run.specs.Checked.{IsChecked}
use Rattle.command_run.specs.Drilled.{HasDrilled}
use Rattle.command_run.specs.Lined.{HasPaired, HasServed}
use Rattle.command_run.specs.Replayed.{IsReplayed}
use Rattle.command_run.specs.declared.command.Command.{Command}
use Rattle.command_run.specs.declared.command.Command.TheVariants.{Replay, Check, Pair, Clients, Drill}
use Rattle.tool_status.specs.Streams.{StreamsTold}
use Rattle.tool_status.specs.declared.status.Status.{Status}
use Rattle.tool_status.specs.declared.status.Status.TheVariants.{Usage}

abbrev pub IsDone : Option Command → StreamsTold → StreamsTold → Status → Type 0
IsDone None before after status = status ≡ Usage
IsDone (Some Replay) before after status = IsReplayed before after status
IsDone (Some Check) before after status = IsChecked before after status
IsDone (Some Pair) before after status = HasPaired before after status
IsDone (Some (Clients rules)) before after status = HasServed rules before after status
IsDone (Some (Drill seed count)) before after status = HasDrilled seed count before.out after.out status

-- words that are no command, and a drill, read nothing
abbrev pub ReadsNothing : Option Command → Type 0
ReadsNothing None = Unit {0}
ReadsNothing (Some Replay) = ⊥
ReadsNothing (Some Check) = ⊥
ReadsNothing (Some Pair) = ⊥
ReadsNothing (Some (Clients rules)) = ⊥
ReadsNothing (Some (Drill seed count)) = Unit {0}

-- the same, as one fact
pub record HasRun (command : Option Command) (before after : StreamsTold) (status : Status) : Type 0 where
  pub is_done : IsDone command before after status
