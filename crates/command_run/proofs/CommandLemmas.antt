-- What a run says of its status, and what has come of each command.
use Rattle.std.proofs.Common.{◌≡◌, ℕ, Option, Some, None, refl, sym, ◌∙◌, subst}
use Rattle.local_clients.specs.Replay.{line_means as client_line_means, nobody}
use Rattle.local_clients.specs.declared.rules.ClientRules.{ClientRules}
use Rattle.pair_net.specs.Replay.{line_means as pair_line_means, pair_start}
use Rattle.command_run.specs.Checked.{IsChecked}
use Rattle.command_run.specs.Command.{IsReplayStatus, IsCheckStatus, IsDrillStatus, IsStatusOf, RoseSource, RoseSink}
use Rattle.command_run.specs.Drilled.{HasDrilled}
use Rattle.command_run.specs.Laws.{HasCauses}
use Rattle.command_run.specs.Lined.{PairIsLawful, ClientsAreLawful, HasPaired, HasServed}
use Rattle.command_run.specs.Replayed.{IsReplayed}
use Rattle.command_run.specs.Run.{IsDone, HasRun, ReadsNothing}
use Rattle.command_run.specs.declared.command.Command.{Command}
use Rattle.command_run.specs.declared.command.Command.TheVariants.{Replay, Check, Pair, Clients, Drill}
use Rattle.command_run.proofs.CheckLemmas.{checked-status, checked-read, checked-write}
use Rattle.command_run.proofs.DrillLemmas.{drilled-status, drilled-read, drilled-write}
use Rattle.local_clients.proofs.Happening.{line_never_differs as client_line_never_differs}
use Rattle.pair_net.proofs.Playing.{line_never_differs as pair_line_never_differs}
use Rattle.command_run.proofs.LineLemmas.{led-status, led-read, led-write}
use Rattle.command_run.proofs.ReplayLemmas.{replayed-status, replayed-read, replayed-write}
use Rattle.tool_status.specs.Streams.{StreamsTold}
use Rattle.tool_status.specs.declared.status.Status.{Status}
use Rattle.tool_status.specs.declared.status.Status.TheVariants.{Usage, ReadFault, WriteFault}

module _ (b a : StreamsTold) (status : Status) where
  status_by : (command : Option Command) → IsDone command b a status → IsStatusOf command status
  status_by None d = d
  status_by (Some Replay) d = replayed-status b a status d
  status_by (Some Check) d = checked-status b a status d
  status_by (Some Pair) d = led-status pair_line_means pair_start PairIsLawful b a status d pair_line_never_differs
  status_by (Some (Clients rules)) d = led-status client_line_means (nobody rules) (ClientsAreLawful rules) b a status d client_line_never_differs
  status_by (Some (Drill seed count)) d = drilled-status seed count b.out a.out status d

  read_by : (command : Option Command) → IsDone command b a status → status ≡ ReadFault → RoseSource b a
  read_by None d is = absurd (let both : Usage ≡ ReadFault = sym d ∙ is in cc)
  read_by (Some Replay) d is = replayed-read b a status d is
  read_by (Some Check) d is = checked-read b a status d is
  read_by (Some Pair) d is = led-read pair_line_means pair_start PairIsLawful b a status d is
  read_by (Some (Clients rules)) d is = led-read client_line_means (nobody rules) (ClientsAreLawful rules) b a status d is
  read_by (Some (Drill seed count)) d is = absurd (drilled-read seed count b.out a.out status d is)

  write_by : (command : Option Command) → IsDone command b a status → status ≡ WriteFault → RoseSink b a
  write_by None d is = absurd (let both : Usage ≡ WriteFault = sym d ∙ is in cc)
  write_by (Some Replay) d is = replayed-write b a status d is
  write_by (Some Check) d is = checked-write b a status d is
  write_by (Some Pair) d is = led-write pair_line_means pair_start PairIsLawful b a status d is
  write_by (Some (Clients rules)) d is = led-write client_line_means (nobody rules) (ClientsAreLawful rules) b a status d is
  write_by (Some (Drill seed count)) d is = drilled-write seed count b.out a.out status d is

  pub causes : (command : Option Command) → IsDone command b a status → HasCauses command b a status
  causes command d = record { read = read_by command d; write = write_by command d; no_other = status_by command d }

  usage_none : (command : Option Command) → IsStatusOf command status → status ≡ Usage → command ≡ None
  usage_none None of is = refl
  usage_none (Some Replay) of is = absurd (subst (λ (s : Status). IsReplayStatus s) is of)
  usage_none (Some Check) of is = absurd (subst (λ (s : Status). IsCheckStatus s) is of)
  usage_none (Some Pair) of is = absurd (subst (λ (s : Status). IsReplayStatus s) is of)
  usage_none (Some (Clients rules)) of is = absurd (subst (λ (s : Status). IsReplayStatus s) is of)
  usage_none (Some (Drill seed count)) of is = absurd (subst (λ (s : Status). IsDrillStatus s) is of)

  module _ (command : Option Command) (h : HasRun command b a status) where
    -- only words that are no command have the status of usage
    pub run-none : status ≡ Usage → command ≡ None
    run-none = usage_none command (status_by command h.is_done)

    done_as : (found : Option Command) → command ≡ found → IsDone found b a status
    done_as found is = subst (λ (x : Option Command). IsDone x b a status) is h.is_done

    pub run-usage : command ≡ None → status ≡ Usage
    run-usage is = done_as None is

    pub run-replay : command ≡ Some Replay → IsReplayed b a status
    run-replay is = done_as (Some Replay) is

    pub run-check : command ≡ Some Check → IsChecked b a status
    run-check is = done_as (Some Check) is

    pub run-pair : command ≡ Some Pair → HasPaired b a status
    run-pair is = done_as (Some Pair) is

    pub run-clients : (rules : ClientRules) → command ≡ Some (Clients rules) → HasServed rules b a status
    run-clients rules is = done_as (Some (Clients rules)) is

    pub run-drill : (seed count : ℕ) → command ≡ Some (Drill seed count) → HasDrilled seed count b.out a.out status
    run-drill seed count is = done_as (Some (Drill seed count)) is

-- what a command that was obeyed has come to
pub obeyed-replay : (b a : StreamsTold) (status : Status) (command : Command) → command ≡ Replay → IsReplayed b a status → HasRun (Some command) b a status
obeyed-replay b a status command is r = record { is_done = subst (λ (x : Command). IsDone (Some x) b a status) (sym is) r }

pub obeyed-check : (b a : StreamsTold) (status : Status) (command : Command) → command ≡ Check → IsChecked b a status → HasRun (Some command) b a status
obeyed-check b a status command is r = record { is_done = subst (λ (x : Command). IsDone (Some x) b a status) (sym is) r }

-- words that are no command read nothing
pub reads-none : (command found : Option Command) → command ≡ found → ReadsNothing found → ReadsNothing command
reads-none command found is nothing = subst (λ (x : Option Command). ReadsNothing x) (sym is) nothing
