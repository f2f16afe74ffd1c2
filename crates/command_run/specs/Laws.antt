-- What follows of what each command comes to, and what holds of every two ends of a pair.
use Rattle.std.specs.Prelude.{◌≡◌, ℕ, List, [], Option}
use Rattle.io_edge.specs.Told.{Gives, Takes}
use Rattle.line_run.specs.Judgement.{output_of as lines_output_of}
use Rattle.line_run.specs.Runs.{AreUndecided as LinesAreUndecided}
use Rattle.local_clients.specs.Replay.{line_means as client_line_means, nobody}
use Rattle.local_clients.specs.declared.rules.ClientRules.{ClientRules}
use Rattle.pair_net.specs.Law.{AgreeAlike, PipesEmpty, MeetingsAgreeInTurn, MeetingsAgree, CrossingsAgree}
use Rattle.pair_net.specs.Replay.{line_means as pair_line_means, pair_start}
use Rattle.trace_meaning.specs.Output.{output_of}
use Rattle.trace_meaning.specs.Replays.{AreUndecided}
use Rattle.trace_play.specs.Checks.{AgreeSoFar}
use Rattle.command_run.specs.Checked.{IsChecked, ComesOfCheck}
use Rattle.command_run.specs.Command.{IsStatusOf, RoseSource, RoseSink}
use Rattle.command_run.specs.Drilled.{HasDrilled, ComesOfDrill}
use Rattle.command_run.specs.Lined.{HasPaired, ComesOfPair, HasServed, ComesOfClients}
use Rattle.command_run.specs.Replayed.{IsReplayed, ComesOfReplay}
use Rattle.command_run.specs.Run.{IsDone}
use Rattle.command_run.specs.declared.command.Command.{Command}
use Rattle.tool_status.specs.Streams.{StreamsTold, SinkTold}
use Rattle.tool_status.specs.declared.status.Status.{Status}
use Rattle.tool_status.specs.declared.status.Status.TheVariants.{ReadFault, WriteFault}

-- ---- in terms of the input, where the source tells it

abbrev pub ReplaysAnswerAsDue : Type 0
ReplaysAnswerAsDue = (before after : StreamsTold) (status : Status) → IsReplayed before after status → ComesOfReplay before after status

abbrev pub ChecksAnswerAsDue : Type 0
ChecksAnswerAsDue = (before after : StreamsTold) (status : Status) → IsChecked before after status → ComesOfCheck before after status

abbrev pub PairsAnswerAsDue : Type 0
PairsAnswerAsDue = (before after : StreamsTold) (status : Status) → HasPaired before after status → ComesOfPair before after status

abbrev pub ClientsAnswerAsDue : Type 0
ClientsAnswerAsDue = (rules : ClientRules) (before after : StreamsTold) (status : Status) → HasServed rules before after status → ComesOfClients rules before after status

abbrev pub DrillsAnswerAsDue : Type 0
DrillsAnswerAsDue = (seed count : ℕ) (before after : SinkTold) (status : Status) → HasDrilled seed count before after status → ComesOfDrill seed count before after status

-- ---- causes

-- no fault comes without its cause, and no status that the command hasn't
pub record HasCauses (command : Option Command) (before after : StreamsTold) (status : Status) : Type 0 where
  pub read : status ≡ ReadFault → RoseSource before after
  pub write : status ≡ WriteFault → RoseSink before after
  pub no_other : IsStatusOf command status

abbrev pub FaultsHaveCauses : Type 0
FaultsHaveCauses = (command : Option Command) (before after : StreamsTold) (status : Status) → IsDone command before after status → HasCauses command before after status

-- ---- before each reading

-- What stands where a reading fails, as any may: no line of the bytes that were read before it decides, all that was said of
-- them was put, and no put failed.
pub record ReadsOn (Pends : List ℕ → Type 0) (output : List ℕ → List ℕ) (before after : StreamsTold) : Type 0 where
  pub seen : List ℕ
  pub gives : Gives before.src.left after.src.left seen
  pub undecided : Pends seen
  pub put : Takes before.out.taken after.out.taken (output seen)
  pub calm : after.out.faults ≡ before.out.faults

abbrev pub HasFailedReading : StreamsTold → StreamsTold → Type 0
HasFailedReading before after = ¬ (after.src.faults ≡ before.src.faults)

abbrev pub ReplaysReadOn : Type 0
ReplaysReadOn = (before after : StreamsTold) (status : Status) → IsReplayed before after status → HasFailedReading before after → ReadsOn AreUndecided output_of before after

-- nothing is said by a check before its end
abbrev pub ChecksReadOn : Type 0
ChecksReadOn = (before after : StreamsTold) (status : Status) → IsChecked before after status → HasFailedReading before after → ReadsOn AgreeSoFar (λ _. []) before after

abbrev pub PairsReadOn : Type 0
PairsReadOn = (before after : StreamsTold) (status : Status) → HasPaired before after status → HasFailedReading before after →
    ReadsOn (LinesAreUndecided pair_line_means pair_start) (lines_output_of pair_line_means pair_start) before after

abbrev pub ClientsReadOn : Type 0
ClientsReadOn = (rules : ClientRules) (before after : StreamsTold) (status : Status) → HasServed rules before after status → HasFailedReading before after →
    ReadsOn (LinesAreUndecided client_line_means (nobody rules)) (lines_output_of client_line_means (nobody rules)) before after

-- ---- two ends

-- Whatever the pipes deliver, in whatever order and cuts: ends that agreed have agreed alike, and they do agree once all is
-- delivered.
pub record EndsAgree : Type 0 where
  pub alike : AgreeAlike
  pub pipes : PipesEmpty
  pub in_turn : MeetingsAgreeInTurn
  pub meetings : MeetingsAgree
  pub crossings : CrossingsAgree
