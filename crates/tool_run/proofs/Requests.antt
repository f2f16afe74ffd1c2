-- What has come of the words, by the call that they lead to.
use Rattle.std.proofs.Common.{◌≡◌, ℕ, List, Option, Some, None, refl, sym, ◌∙◌, subst}
use Rattle.local_clients.specs.declared.rules.ClientRules.{ClientRules}
use Rattle.command_run.specs.Checked.{IsChecked}
use Rattle.command_run.specs.Drilled.{HasDrilled}
use Rattle.command_run.specs.Lined.{HasPaired, HasServed}
use Rattle.command_run.specs.Replayed.{IsReplayed}
use Rattle.command_run.specs.Run.{IsDone, ReadsNothing}
use Rattle.command_run.specs.declared.command.Command.{Command}
use Rattle.command_run.specs.declared.command.Command.TheVariants.{Replay, Check, Pair, Clients, Drill}
use Rattle.node_run.specs.Asked.{Asked}
use Rattle.node_run.specs.Node.{IsNodeRun}
use Rattle.tool_run.specs.Program.{Request, of_command, of_node, request_by, ProgramTold, streams_of, IsToldOf, ComesOf, LeavesSource, LeavesNode, LeavesOutput}
use Rattle.tool_status.specs.Streams.{StreamsTold}
use Rattle.tool_status.specs.declared.status.Status.{Status}
use Rattle.tool_status.specs.declared.status.Status.TheVariants.{Done as IsDoneStatus, Usage}
use Rattle.trace_compare.specs.Written.{TakesAgreeing}

-- what `run` promises, command by command, of the one that it was given
module _ (b a : StreamsTold) (status : Status) (found : Option Command)
    (replay : found ≡ Some Replay → IsReplayed b a status)
    (check : found ≡ Some Check → IsChecked b a status)
    (pair : found ≡ Some Pair → HasPaired b a status)
    (clients : (rules : ClientRules) → found ≡ Some (Clients rules) → HasServed rules b a status)
    (drill : (seed count : ℕ) → found ≡ Some (Drill seed count) → HasDrilled seed count b.out a.out status) where
  pub done_of : (command : Command) → found ≡ Some command → IsDone (Some command) b a status
  done_of Replay is = replay is
  done_of Check is = check is
  done_of Pair is = pair is
  done_of (Clients rules) is = clients rules is
  done_of (Drill seed count) is = drill seed count is

-- ---- a command

pub command_asked : (found : Option Command) (asked : Option Asked) (command : Command) → found ≡ Some command → request_by found asked ≡ of_command command
command_asked found asked command is = subst (λ (x : Option Command). request_by x asked ≡ of_command command) (sym is) refl

pub as_command : (b a : ProgramTold) (status : Status) (found : Option Command) (asked : Option Asked) (command : Command) → found ≡ Some command →
    IsDone (Some command) (streams_of b) (streams_of a) status → IsToldOf b a status → ComesOf (request_by found asked) b a status
as_command b a status found asked command is done told = subst (λ (r : Request). ComesOf r b a status) (sym (command_asked found asked command is)) (done, told)

pub reads_none : (found : Option Command) (asked : Option Asked) (command : Command) → found ≡ Some command → LeavesSource (request_by found asked) → ReadsNothing found
reads_none found asked command is leaves =
    subst (λ (x : Option Command). ReadsNothing x) (sym is) (subst (λ (r : Request). LeavesSource r) (command_asked found asked command is) leaves)

pub output_is_used : (found : Option Command) (asked : Option Asked) (command : Command) → found ≡ Some command → LeavesOutput (request_by found asked) → ⊥
output_is_used found asked command is leaves = subst (λ (r : Request). LeavesOutput r) (command_asked found asked command is) leaves

-- ---- a node, or words that are neither

pub as_node : (b a : ProgramTold) (status : Status) (found : Option Command) (asked : Option Asked) → found ≡ None →
    ((one : Asked) → asked ≡ Some one → IsNodeRun one b.node a.node status) → (status ≡ IsDoneStatus → TakesAgreeing b.node.out.taken a.node.out.taken) →
    (asked ≡ None → status ≡ Usage) → (status ≡ Usage → IsToldOf b a status) → ComesOf (request_by found asked) b a status
as_node b a status found asked none runs agrees usage told = subst (λ (x : Option Command). ComesOf (request_by x asked) b a status) (sym none) (by asked runs usage)
  where
    by : (asked : Option Asked) → ((one : Asked) → asked ≡ Some one → IsNodeRun one b.node a.node status) → (asked ≡ None → status ≡ Usage) → ComesOf (request_by None asked) b a status
    by (Some one) runs usage = (runs one refl, agrees)
    by None runs usage = (usage refl, told (usage refl))

-- where files and world, or the output, are left alone no node is asked for
pub unasked : (found : Option Command) (asked : Option Asked) → found ≡ None → LeavesNode (request_by found asked) → asked ≡ None
unasked found asked none leaves = by asked (subst (λ (x : Option Command). LeavesNode (request_by x asked)) none leaves)
  where
    by : (asked : Option Asked) → LeavesNode (request_by None asked) → asked ≡ None
    by (Some one) leaves = absurd leaves
    by None leaves = refl

pub unwritten : (found : Option Command) (asked : Option Asked) → found ≡ None → LeavesOutput (request_by found asked) → asked ≡ None
unwritten found asked none leaves = by asked (subst (λ (x : Option Command). LeavesOutput (request_by x asked)) none leaves)
  where
    by : (asked : Option Asked) → LeavesOutput (request_by None asked) → asked ≡ None
    by (Some one) leaves = absurd leaves
    by None leaves = refl
