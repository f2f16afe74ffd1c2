-- What the program comes to, over all that it is handed.
use Rattle.std.specs.Prelude.{◌≡◌, ℕ, List, Option, Some, None, Result, Ok, Err}
use Rattle.command_run.specs.Command.{command_of}
use Rattle.command_run.specs.Run.{IsDone, ReadsNothing}
use Rattle.command_run.specs.declared.command.Command.{Command}
use Rattle.node_run.specs.Asked.{Asked, node_of}
use Rattle.node_run.specs.Node.{NodeTold, IsNodeRun}
use Rattle.tool_status.specs.Status.{code_of, status_text}
use Rattle.tool_status.specs.Streams.{SourceTold, StreamsTold, streams_told, IsSaid}
use Rattle.tool_status.specs.declared.status.Status.{Status}
use Rattle.tool_status.specs.declared.status.Status.TheVariants.{Done, Usage, OutOfMemory}
use Rattle.trace_compare.specs.Written.{TakesAgreeing}

-- ---- what is asked for

-- a command from the source to the sink, or a node; or words that are neither, or for which there was no memory
pub data Request : Type 0 where
  of_command : Command → Request
  of_node : Asked → Request
  unknown : Request
  unread : Request

abbrev pub request_by : Option Command → Option Asked → Request
request_by (Some command) asked = of_command command
request_by None (Some asked) = of_node asked
request_by None None = unknown

abbrev pub request_of : List (List ℕ) → Request
request_of words = request_by (command_of words) (node_of words)

-- the same of what came of reading the words, by how words are spelled
abbrev pub request_in : {A E : Type 0} → (A → List (List ℕ)) → Result A E → Request
request_in spelled (Ok words) = request_of (spelled words)
request_in spelled (Err wanting) = unread

-- ---- what comes of it

-- what all tells that the program is handed: standard input, and what is around a node
pub record ProgramTold : Type 0 where
  pub src : SourceTold
  pub node : NodeTold

abbrev pub program_told : SourceTold → NodeTold → ProgramTold
program_told src node = record { src = src; node = node }

abbrev pub streams_of : ProgramTold → StreamsTold
streams_of told = streams_told told.src told.node.out

abbrev pub IsToldOf : ProgramTold → ProgramTold → Status → Type 0
IsToldOf before after status = IsSaid before.node.err after.node.err (status_text status)

-- A command has come to what `run` promises of it, from standard input to standard output, and a node to what `run_node`
-- promises. Else only the text of the status is told.
abbrev pub ComesOf : Request → ProgramTold → ProgramTold → Status → Type 0
ComesOf (of_command command) before after status =
    IsDone (Some command) (streams_of before) (streams_of after) status × IsToldOf before after status
ComesOf (of_node asked) before after status =
    IsNodeRun asked before.node after.node status × (status ≡ Done → TakesAgreeing before.node.out.taken after.node.out.taken)
ComesOf unknown before after status = (status ≡ Usage) × IsToldOf before after status
ComesOf unread before after status = (status ≡ OutOfMemory) × IsToldOf before after status

-- the exit status is the code of how it ended
pub record EndsWith (request : Request) (before after : ProgramTold) (code : ℕ) : Type 0 where
  pub status : Status
  pub comes : ComesOf request before after status
  pub coded : code ≡ code_of status

-- ---- what is left alone

-- standard input, unless a command reads it
abbrev pub LeavesSource : Request → Type 0
LeavesSource (of_command command) = ReadsNothing (Some command)
LeavesSource (of_node asked) = Unit {0}
LeavesSource unknown = Unit {0}
LeavesSource unread = Unit {0}

-- files and world, unless it is a node
abbrev pub LeavesNode : Request → Type 0
LeavesNode (of_command command) = Unit {0}
LeavesNode (of_node asked) = ⊥
LeavesNode unknown = Unit {0}
LeavesNode unread = Unit {0}

-- standard output, where nothing is obeyed
abbrev pub LeavesOutput : Request → Type 0
LeavesOutput (of_command command) = ⊥
LeavesOutput (of_node asked) = ⊥
LeavesOutput unknown = Unit {0}
LeavesOutput unread = Unit {0}
