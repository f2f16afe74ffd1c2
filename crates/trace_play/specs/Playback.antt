-- What is kept of the lines of a trace that were read, and what one line more comes to.
use Rattle.std.specs.Prelude.{◌≡◌, ℕ, ◌<◌, List, [], ◌∷◌, ◌++◌, length, Option, Some, None, IfSome, Result, Ok, Err}
use Rattle.machine.specs.Machine.{Machine, start_of}
use Rattle.machine.specs.Run.{after_all}
use Rattle.net_base.specs.Limits.{IsWithinLimits}
use Rattle.trace_text.specs.Stages.{first_stage}
use Rattle.trace_text.specs.declared.line.HeadLine.{HeadLine}
use Rattle.trace_text.specs.declared.line.Line.{Line}
use Rattle.trace_text.specs.declared.line.Line.TheVariants.{Head, Happen, Acted, End}
use Rattle.trace_text.specs.declared.line.LineRefusal.{LineRefusal}
use Rattle.trace_text.specs.declared.line.LineRefusal.TheVariants.{BadWord, BadNumber, BadTargets, OutOfOrder, OutOfMemory as NoMemory}
use Rattle.trace_text.specs.declared.stage.Stage.{Stage}
use Rattle.trace_meaning.specs.Reading.{Reading, said_at, stage_behind, heads_in, events_in}
use Rattle.trace_meaning.specs.Settings.{settings_in}
use Rattle.trace_meaning.specs.Judgement.{verdict_at}
use Rattle.trace_meaning.specs.Output.{start_in, lines_for}
use Rattle.trace_meaning.specs.Passing.{ArePassed}

-- what contracts see of what steps
pub record Begun : Type 0 where
  pub machine : Machine
  pub events : ℕ

-- what is kept of the lines that were read; what steps is made at the first event
pub record Kept : Type 0 where
  pub stage : Stage
  pub heads : List HeadLine
  pub engine : Option Begun

abbrev pub begun : {E : Type 0} → Option E → (E → Machine) → (E → ℕ) → Option Begun
begun None machine events = None
begun (Some engine) machine events = Some (record { machine = machine engine; events = events engine })

abbrev pub kept : Stage → List HeadLine → Option Begun → Kept
kept stage heads engine = record { stage = stage; heads = heads; engine = engine }

-- no line was read yet
abbrev pub nothing_kept : Kept
nothing_kept = kept first_stage [] None

-- the machine that is kept, or the one that it will begin with
abbrev pub machine_or : Machine → Option Begun → Machine
machine_or start None = start
machine_or start (Some engine) = engine.machine

abbrev pub events_taken : Option Begun → ℕ
events_taken None = 0
events_taken (Some engine) = engine.events

-- the machine that the next event finds
abbrev pub machine_before : Kept → Machine
machine_before playback = machine_or (start_of (settings_in playback.heads)) playback.engine

-- What is kept of lines that pass.
pub record StandsBehind (playback : Kept) (readings : List Reading) : Type 0 where
  pub passed : ArePassed readings
  pub stage : playback.stage ≡ stage_behind readings first_stage
  pub heads : playback.heads ≡ heads_in readings
  pub machine : machine_or (start_in readings) playback.engine ≡ after_all (start_in readings) (events_in readings)
  pub events : events_taken playback.engine ≡ length (events_in readings)
  pub begun : IfSome playback.engine (λ engine. 0 < engine.events)

-- A line passes: what is kept stands behind it too, and these lines are written behind those before.
pub record GoesOn (readings : List Reading) (reading : Reading) (next : Kept) (said : List (List ℕ)) : Type 0 where
  pub passes : verdict_at readings reading ≡ None
  pub stands : StandsBehind next (readings ++ reading ∷ [])
  pub lines : lines_for (readings ++ reading ∷ []) ≡ lines_for readings ++ said

-- an event line says an event that is within the limits
abbrev pub IsLineWithin : Line → Type 0
IsLineWithin (Head head) = Unit {0}
IsLineWithin (Happen event) = IsWithinLimits event
IsLineWithin Acted = Unit {0}
IsLineWithin End = Unit {0}

-- what is read is what the line says; only want of memory may come in its place
abbrev pub IsSaid : Stage → List ℕ → Result Line LineRefusal → Type 0
IsSaid stage text (Ok line) = said_at stage text ≡ Ok line
IsSaid stage text (Err (BadWord place)) = said_at stage text ≡ Err (BadWord place)
IsSaid stage text (Err (BadNumber place)) = said_at stage text ≡ Err (BadNumber place)
IsSaid stage text (Err BadTargets) = said_at stage text ≡ Err BadTargets
IsSaid stage text (Err OutOfOrder) = said_at stage text ≡ Err OutOfOrder
IsSaid stage text (Err NoMemory) = Unit {0}
