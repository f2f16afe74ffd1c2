-- What comes of lines that lead something, whatever they mean: two ends, or local clients.
use Rattle.std.specs.Prelude.{◌≡◌, ℕ, ◌⊎◌, List, Option, Some}
use Rattle.line_run.specs.Inputs.{IsRunOver}
use Rattle.line_run.specs.Judgement.{verdict_of}
use Rattle.line_run.specs.Meaning.{Meaning}
use Rattle.line_run.specs.Runs.{Runs, outcome_of, HasReadCount, HasWriteCount}
use Rattle.line_run.specs.declared.outcome.LineOutcome.{LineOutcome}
use Rattle.local_clients.specs.Law.{AreLawful}
use Rattle.local_clients.specs.Replay.{line_means as client_line_means, nobody, clients_after}
use Rattle.local_clients.specs.declared.rules.ClientRules.{ClientRules}
use Rattle.pair_net.specs.Replay.{line_means as pair_line_means, pair_start, IsLawfulSoFar, progress_after}
use Rattle.command_run.specs.Command.{IsAnswered, RoseSource, RoseSink}
use Rattle.tool_status.specs.Streams.{StreamsTold}
use Rattle.tool_status.specs.Told.{status_told}
use Rattle.trace_meaning.specs.Told.{outcome_run}
use Rattle.tool_status.specs.declared.status.Status.{Status}
use Rattle.tool_status.specs.declared.status.Status.TheVariants.{OutOfMemory}

-- how the outcome of a run over lines is told
abbrev pub status_run : LineOutcome → Status
status_run outcome = status_told (outcome_run outcome)

-- the status of the line that decides
abbrev pub line_status : {S : Type 0} → (S → List ℕ → Meaning S) → S → List ℕ → Status
line_status means start input = status_run (outcome_of (verdict_of means start input))

-- Lines led it from its start: what was read and written, by how it ended, whose count of faults rose, and what holds then,
-- behind any number of the lines that were read.
pub record HasLed {S : Type 0} (means : S → List ℕ → Meaning S) (start : S) (lawful : ℕ → List ℕ → Type 0) (before after : StreamsTold) (status : Status) : Type 0 where
  pub outcome : LineOutcome
  pub told : status ≡ status_run outcome
  pub runs : Runs means start before.src.left after.src.left before.out.taken after.out.taken outcome
  pub holds : (count : ℕ) → lawful count runs.seen
  pub reads : HasReadCount before.src.faults after.src.faults outcome
  pub writes : HasWriteCount before.out.faults after.out.faults outcome

-- ---- `pair`: every law of a pair holds on the way

abbrev pub PairIsLawful : ℕ → List ℕ → Type 0
PairIsLawful count seen = IsLawfulSoFar (progress_after count seen)

abbrev pub HasPaired : StreamsTold → StreamsTold → Status → Type 0
HasPaired = HasLed pair_line_means pair_start PairIsLawful

-- ---- `clients`, by its rules: every law of clients holds on the way

abbrev pub ClientsAreLawful : ClientRules → ℕ → List ℕ → Type 0
ClientsAreLawful rules count seen = AreLawful rules (clients_after rules count seen)

abbrev pub HasServed : ClientRules → StreamsTold → StreamsTold → Status → Type 0
HasServed rules = HasLed client_line_means (nobody rules) (ClientsAreLawful rules)

-- ---- what follows

-- what has come of an input
pub record HasLedOver {S : Type 0} (means : S → List ℕ → Meaning S) (start : S) (input : List ℕ) (left_after taken_before taken_after : Option (List ℕ)) (status : Status) : Type 0 where
  pub outcome : LineOutcome
  pub told : status ≡ status_run outcome
  pub over : IsRunOver means start input outcome left_after taken_before taken_after

-- The same of a source that tells its input.
pub record ComesOfLines {S : Type 0} (means : S → List ℕ → Meaning S) (start : S) (before after : StreamsTold) (status : Status) : Type 0 where
  -- what was read and written, by each status
  pub over : (input : List ℕ) → before.src.left ≡ Some input → HasLedOver means start input after.src.left before.out.taken after.out.taken status
  -- the line that decides has its status, but for want of memory and for faults
  pub answered : (input : List ℕ) → before.src.left ≡ Some input → IsAnswered (line_status means start input) (RoseSource before after) (RoseSink before after) status
  pub complete : (input : List ℕ) → before.src.left ≡ Some input → ¬ RoseSource before after → ¬ RoseSink before after →
      (status ≡ line_status means start input) ⊎ (status ≡ OutOfMemory)

abbrev pub ComesOfPair : StreamsTold → StreamsTold → Status → Type 0
ComesOfPair = ComesOfLines pair_line_means pair_start

abbrev pub ComesOfClients : ClientRules → StreamsTold → StreamsTold → Status → Type 0
ComesOfClients rules = ComesOfLines client_line_means (nobody rules)
