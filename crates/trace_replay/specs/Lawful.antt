-- A replay and a check are of a run of the machine, and every law holds in that run.
use Rattle.std.specs.Prelude.{ℕ, List, Option}
use Rattle.laws.specs.Runs.{IsLawfulRun}
use Rattle.trace_meaning.specs.Judgement.{judged}
use Rattle.trace_meaning.specs.Reading.{heads_in, events_in}
use Rattle.trace_meaning.specs.Replays.{Replays}
use Rattle.trace_meaning.specs.Settings.{settings_in}
use Rattle.trace_meaning.specs.declared.outcome.Outcome.{Outcome}
use Rattle.trace_play.specs.Checks.{Checks}

-- The run of the bytes that were read: from the settings of their head, over their events, up to the line that decides.
abbrev pub IsLawfulRunOf : List ℕ → Type 0
IsLawfulRunOf seen = let passed = (judged seen).passed in IsLawfulRun (settings_in (heads_in passed)) (events_in passed)

-- What was read and written is of one run, and every law holds in that run.
pub record ReplaysLawfully (left_before left_after taken_before taken_after : Option (List ℕ)) (outcome : Outcome) : Type 0 where
  pub replays : Replays left_before left_after taken_before taken_after outcome
  pub lawful : IsLawfulRunOf replays.seen

-- What was read is compared with one run, and every law holds in that run.
pub record ChecksLawfully (left_before left_after taken_before taken_after : Option (List ℕ)) (outcome : Outcome) : Type 0 where
  pub checks : Checks left_before left_after taken_before taken_after outcome
  pub lawful : IsLawfulRunOf checks.seen
