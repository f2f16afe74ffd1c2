use Rattle.world_drive.specs.Drill.{town_settings}
use Rattle.world_drive.specs.Lawful.{town_events}
use Rattle.world_drive.proofs.LawfulRuns.{counted-run, town_settings-sound}
use Rattle.world_drive.proofs.law.drills_are_lawful.Goals as goal

pub returns-clause-counted : goal.returns-clause-counted
returns-clause-counted c = counted-run

pub returns-clause-lawful : goal.returns-clause-lawful
returns-clause-lawful c = λ seed count. c.runs_are_lawful.ensures town_settings (town_events seed count) town_settings-sound
