use Rattle.std.proofs.Common.{◌≡◌}
use Rattle.world_drive.specs.Drill.{drilled}
use Rattle.world_drive.specs.DrillCourse.{StandsAt}
use Rattle.world_drive.proofs.drilling.run.Given as goal

abbrev pub invariant-loop-turn : goal.invariant-loop-turn
invariant-loop-turn g l = record {
  stands : StandsAt l.course.world.town l.course.engine.machine l.course.counts (drilled l.fn.seed l.turn);
  events : l.course.engine.events ≡ l.turn;
}
