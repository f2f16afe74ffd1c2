use Rattle.std.proofs.Common.{◌≡◌, take}
use Rattle.world_drive.specs.Drill.{acted, counts_of}
use Rattle.world_drive.specs.DrillCourse.{counts_joined}
use Rattle.world_drive.proofs.course.act_all.Given as goal

-- the town was handed the actions so far, and they are counted
abbrev pub invariant-loop-action : goal.invariant-loop-action
invariant-loop-action l = record {
  town : l.world.town ≡ acted l.initial.world.town (take l.action-index l.actions);
  counts : l.counts ≡ counts_joined l.initial.counts (counts_of (take l.action-index l.actions));
}
