use Rattle.world_drive.proofs.Drills.{acted-none, acted-more, joined-none, counted-more}
use Rattle.world_drive.proofs.course.act_all.Goals as goal

pub loop-action-init : goal.loop-action-init
loop-action-init c = record {
  town = acted-none _;
  counts = joined-none _;
}

pub loop-action-preserved : goal.loop-action-preserved
loop-action-preserved c = record {
  town = acted-more _ _ _ _ _ c.action-item.result c.loop-action-test.true c.action-item.is c.loop-action.invariant.town c.in_ok-act.ensures;
  counts = counted-more _ _ _ _ _ c.action-item.result c.loop-action-test.true c.action-item.is c.loop-action.invariant.counts c.in_ok-counts.ensures;
}
