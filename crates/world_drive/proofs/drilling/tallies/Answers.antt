use Rattle.world_drive.proofs.Drills.{tallies-at}
use Rattle.world_drive.proofs.drilling.tallies.Goals as goal

pub returns : goal.returns
returns c = tallies-at c.args.seed c.args.count _ _ _ _ c.tallies.result c.in_ok-run.ensures.stands c.in_ok-run.ensures.events c.tallies.ensures
