use Rattle.world_play.proofs.DriveEnds.{drives_agreeing}
use Rattle.world_play.proofs.driving.drive_by.Goals as goal

pub returns-in-Ok-clause-agrees : goal.returns-in-Ok-clause-agrees
returns-in-Ok-clause-agrees g c = λ done two.
    let drives = rw c.in-Ok.is at c.drive_anew.ensures.drives in
    drives_agreeing c.args.settings.now c.args.first.now c.args.count _ _ _ _ _ _ _ _ drives done two

pub returns-in-Err-clause-agrees : goal.returns-in-Err-clause-agrees
returns-in-Err-clause-agrees g c = λ done two. absurd cc
