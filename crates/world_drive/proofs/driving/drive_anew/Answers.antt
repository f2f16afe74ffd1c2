use Rattle.std.proofs.lemmas.Result.{err_from_is_err_and}
use Rattle.world_play.proofs.DriveEnds.{wanting}
use Rattle.world_drive.proofs.driving.drive_anew.Goals as goal

pub returns-in_err-new-clause-drives : goal.returns-in_err-new-clause-drives
returns-in_err-new-clause-drives g c =
    rw (err_from_is_err_and c.from_residual.result c.from_residual.ensures.1).1 (wanting c.args.settings.now c.args.first.now c.args.count _ _ _ _)

pub returns-in_err-new-2-clause-drives : goal.returns-in_err-new-2-clause-drives
returns-in_err-new-2-clause-drives g c =
    rw (err_from_is_err_and c.from_residual-in_err-new-2.result c.from_residual-in_err-new-2.ensures.1).1
    (wanting c.args.settings.now c.args.first.now c.args.count _ _ _ _)
