use Rattle.std.proofs.lemmas.Result.{err_from_is_err_and}
use Rattle.world_play.proofs.DriveEnds.{wanting}
use Rattle.world_play.proofs.driving.drive_anew.Goals as goal

pub returns-in_err-engine-clause-drives : goal.returns-in_err-engine-clause-drives
returns-in_err-engine-clause-drives g c =
    rw (err_from_is_err_and c.from_residual.result c.from_residual.ensures.1).1 (wanting c.args.settings.now c.args.first.now c.args.count _ _ _ _)

pub returns-in_err-pieces-clause-drives : goal.returns-in_err-pieces-clause-drives
returns-in_err-pieces-clause-drives g c =
    rw (err_from_is_err_and c.from_residual-in_err-pieces.result c.from_residual-in_err-pieces.ensures.1).1
    (wanting c.args.settings.now c.args.first.now c.args.count _ _ _ _)
