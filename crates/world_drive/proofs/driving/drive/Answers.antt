use Rattle.world_drive.proofs.LawfulRuns.{drives-lawfully}
use Rattle.world_drive.proofs.driving.drive.Goals as goal

pub returns-in-Err-clause-agrees : goal.returns-in-Err-clause-agrees
returns-in-Err-clause-agrees g c = λ done two. absurd cc

pub returns-in-Ok-clause-lawful : goal.returns-in-Ok-clause-lawful
returns-in-Ok-clause-lawful g c =
    let drives = rw c.in-Ok.is at c.drive_anew.ensures.drives in
    drives-lawfully c.args.settings.now c.args.first.now c.args.count _ _ _ _ _ _ _ _
    (λ events. c.runs_are_lawful.ensures c.args.settings.now events c.requires.sound) drives

pub returns-in-Err-clause-lawful : goal.returns-in-Err-clause-lawful
returns-in-Err-clause-lawful g c =
    let drives = rw c.in-Err.is at c.drive_anew.ensures.drives in
    drives-lawfully c.args.settings.now c.args.first.now c.args.count _ _ _ _ _ _ _ _
    (λ events. c.runs_are_lawful.ensures c.args.settings.now events c.requires.sound) drives
