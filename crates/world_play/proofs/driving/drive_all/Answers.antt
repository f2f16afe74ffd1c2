use Rattle.std.proofs.lemmas.Result.{err_from_is_err_and}
use Rattle.world_play.proofs.DriveEnds.{in_head, in_first, in_world, at_last}
use Rattle.world_play.proofs.driving.drive_all.Goals as goal

pub returns-in_err-put_head-clause-drives : goal.returns-in_err-put_head-clause-drives
returns-in_err-put_head-clause-drives g c =
    let p = err_from_is_err_and c.from_residual.result c.from_residual.ensures.1 in
    rw (p.1, p.2) (in_head c.args.settings.now c.args.first.now c.args.count _ _ _ _ _ _ c.in_err-put_head.ensures.part)

pub returns-in_err-take_first-clause-drives : goal.returns-in_err-take_first-clause-drives
returns-in_err-take_first-clause-drives g c =
    let p = err_from_is_err_and c.from_residual-in_err-take_first.result c.from_residual-in_err-take_first.ensures.1 in
    rw (p.1, p.2)
    (in_first c.args.settings.now _ c.args.first.now c.args.count _ _ _ _ _ _ _ _ _ c.requires.start c.take_first.ensures.taken c.in_ok-put_head.ensures.whole
    c.in_err-take_first.ensures.broke)

pub returns-in_err-take_from-clause-drives : goal.returns-in_err-take_from-clause-drives
returns-in_err-take_from-clause-drives g c =
    let p = err_from_is_err_and c.from_residual-in_err-take_from.result c.from_residual-in_err-take_from.ensures.1 in
    rw (p.1, p.2)
    (in_world c.args.settings.now _ _ c.args.first.now c.args.count _ _ _ _ _ _ _ _ _ _ _ _ c.requires.start c.take_first.ensures.taken c.in_ok-put_head.ensures.whole
    c.in_ok-take_first.ensures.ran c.in_err-take_from.ensures.stopped)

pub returns-clause-drives : goal.returns-clause-drives
returns-clause-drives g c =
    at_last c.args.settings.now _ _ c.args.first.now c.args.count _ _ _ _ _ _ _ _ _ _ _ _ c.put_end.result c.requires.sound c.hold_address.ensures.0 c.requires.few c.requires.start c.take_first.ensures.taken
    c.in_ok-put_head.ensures.whole c.in_ok-take_first.ensures.ran c.in_ok-take_from.ensures.came c.put_end.ensures.whole c.put_end.ensures.part
