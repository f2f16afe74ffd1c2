use Rattle.std.proofs.lemmas.Result.{err_from_is_err_and}
use Rattle.world_play.proofs.Drives.{does-front}
use Rattle.world_play.proofs.driving.act_all.Goals as goal

pub returns-in_err-act-clause-front : goal.returns-in_err-act-clause-front
returns-in_err-act-clause-front g c =
    let p = err_from_is_err_and c.from_residual.result c.from_residual.ensures.1 in
    rw p.1 (does-front _ _ _ _ c.loop-action.action-index c.loop-action-test.true c.loop-action.invariant.done c.in_err-act.ensures.done)
