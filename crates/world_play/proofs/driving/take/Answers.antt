use Rattle.std.proofs.Common.{◌∙◌}
use Rattle.std.proofs.lemmas.Result.{err_from_is_err_and}
use Rattle.world_play.proofs.Drives.{said-ran, unsaid-broke, acts-broke}
use Rattle.world_play.proofs.driving.take.Goals as goal

pub returns-in_err-actions-clause-broke : goal.returns-in_err-actions-clause-broke
returns-in_err-actions-clause-broke g c =
    let p = err_from_is_err_and c.from_residual.result c.from_residual.ensures.1 in
    rw (p.1, p.2) (unsaid-broke _ _ _ _ _ _ c.in_err-actions.ensures.unsaid)

pub returns-in_err-act_all-clause-broke : goal.returns-in_err-act_all-clause-broke
returns-in_err-act_all-clause-broke g c =
    let p = err_from_is_err_and c.from_residual-in_err-act_all.result c.from_residual-in_err-act_all.ensures.1 in
    rw (p.1, p.2)
    (acts-broke _ _ c.as_slice.result.now _ _ _ _ _ (c.as_slice.ensures ∙ c.in_ok-actions.ensures.actions) c.in_ok-actions.ensures.said c.in_err-act_all.ensures.front
    c.in_err-act_all.ensures.why)

pub returns-clause-ran : goal.returns-clause-ran
returns-clause-ran g c =
    said-ran _ _ _ c.as_slice.result.now _ _ _ _ c.in_ok-actions.ensures.machine (c.as_slice.ensures ∙ c.in_ok-actions.ensures.actions) c.in_ok-act_all.ensures.done
    c.in_ok-actions.ensures.said (c.requires.within, c.say.ensures.traced)
