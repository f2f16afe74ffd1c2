use Rattle.std.proofs.Common.{◌∙◌}
use Rattle.world_play.proofs.Drives.{said-text}
use Rattle.world_play.proofs.driving.say.Goals as goal

pub returns-clause-said : goal.returns-clause-said
returns-clause-said g c =
    said-text (g.E.Stepper.machine c.args.engine.now) c.args.event.now c.args.pieces.now c.tell_line.new.pieces c.as_slice.result.now c.as_slice-2.result.now _ _
    c.requires.silent (c.as_slice.ensures ∙ c.in_ok-line.ensures.printed) (c.as_slice-2.ensures ∙ c.in_ok-actions.ensures.actions) c.in_ok-tell_line.ensures.said c.in_ok-put_pending.ensures.whole
