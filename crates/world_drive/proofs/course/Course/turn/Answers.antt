use Rattle.std.proofs.Common.{◌∙◌}
use Rattle.world_drive.proofs.Drills.{StandsAt-turned}
use Rattle.world_drive.proofs.course.Course.turn.Goals as goal

-- the parts of what happens in a turn, each from the call that does it
pub returns-clause-turned : goal.returns-clause-turned
returns-clause-turned g c = λ d stands.
    StandsAt-turned _ _ _ _ _ _ _ _ _ d stands c.in_ok-event.ensures.event c.in_ok-event.ensures.town
    c.in_ok-actions.ensures.machine (c.as_slice.ensures ∙ c.in_ok-actions.ensures.actions) c.in_ok-act_all.ensures.town c.in_ok-act_all.ensures.counted
