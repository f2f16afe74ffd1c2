use Rattle.std.proofs.Common.{ap, ◌∙◌}
use Rattle.machine.specs.Machine.{start_of}
use Rattle.node_world.specs.Town.{LivedTown}
use Rattle.world_drive.proofs.Drills.{StandsAt-none}
use Rattle.world_drive.proofs.course.Course.new.Goals as goal

pub returns-clause-stands : goal.returns-clause-stands
returns-clause-stands g c =
    StandsAt-none c.args.seed _ _ _ (ap (λ (w : LivedTown). w.town) c.new.ensures)
    (c.in_ok-first_engine.ensures.machine ∙ ap start_of c.settings_of-settings.ensures) c.none.ensures
