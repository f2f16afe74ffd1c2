use Rattle.node_run.proofs.NodeRuns.{opened_is, serving_opened}
use Rattle.node_run.proofs.serving.open_world.Goals as goal

pub returns-in-Ok-clause-serves : goal.returns-in-Ok-clause-serves
returns-in-Ok-clause-serves g c =
    serving_opened c.args.config.now c.args.topology c.args.count _ _ _ _ _ c.drive_files.result
    (opened_is (g.W.World.is_open c.args.world.now) _ _ _ _ _ _ _ _ _ _ _ c.args.config.now c.args.topology c.in-Ok.ensures.«open» c.in-Ok.ensures.ended c.in-Ok.ensures.cause c.in-Ok.ensures.opening c.in-Ok.ensures.taken
    c.in-Ok.ensures.done) c.drive_files.ensures.drives
