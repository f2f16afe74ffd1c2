use Rattle.node_run.specs.Asked.{Asked, asked_by}
use Rattle.node_run.specs.Files.{shelf_told}
use Rattle.node_run.specs.Node.{world_told, node_told, IsNodeRun}
use Rattle.tool_status.specs.Streams.{sink_told}
use Rattle.node_run.proofs.NodeLaws.{run_asked}
use Rattle.node_run.proofs.serving.run_node.Goals as goal

pub returns-in-Some-clause-runs : goal.returns-in-Some-clause-runs
returns-in-Some-clause-runs g c = λ asked is.
    run_asked (λ (a : Asked). IsNodeRun a
    (node_told (shelf_told (g.H.Shelf.file c.args.shelf.now) (g.H.Shelf.readings c.args.shelf.now))
    (world_told (g.W.World.is_open c.args.world.now) (g.W.World.has_ended c.args.world.now) (g.W.World.faults c.args.world.now) (g.W.World.opening c.args.world.now) (g.W.World.taken c.args.world.now) (g.W.World.done c.args.world.now))
    (sink_told (g.K.Sink.taken c.args.out.now) (g.K.Sink.faults c.args.out.now)) (sink_told (g.E.Sink.taken c.args.err.now) (g.E.Sink.faults c.args.err.now)))
    (node_told (shelf_told (g.H.Shelf.file c.serve.new.shelf) (g.H.Shelf.readings c.serve.new.shelf))
    (world_told (g.W.World.is_open c.serve.new.world) (g.W.World.has_ended c.serve.new.world) (g.W.World.faults c.serve.new.world) (g.W.World.opening c.serve.new.world) (g.W.World.taken c.serve.new.world) (g.W.World.done c.serve.new.world))
    (sink_told (g.K.Sink.taken c.serve.new.out) (g.K.Sink.faults c.serve.new.out)) (sink_told (g.E.Sink.taken c.serve.new.err) (g.E.Sink.faults c.serve.new.err))) c.serve.result)
    _ (asked_by c.in-Some.asked) asked c.in-Some.ensures.asked is c.serve.ensures.runs
