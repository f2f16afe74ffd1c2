use Rattle.std.proofs.Common.{◌≡◌, ◌+◌, [], take, true}
use Rattle.world_play.specs.DriveCourse.{Ran}
use Rattle.world_play.proofs.driving.take_first.Given as goal

-- the events so far were taken whole
abbrev pub invariant-loop-event : goal.invariant-loop-event
invariant-loop-event g l = record {
  ran : Ran (g.E.Stepper.machine l.initial.engine) (take l.event-index l.first) (g.E.Stepper.machine l.engine) (g.W.World.done l.initial.world) (g.W.World.done l.world) (g.K.Sink.taken l.initial.out) (g.K.Sink.taken l.out);
  events : g.E.Stepper.events l.engine ≡ g.E.Stepper.events l.initial.engine + l.event-index;
  opened : g.W.World.is_open l.world ≡ true;
  opening : g.W.World.opening l.world ≡ g.W.World.opening l.initial.world;
  silent : l.pieces ≡ [];
  taken : g.W.World.taken l.world ≡ g.W.World.taken l.initial.world;
  worlds : g.W.World.faults l.world ≡ g.W.World.faults l.initial.world;
  writes : g.K.Sink.faults l.out ≡ g.K.Sink.faults l.initial.out;
}
