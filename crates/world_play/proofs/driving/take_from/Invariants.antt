use Rattle.std.proofs.Common.{◌≡◌, ◌+◌, [], true}
use Rattle.world_play.specs.DriveCourse.{RanFor}
use Rattle.world_play.proofs.driving.take_from.Given as goal

abbrev pub invariant-loop-turn : goal.invariant-loop-turn
invariant-loop-turn g l = record {
  ran : RanFor (g.E.Stepper.machine l.initial.engine) l.turn (g.E.Stepper.machine l.engine) (g.W.World.taken l.initial.world) (g.W.World.taken l.world) (g.W.World.done l.initial.world) (g.W.World.done l.world)
      (g.K.Sink.taken l.initial.out) (g.K.Sink.taken l.out);
  events : g.E.Stepper.events l.engine ≡ g.E.Stepper.events l.initial.engine + l.turn;
  opened : g.W.World.is_open l.world ≡ true;
  opening : g.W.World.opening l.world ≡ g.W.World.opening l.initial.world;
  silent : l.pieces ≡ [];
  worlds : g.W.World.faults l.world ≡ g.W.World.faults l.initial.world;
  writes : g.K.Sink.faults l.out ≡ g.K.Sink.faults l.initial.out;
}
