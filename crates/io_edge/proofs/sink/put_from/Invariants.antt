use Rattle.std.proofs.Common.{length, drop, ◌-◌, ◌≡◌, ◌≤◌}
use Rattle.io_edge.specs.Told.{TakesFront}
use Rattle.io_edge.proofs.sink.put_from.Given as goal

abbrev pub invariant-calls : goal.invariant-calls
invariant-calls g l = record {
  within : l.done ≤ length l.bytes;
  front : TakesFront (g.K.Sink.taken l.fn.sink) (g.K.Sink.taken l.sink) (drop l.fn.done l.bytes) (drop l.done l.bytes);
  calm : g.K.Sink.faults l.sink ≡ g.K.Sink.faults l.fn.sink;
}

abbrev pub decreases-calls : goal.decreases-calls
decreases-calls g l = length l.bytes - l.done
