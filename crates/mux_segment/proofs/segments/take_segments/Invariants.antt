use Rattle.std.proofs.Common.{length}
use Rattle.mux_segment.specs.Protocols.{node_limits}
use Rattle.mux_segment.specs.Kept.{AreKept}
use Rattle.mux_segment.proofs.Streams.{IsReading}
use Rattle.mux_segment.proofs.segments.take_segments.Given as goal

abbrev pub invariant-loop-header : goal.invariant-loop-header
invariant-loop-header l = record {
  reading : IsReading node_limits l.fn.parts l.fn.items l.stream l.parts l.items l.rest;
  kept : AreKept node_limits l.parts;
}

abbrev pub decreases-loop-header : goal.decreases-loop-header
decreases-loop-header l = length l.rest
