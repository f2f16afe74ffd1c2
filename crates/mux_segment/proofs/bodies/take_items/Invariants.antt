use Rattle.std.proofs.Common.{◌≡◌, length}
use Rattle.cbor_items.specs.Scan.{scan_of}
use Rattle.mux_segment.proofs.Takes.{IsTaking}
use Rattle.mux_segment.proofs.bodies.take_items.Given as goal

abbrev pub invariant-loop-size : goal.invariant-loop-size
invariant-loop-size l = record {
  taking : IsTaking l.limit l.side l.id l.fn.items l.part l.items l.rest;
  scanned : l.scan ≡ scan_of l.rest;
}

abbrev pub decreases-loop-size : goal.decreases-loop-size
decreases-loop-size l = length l.rest
