use Rattle.std.proofs.Common.{◌≡◌, ◌++◌, length}
use Rattle.mux_segment.specs.Frame.{pieces_of}
use Rattle.mux_segment.proofs.Pieces.{spelled, pieces_left}
use Rattle.mux_segment.proofs.framing.frame.Given as goal

abbrev pub invariant-loop-rest : goal.invariant-loop-rest
invariant-loop-rest l = l.out ++ spelled l.side l.id l.time (pieces_left l.rest) ≡ spelled l.side l.id l.time (pieces_of l.payload)

abbrev pub decreases-loop-rest : goal.decreases-loop-rest
decreases-loop-rest l = length l.rest
