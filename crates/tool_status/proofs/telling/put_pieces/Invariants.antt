use Rattle.std.proofs.Common.{◌≡◌, take}
use Rattle.std.specs.List.{flat_map}
use Rattle.io_edge.specs.Told.{Takes}
use Rattle.tool_status.proofs.telling.put_pieces.Given as goal

-- the pieces so far were taken
abbrev pub invariant-loop-piece : goal.invariant-loop-piece
invariant-loop-piece g l = record {
  taken : Takes (g.E.Sink.taken l.initial.err) (g.E.Sink.taken l.err) (flat_map (λ piece. piece.now) (take l.piece-index l.pieces));
  calm : g.E.Sink.faults l.err ≡ g.E.Sink.faults l.initial.err;
}
