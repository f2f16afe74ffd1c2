use Rattle.std.proofs.Common.{◌≡◌, ◌∷◌, ◌++◌, take, map}
use Rattle.io_edge.specs.Lines.{ended_lines}
use Rattle.line_run.proofs.telling.tell_on.Given as goal

-- the lines of those so far stand below the first
abbrev pub invariant-loop-item : goal.invariant-loop-item
invariant-loop-item g l = l.pieces ≡ l.fn.pieces ++ ended_lines (l.line ∷ map g.T.PrintedLine.text (take l.item-index l.below))
