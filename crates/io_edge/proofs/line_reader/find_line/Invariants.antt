use Rattle.std.proofs.Common.{◌≤◌, ◌++◌, length, ◌+◌, ◌-◌}
use Rattle.io_edge.specs.Lines.{FitsLine}
use Rattle.io_edge.proofs.ReadingLemmas.{HasRead}
use Rattle.io_edge.proofs.line_reader.find_line.Given as goal

abbrev pub invariant-readings : goal.invariant-readings
invariant-readings g l = record {
  front : FitsLine l.held.items;
  fits : length l.window ≤ 65536;
  read : HasRead g.S.Source.left g.S.Source.faults l.fn.src l.src (l.fn.held.items ++ l.fn.window) (l.held.items ++ l.window);
}

-- how much more than this could be seen
abbrev pub decreases-readings : goal.decreases-readings
decreases-readings g l = 205537 - (length l.held.items + length l.window)
