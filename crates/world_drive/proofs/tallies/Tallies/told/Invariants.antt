use Rattle.std.proofs.Common.{◌≡◌, take, map}
use Rattle.io_edge.specs.Lines.{ended_lines}
use Rattle.world_drive.specs.Drill.{told_count}
use Rattle.world_drive.proofs.tallies.Tallies.told.Given as goal

-- the lines so far are there
abbrev pub invariant-loop-name : goal.invariant-loop-name
invariant-loop-name l = l.pieces ≡ ended_lines (map (λ named. told_count named.0.now named.1) (take l.name-index l.name-items))
