use Rattle.std.proofs.Common.{◌≡◌, subst, IfOk}
use Rattle.io_edge.specs.Lines.{ended_lines}
use Rattle.world_drive.specs.Drill.{tally_lines, drill_text}
use Rattle.world_drive.specs.declared.tallies.Tallies.{Tallies}
use Rattle.world_drive.proofs.drilling.told.Goals as goal

pub returns : goal.returns
unfolding drill_text
returns c =
    subst (λ (t : Tallies). IfOk c.told.result (λ pieces. pieces ≡ ended_lines (tally_lines t))) c.in_ok-tallies.ensures c.told.ensures
