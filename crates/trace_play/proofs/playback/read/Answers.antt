use Rattle.trace_play.proofs.Playing.{IsSaid-from, IsLineWithin-from}
use Rattle.trace_play.proofs.playback.read.Goals as goal

pub returns-clause-said : goal.returns-clause-said
returns-clause-said c = IsSaid-from _ _ _ c.read_line.ensures

pub returns-clause-within : goal.returns-clause-within
returns-clause-within c =
    IsLineWithin-from c.args.stage.now c.args.text.now c.read_line.result (IsSaid-from c.args.stage.now c.args.text.now c.read_line.result c.read_line.ensures)
