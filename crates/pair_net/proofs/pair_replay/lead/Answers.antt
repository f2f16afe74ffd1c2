use Rattle.std.proofs.Common.{[], ◌∷◌, Err, refl, sym}
use Rattle.line_run.proofs.Meant.{says_line, read_interpreted}
use Rattle.line_run.specs.declared.stop.Stop.TheVariants.{Ended}
use Rattle.pair_net.specs.Lines.{later_line}
use Rattle.pair_net.specs.Replay.{step_means}
use Rattle.pair_net.specs.declared.pair_line.PairLine.TheVariants.{End}
use Rattle.pair_net.specs.declared.pair_replay.Progress.TheVariants.{Steps}
use Rattle.pair_net.proofs.pair_replay.lead.Goals as goal

pub returns-in_ok-push_line-in-Ok-End : goal.returns-in_ok-push_line-in-Ok-End
returns-in_ok-push_line-in-Ok-End c =
    let read = rw c.in-Ok-End.field-0-is at c.in-Ok-End.ensures in
    read_interpreted (later_line c.args.line.now) (step_means c.args.pair.now c.args.count.now c.args.line.now) (Steps c.args.pair.now c.args.count.now) End c.args.pieces.now c.push_line.new.self (Err Ended) (sym read)
    (c.args.line.now ∷ [], refl, says_line c.args.pieces.now c.push_line.new.self c.args.line.now c.in_ok-push_line-in-Ok-End.ensures.ok)
