use Rattle.std.proofs.Common.{arith, rules}
use Rattle.pair_net.proofs.Playing.{step_meant}
use Rattle.pair_net.proofs.pair_replay.take_step.Goals as goal

pub returns : goal.returns
returns c =
    step_meant c.args.pair.now c.advance.new.self c.args.count.now c.args.line.now c.args.step c.as_slice.result.now c.args.pieces.now c.tell_line.new.pieces (omega arith)
    (record { pair-is = c.in_ok-notes.ensures.turn.pair-is; notes-are = search (rules, c.in_ok-notes.ensures.turn.notes-are) })
    c.in_ok-tell_line.ensures.said
