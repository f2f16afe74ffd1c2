use Rattle.line_run.proofs.Ways.{kept_next, line_played}
use Rattle.line_run.proofs.running.interpret_next.Goals as goal

pub returns-in-Some-clause-turn : goal.returns-in-Some-clause-turn
returns-in-Some-clause-turn g c = λ start left taken way.
    let next = kept_next g.I.Interpreter.means start c.args.number (g.I.Interpreter.state c.args.interpreter.now) c.args.reader.now c.skip.new.self c.in-Some.line.now c.args.pieces.now
    left (g.S.Source.left c.args.src.now) taken (g.K.Sink.taken c.args.out.now) way (rw c.skip.ensures c.in-Some.ensures) in
    line_played g.I.Interpreter.means start c.args.number _ (g.I.Interpreter.state c.interpret_at-played.new.interpreter)
    c.in-Some.line.now c.skip.new.self c.args.pieces.now c.interpret_at-played.new.pieces left (g.S.Source.left c.args.src.now) taken
    (g.K.Sink.taken c.args.out.now) c.interpret_at-played.result c.requires.few next c.interpret_at-played.ensures.said
