use Rattle.std.proofs.lemmas.Result.{err_from_is_err_and}
use Rattle.line_run.proofs.Ways.{line_there, line_played}
use Rattle.line_run.proofs.running.interpret_asked.Goals as goal

pub returns-in_err-next_line-clause-turn : goal.returns-in_err-next_line-clause-turn
returns-in_err-next_line-clause-turn g c = λ start left taken way.
    let p = err_from_is_err_and c.from_residual.result c.from_residual.ensures.1 in
    rw (p.1, p.2) (c.in_err-next_line.ensures.next start _ left taken way)

pub returns-clause-turn : goal.returns-clause-turn
returns-clause-turn g c = λ start left taken way.
    let there = line_there g.I.Interpreter.means start c.args.number _ _ c.deref.result.now c.next_line.new.reader c.next_line.new.pieces left (g.S.Source.left c.next_line.new.src) taken
    (g.K.Sink.taken c.next_line.new.out) c.deref.ensures.value (c.in_ok-next_line.ensures.next start _ left taken way) in
    line_played g.I.Interpreter.means start c.args.number _ (g.I.Interpreter.state c.interpret_at.new.interpreter)
    c.deref.result.now c.next_line.new.reader c.next_line.new.pieces c.interpret_at.new.pieces left (g.S.Source.left c.next_line.new.src) taken
    (g.K.Sink.taken c.next_line.new.out) c.interpret_at.result c.requires.few there c.interpret_at.ensures.said
