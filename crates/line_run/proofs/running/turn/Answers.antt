use Rattle.line_run.proofs.Ways.{turn_put}
use Rattle.line_run.proofs.running.turn.Goals as goal

pub returns-clause-turn : goal.returns-clause-turn
returns-clause-turn g c = λ start left taken way.
    turn_put g.I.Interpreter.means start c.args.number _ c.interpret_next.new.reader c.interpret_next.new.pieces c.put_full.new.pieces left (g.S.Source.left c.interpret_next.new.src) taken
    (g.K.Sink.taken c.interpret_next.new.out) (g.K.Sink.taken c.put_full.new.out) c.put_full.result (c.in_ok-interpret_next.ensures.turn start left taken way)
    c.put_full.ensures.front c.put_full.ensures.part c.put_full.ensures.fault
