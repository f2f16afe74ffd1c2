use Rattle.std.proofs.lemmas.Result.{err_from_is_err_and}
use Rattle.line_run.proofs.Ways.{no_memory}
use Rattle.line_run.proofs.running.run_anew.Goals as goal

pub returns-in_err-reader-clause-runs : goal.returns-in_err-reader-clause-runs
returns-in_err-reader-clause-runs g c =
    rw (err_from_is_err_and c.from_residual.result c.from_residual.ensures.1).1
    (no_memory g.I.Interpreter.means (g.I.Interpreter.state c.args.interpreter.now) (g.S.Source.left c.args.src.now) (g.K.Sink.taken c.args.out.now))

pub returns-in_err-pieces-clause-runs : goal.returns-in_err-pieces-clause-runs
returns-in_err-pieces-clause-runs g c =
    rw (err_from_is_err_and c.from_residual-in_err-pieces.result c.from_residual-in_err-pieces.ensures.1).1
    (no_memory g.I.Interpreter.means (g.I.Interpreter.state c.args.interpreter.now) (g.S.Source.left c.args.src.now) (g.K.Sink.taken c.args.out.now))

pub returns-clause-runs : goal.returns-clause-runs
returns-clause-runs g c = c.close.ensures.closed _ _ _ _ c.run_from-outcome.ensures.ends

pub returns-clause-reads : goal.returns-clause-reads
returns-clause-reads g c = c.close.ensures.reads _ _ c.run_from-outcome.ensures.reads

pub returns-clause-writes : goal.returns-clause-writes
returns-clause-writes g c = c.close.ensures.writes _ c.run_from-outcome.ensures.writes
