use Rattle.line_run.proofs.Stopping.{stopped-at, stopped-reads, stopped-writes}
use Rattle.line_run.proofs.running.interpret_at.Goals as goal

pub returns-in-Err-clause-said : goal.returns-in-Err-clause-said
returns-in-Err-clause-said g c = rw c.outcome_at.ensures (stopped-at c.args.number _ (g.I.Interpreter.state c.interpret.new.self) _ _ c.in-Err.stop c.in-Err.ensures.meant)

pub returns-in-Err-clause-reads : goal.returns-in-Err-clause-reads
returns-in-Err-clause-reads g c = λ count. rw c.outcome_at.ensures (stopped-reads c.args.number count c.in-Err.stop)

pub returns-in-Err-clause-writes : goal.returns-in-Err-clause-writes
returns-in-Err-clause-writes g c = λ count. rw c.outcome_at.ensures (stopped-writes c.args.number count c.in-Err.stop)
