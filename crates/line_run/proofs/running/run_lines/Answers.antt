use Rattle.line_run.proofs.Inputs.{Runs-input}
use Rattle.line_run.proofs.running.run_lines.Goals as goal

pub returns-clause-over : goal.returns-clause-over
returns-clause-over g c = λ input told.
    Runs-input g.I.Interpreter.means (g.I.Interpreter.state c.args.interpreter.now) _ _ _ _ input c.outcome_or_memory.result (rw c.outcome_or_memory.ensures c.run_anew.ensures.runs) told
