use Rattle.trace_play.proofs.CheckRuns.{checks_run}
use Rattle.trace_play.proofs.checking.check_by.Goals as goal

pub returns-in-Ok-clause-checks : goal.returns-in-Ok-clause-checks
returns-in-Ok-clause-checks g c = rw (c.from.ensures) (checks_run _ _ _ _ c.run_lines.result (rw c.in-Ok.ensures at c.run_lines.ensures.runs))
