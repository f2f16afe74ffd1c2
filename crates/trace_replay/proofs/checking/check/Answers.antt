use Rattle.trace_replay.proofs.checking.check.Goals as goal

pub returns-in-Ok-clause-lawful : goal.returns-in-Ok-clause-lawful
returns-in-Ok-clause-lawful g c = c.traces_are_lawful.ensures.checks _ _ _ _ c.in-Ok.outcome c.in-Ok.ensures.checks

pub returns-in-Err-clause-lawful : goal.returns-in-Err-clause-lawful
returns-in-Err-clause-lawful g c = c.traces_are_lawful.ensures.checks _ _ _ _ _ c.in-Err.ensures.checks
