use Rattle.trace_replay.proofs.replaying.replay.Goals as goal

pub returns-in-Ok-clause-lawful : goal.returns-in-Ok-clause-lawful
returns-in-Ok-clause-lawful g c = c.traces_are_lawful.ensures.replays _ _ _ _ c.in-Ok.outcome c.in-Ok.ensures.replays

pub returns-in-Err-clause-lawful : goal.returns-in-Err-clause-lawful
returns-in-Err-clause-lawful g c = c.traces_are_lawful.ensures.replays _ _ _ _ _ c.in-Err.ensures.replays
