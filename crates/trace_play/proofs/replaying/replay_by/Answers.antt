use Rattle.trace_play.proofs.Runs.{replays_run}
use Rattle.trace_play.proofs.replaying.replay_by.Goals as goal

pub returns-clause-replays : goal.returns-clause-replays
returns-clause-replays g c = rw (c.from.ensures) (replays_run _ _ _ _ c.run_lines.result (rw c.new-playback.ensures at c.run_lines.ensures.runs))
