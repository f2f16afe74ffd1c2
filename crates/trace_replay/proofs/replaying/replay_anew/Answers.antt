use Rattle.std.proofs.lemmas.Result.{err_from_is_err_and}
use Rattle.trace_play.proofs.Runs.{no_memory}
use Rattle.trace_replay.proofs.replaying.replay_anew.Goals as goal

pub returns-in_err-new-2-clause-replays : goal.returns-in_err-new-2-clause-replays
returns-in_err-new-2-clause-replays g c =
    rw (err_from_is_err_and c.from_residual-in_err-new-2.result c.from_residual-in_err-new-2.ensures.1).1
    (no_memory (g.S.Source.left c.args.src.now) (g.K.Sink.taken c.args.out.now))
