use Rattle.command_run.proofs.CommandLemmas.{obeyed-replay, obeyed-check}
use Rattle.command_run.proofs.running.obey.Goals as goal

pub returns-in-Replay-clause-runs : goal.returns-in-Replay-clause-runs
returns-in-Replay-clause-runs g c =
    obeyed-replay _ _ _ c.args.command c.in-Replay.is
    (record {
      outcome = c.replay.result;
      told = c.of_outcome.ensures;
      replays = c.replay.ensures.lawful.replays;
      lawful = c.replay.ensures.lawful.lawful;
      reads = c.replay.ensures.reads;
      writes = c.replay.ensures.writes;
    })

pub returns-in-Check-clause-runs : goal.returns-in-Check-clause-runs
returns-in-Check-clause-runs g c =
    obeyed-check _ _ _ c.args.command c.in-Check.is
    (record {
      outcome = c.check.result;
      told = c.of_outcome-in-Check.ensures;
      checks = c.check.ensures.lawful.checks;
      lawful = c.check.ensures.lawful.lawful;
      reads = c.check.ensures.reads;
      writes = c.check.ensures.writes;
    })
