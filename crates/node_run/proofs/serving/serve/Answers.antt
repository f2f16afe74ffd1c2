use Rattle.std.proofs.Common.{Ok}
use Rattle.node_run.proofs.serving.serve.Goals as goal

pub returns-in-Ok-clause-runs : goal.returns-in-Ok-clause-runs
returns-in-Ok-clause-runs g c = record {
  files = Ok (c.in-Ok.config, c.in-Ok.topology);
  judged = c.in-Ok.ensures.judged;
  comes = (c.serve_files.ensures.serves, c.serve_files.ensures.said);
}
