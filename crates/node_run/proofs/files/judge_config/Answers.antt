use Rattle.std.proofs.Common.{ap}
use Rattle.node_run.specs.Files.{what_of_config, judged_by}
use Rattle.node_settings.proofs.Accepted.{accepted_config}
use Rattle.node_run.proofs.Judging.{config_verdict}
use Rattle.node_run.proofs.files.judge_config.Goals as goal

pub returns-in-Ok-clause-judged : goal.returns-in-Ok-clause-judged
returns-in-Ok-clause-judged c = ap (judged_by what_of_config) (rw c.in-Ok.is at c.read_config.ensures)

pub returns-in-Ok-clause-can_run : goal.returns-in-Ok-clause-can_run
returns-in-Ok-clause-can_run c = accepted_config c.args.bytes.now _ (rw c.in-Ok.is at c.read_config.ensures)

pub returns-in-Err-clause-judged : goal.returns-in-Err-clause-judged
returns-in-Err-clause-judged c = rw c.config_refused.ensures (config_verdict c.args.bytes.now c.in-Err.refusal (rw c.in-Err.is at c.read_config.ensures))
