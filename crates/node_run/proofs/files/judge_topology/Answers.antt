use Rattle.std.proofs.Common.{ap}
use Rattle.node_run.specs.Files.{what_of_topology, judged_by}
use Rattle.node_settings.proofs.Accepted.{accepted_topology}
use Rattle.node_run.proofs.Judging.{topology_verdict}
use Rattle.node_run.proofs.files.judge_topology.Goals as goal

pub returns-in-Ok-clause-judged : goal.returns-in-Ok-clause-judged
returns-in-Ok-clause-judged c = ap (judged_by what_of_topology) (rw c.in-Ok.is at c.read_topology.ensures)

pub returns-in-Ok-clause-valencies : goal.returns-in-Ok-clause-valencies
returns-in-Ok-clause-valencies c = accepted_topology c.args.bytes.now _ (rw c.in-Ok.is at c.read_topology.ensures)

pub returns-in-Err-clause-judged : goal.returns-in-Err-clause-judged
returns-in-Err-clause-judged c = rw c.topology_refused.ensures (topology_verdict c.args.bytes.now c.in-Err.refusal (rw c.in-Err.is at c.read_topology.ensures))
