use Rattle.std.proofs.Common.{Err, refl}
use Rattle.node_run.specs.Files.{topology_judged}
use Rattle.tool_status.specs.declared.status.Which.TheVariants.{Topo}
use Rattle.node_run.proofs.Judging.{verdict_read}
use Rattle.node_run.proofs.files.read_topo.Goals as goal

pub returns-in-Ok-clause-read : goal.returns-in-Ok-clause-read
returns-in-Ok-clause-read g c =
    verdict_read Topo topology_judged _ _ _ _ c.in-Ok.bytes c.as_slice.result.now c.judge_topology.result c.in-Ok.ensures.made c.in-Ok.ensures.reading c.as_slice.ensures c.judge_topology.ensures.judged

pub returns-in-Err-clause-read : goal.returns-in-Err-clause-read
returns-in-Err-clause-read g c = record {
  answer = Err c.in-Err.refusal;
  made = c.in-Err.ensures.made;
  read = c.in-Err.ensures.reading;
  judged = rw c.unread.ensures refl;
}
