use Rattle.std.proofs.Common.{Ok, Err, inl, inr}
use Rattle.std.proofs.lemmas.Result.{err_from_is_err_and}
use Rattle.node_run.specs.Files.{topology_judged}
use Rattle.tool_status.specs.declared.status.Which.TheVariants.{Topo}
use Rattle.node_run.proofs.Judging.{read_from}
use Rattle.node_run.proofs.files.read_files.Goals as goal

pub returns-in_err-config-clause-judged : goal.returns-in_err-config-clause-judged
returns-in_err-config-clause-judged g c =
    let p = err_from_is_err_and c.from_residual.result c.from_residual.ensures.1 in
    rw (p.1, p.2) (inl c.in_err-config.ensures.read)

pub returns-in_err-topology-clause-judged : goal.returns-in_err-topology-clause-judged
returns-in_err-topology-clause-judged g c =
    let p = err_from_is_err_and c.from_residual-in_err-topology.result c.from_residual-in_err-topology.ensures.1 in
    rw (p.1, p.2)
    (inr (
      c.in_ok-config.config,
      g.H.Shelf.readings c.read_conf.new.shelf,
      c.in_ok-config.ensures.read,
      read_from Topo topology_judged _ _ _ _ _ (Err _) (c.read_conf.ensures.kept c.args.asked.topo.now) c.in_err-topology.ensures.read,
    ))

pub returns-clause-judged : goal.returns-clause-judged
returns-clause-judged g c = (
  g.H.Shelf.readings c.read_conf.new.shelf,
  c.in_ok-config.ensures.read,
  read_from Topo topology_judged _ _ _ _ _ (Ok c.in_ok-topology.topology) (c.read_conf.ensures.kept c.args.asked.topo.now) c.in_ok-topology.ensures.read,
)
