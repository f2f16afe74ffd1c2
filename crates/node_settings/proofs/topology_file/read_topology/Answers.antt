use Rattle.std.proofs.Common.{Result, Err, sym, subst, ⊎_elim}
use Rattle.serde_json.specs.View.{view}
use Rattle.node_settings.specs.declared.topology.Topology.{Topology}
use Rattle.node_settings.specs.declared.topology_refusal.TopologyRefusal.{TopologyRefusal}
use Rattle.node_settings.specs.Topology.{topology_of, IsTopologyOr}
use Rattle.node_settings.proofs.Documents.{topology_of-document, topology_of-none}
use Rattle.node_settings.proofs.topology_file.read_topology.Goals as goal

pub returns-in-Ok : goal.returns-in-Ok
returns-in-Ok c =
    let bytes = c.args.bytes.now in
    let is = topology_of-document bytes (view c.in-Ok.document) c.in-Ok.ensures.ok.0 c.in-Ok.ensures.ok.1 in
    subst (λ (wanted : Result Topology TopologyRefusal). IsTopologyOr wanted c.read_document.result) (sym is) c.read_document.ensures

pub returns-in-Err : goal.returns-in-Err
returns-in-Err c =
    let bytes = c.args.bytes.now in
    let told : TopologyRefusal → Type 0 = λ refusal. IsTopologyOr (topology_of bytes) (Err refusal) in
    ⊎_elim
    (λ memory. subst told (sym memory.0) tt)
    (λ json. subst told (sym json.0) (topology_of-none bytes (c.in-Err.ensures.err json.1)))
    c.refusal_of.ensures
