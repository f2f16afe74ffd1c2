use Rattle.std.proofs.Common.{◌≡◌, []}
use Rattle.serde_json.specs.View.{items_view}
use Rattle.node_settings.specs.Topology.{local_root, add_local, local_roots}
use Rattle.node_settings.proofs.Rest.{locals, from_place}
use Rattle.node_settings.proofs.roots.read_local_roots.Given as goal

abbrev pub invariant-loop-root : goal.invariant-loop-root
invariant-loop-root l =
    from_place local_root add_local ([], 0) locals (l.groups, l.unresolved) l.root-index l.roots ≡ local_roots (items_view l.roots)
