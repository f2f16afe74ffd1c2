use Rattle.std.proofs.Common.{◌≡◌, []}
use Rattle.serde_json.specs.View.{items_view}
use Rattle.node_settings.specs.Topology.{public_root, add_public, public_roots}
use Rattle.node_settings.proofs.Rest.{publics, from_place}
use Rattle.node_settings.proofs.roots.read_public_roots.Given as goal

abbrev pub invariant-loop-root : goal.invariant-loop-root
invariant-loop-root l =
    from_place public_root add_public ([], 0) publics (l.addresses, l.unresolved) l.root-index l.roots ≡ public_roots (items_view l.roots)
