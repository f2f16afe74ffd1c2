use Rattle.std.proofs.Common.{◌≡◌, [], ◌∷◌}
use Rattle.serde_json.specs.View.{items_view}
use Rattle.node_settings.specs.Topology.{access_point, access_points}
use Rattle.node_settings.proofs.Rest.{lists, from_place}
use Rattle.node_settings.proofs.points.read_each.Given as goal

abbrev pub invariant-loop-value : goal.invariant-loop-value
invariant-loop-value l =
    from_place access_point (λ point points. point ∷ points) [] lists l.points l.value-index l.values ≡ access_points (items_view l.values)
