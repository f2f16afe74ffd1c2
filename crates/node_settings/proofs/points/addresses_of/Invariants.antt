use Rattle.std.proofs.Common.{◌≡◌}
use Rattle.node_settings.specs.Topology.{addresses_of}
use Rattle.node_settings.proofs.Rest.{with_addresses}
use Rattle.node_settings.proofs.points.addresses_of.Given as goal

abbrev pub invariant-loop-point : goal.invariant-loop-point
invariant-loop-point l = with_addresses l.addresses l.point-index l.points ≡ addresses_of l.points
