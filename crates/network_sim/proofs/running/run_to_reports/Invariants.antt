use Rattle.std.proofs.Common.{◌≡◌}
use Rattle.network_sim.proofs.running.run_to_reports.Given as goal

abbrev pub invariant-loop : goal.invariant-loop
invariant-loop g l = g.K.Sink.faults l.out ≡ g.K.Sink.faults l.fn.out
