use Rattle.std.proofs.Common.{◌≤◌, refl, arith}
use Rattle.std.proofs.Math.Logic.{∥∥₁_map}
use Rattle.network_sim.proofs.Runs.{has_agreed}
use Rattle.network_sim.proofs.seat.Seat.into_trace.Goals as goal

pub keep_whole-requires : goal.keep_whole-requires
keep_whole-requires g c =
    let few : g.S.Stepper.events c.args.self.stepper ≤ 1000000 = omega (arith, c.taken.ensures, c.if-taken-gt-EVENTS_MOST.false) in
    ∥∥₁_map c.args.self.ran (λ run. has_agreed _ _ c.in-Some.kept _ few refl (rw c.in-Some.is at (run c.if-is_lost.false)))
