use Rattle.std.proofs.Common.{rules}
use Rattle.std.proofs.lemmas.Grind.{merely}
use Rattle.net_base.specs.Bounds.{AreSound}
use Rattle.network_sim.proofs.Runs.{has_begun}
use Rattle.network_sim.proofs.seat.Seat.begin.Goals as goal

pub invariant_of-result : goal.invariant_of-result
invariant_of-result g c =
    let sound : AreSound c.args.settings = search rules in
    record { ran = merely (λ _. has_begun c.args.settings _ _ _ sound c.in_ok-stepper.ensures.machine c.in_ok-stepper.ensures.events c.in_ok-kept.ensures) }
