use Rattle.std.proofs.Common.{◌∙◌, rules}
use Rattle.std.proofs.Math.Logic.{∥∥₁_map}
use Rattle.net_base.specs.Limits.{IsWithinLimits}
use Rattle.network_sim.proofs.Runs.{has_gone_on}
use Rattle.network_sim.proofs.seat.Seat.take.Goals as goal

pub invariant_of-self-2 : goal.invariant_of-self-2
invariant_of-self-2 g c =
    let within : IsWithinLimits c.args.event.now = search rules in
    record {
      ran = ∥∥₁_map c.args.self.now.ran (λ run _. has_gone_on _ _ _ _ c.args.event.now c.as_slice.result.now _ _ within c.in_ok-actions.ensures.machine
          c.in_ok-actions.ensures.events (c.as_slice.ensures ∙ c.in_ok-actions.ensures.actions) c.in_ok-keep_on.ensures (run c.if-self.false));
    }
