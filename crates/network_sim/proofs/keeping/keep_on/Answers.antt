use Rattle.std.proofs.Common.{subst}
use Rattle.network_sim.proofs.Runs.{kept_on}
use Rattle.network_sim.specs.Seat.{IsKept}
use Rattle.network_sim.proofs.keeping.keep_on.Goals as goal

pub returns-in_ok-tell-in-Some : goal.returns-in_ok-tell-in-Some
returns-in_ok-tell-in-Some c = λ s events within acts told.
    kept_on s events c.args.event.now c.args.actions.now c.in-Some.kept c.tell.new.kept within c.in_ok-tell-in-Some.ensures.traceable acts c.tell.ensures.head
    c.in_ok-tell-in-Some.ensures.lines (subst (IsKept s events) c.in-Some.is told)
