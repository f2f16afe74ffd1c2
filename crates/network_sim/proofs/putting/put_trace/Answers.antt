use Rattle.std.proofs.Math.Logic.{∥∥₁_map}
use Rattle.network_sim.proofs.Runs.{takes_agreeing}
use Rattle.network_sim.proofs.putting.put_trace.Goals as goal

pub returns-in-Ok-clause-agrees : goal.returns-in-Ok-clause-agrees
returns-in-Ok-clause-agrees g c = λ done. ∥∥₁_map c.args.trace.agrees (takes_agreeing _ _ c.args.trace.head c.args.trace.lines (rw c.as_slice.ensures at c.in-Ok.ensures.taken))
