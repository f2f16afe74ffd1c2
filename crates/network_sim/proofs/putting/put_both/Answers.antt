use Rattle.network_sim.proofs.Runs.{takes_both}
use Rattle.network_sim.proofs.putting.put_both.Goals as goal

pub returns-clause-taken : goal.returns-clause-taken
returns-clause-taken g c = takes_both _ _ _ _ _ _ c.in_ok-put_all.ensures.whole c.put.ensures.front c.in_ok-put.ensures.whole
