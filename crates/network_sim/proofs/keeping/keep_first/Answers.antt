use Rattle.network_sim.proofs.Runs.{kept_first}
use Rattle.network_sim.proofs.keeping.keep_first.Goals as goal

pub returns : goal.returns
returns c = kept_first _ _ c.requires c.hold_address.ensures c.in_ok-head.ensures c.in_ok-lines.ensures
