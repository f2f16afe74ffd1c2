use Rattle.std.proofs.Common.{All, take}
use Rattle.net_base.specs.Limits.{HasValencies}
use Rattle.network_sim.proofs.fits.have_valencies.Given as goal

abbrev pub invariant-loop-group : goal.invariant-loop-group
invariant-loop-group l = All HasValencies (take l.group-index l.groups)
