use Rattle.std.proofs.Common.{All, subst, take_all, arith}
use Rattle.std.proofs.lemmas.List.Elements.{All-more}
use Rattle.net_base.specs.Limits.{HasValencies}
use Rattle.network_sim.proofs.fits.have_valencies.Goals as goal

pub loop-group-preserved : goal.loop-group-preserved
loop-group-preserved c =
    All-more HasValencies c.args.groups.now c.loop-group.group-index c.group-item.result c.loop-group-test.true c.loop-group.invariant
    (subst HasValencies c.group-item.is (c.if-group-gt10000.false, c.if-group-gt10000-2.false))

pub returns-clause-only : goal.returns-clause-only
returns-clause-only c = λ _. subst (All HasValencies) (take_all c.loop-group.group-index c.args.groups.now (omega arith)) c.loop-group.invariant
