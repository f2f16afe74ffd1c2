use Rattle.pick_policy.specs.Least.{least_by}
use Rattle.pick_policy.proofs.Picking.{addresses-scored, least-scored}
use Rattle.pick_policy.proofs.picker.Picker.pick.Goals as goal

pub returns-then-k-eq0 : goal.returns-then-k-eq0
unfolding least_by
returns-then-k-eq0 g c = rw (c.if-k-eq0.true) c.new.ensures

pub least-requires : goal.least-requires
least-requires g c =
    rw (c.deref_mut.ensures.value, c.in_ok-scored.ensures, addresses-scored) c.requires

pub returns : goal.returns
returns g c = rw (← least-scored c.args.k c.args.word c.args.cands.now, ← c.in_ok-scored.ensures, ← c.deref_mut.ensures.value) c.least.ensures
