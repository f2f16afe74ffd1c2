use Rattle.pick_policy.specs.Least.{least_by}
use Rattle.pick_policy.proofs.Picking.{addresses-ranked, least-ranked}
use Rattle.pick_policy.proofs.ranked_picker.RankedPicker.pick.Goals as goal

pub returns-then-k-eq0 : goal.returns-then-k-eq0
unfolding least_by
returns-then-k-eq0 g c = rw (c.if-k-eq0.true) c.new.ensures

pub least-requires : goal.least-requires
least-requires g c =
    rw (c.deref_mut.ensures.value, c.in_ok-scored.ensures, addresses-ranked) c.requires

pub returns : goal.returns
returns g c = rw (← least-ranked c.args.k c.args.word c.args.cands.now, ← c.in_ok-scored.ensures, ← c.deref_mut.ensures.value) c.least.ensures
