use Rattle.std.proofs.Common.{refl, ◌∙◌}
use Rattle.mux_segment.proofs.PackedLists.{copied_more, copied_all}
use Rattle.mux_segment.proofs.packed.copied.Goals as goal

pub loop-head-preserved : goal.loop-head-preserved
loop-head-preserved c =
    rw c.in_ok-push.ensures.ok (copied_more c.args.bodies.now c.args.heads.now c.loop-head.items c.loop-head.head-index _ _ _ _ c.loop-head-test.true refl
    (c.in_ok-owned.ensures ∙ c.lent_by.ensures) c.loop-head.invariant)

pub returns : goal.returns
returns c = copied_all c.args.bodies.now c.args.heads.now _ _ _ c.loop-head-test.false c.loop-head.invariant
