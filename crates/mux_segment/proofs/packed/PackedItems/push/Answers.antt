use Rattle.std.proofs.Common.{arith}
use Rattle.mux_segment.proofs.PackedLists.{packed_pushed}
use Rattle.mux_segment.proofs.packed.PackedItems.push.Goals as goal

pub returns : goal.returns
returns c =
    let old = c.self.inside in
    rw (← c.self.view_is, c.in_ok-push.ensures.items, c.in_ok-extend_from_slice.ensures.items)
    (packed_pushed old.bodies.items c.args.body.now old.heads.items c.args.side c.args.id c.len.result (omega (arith, c.len.ensures, old.bodies.ok.0)) c.self.invariant)
