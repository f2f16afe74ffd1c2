use Rattle.std.proofs.Common.{ℕ, List, map}
use Rattle.std.proofs.lemmas.Result.{err_from_is_err_and}
use Rattle.mux_segment.specs.Items.{taken_of}
use Rattle.mux_segment.specs.Stream.{item_of}
use Rattle.mux_segment.proofs.Takes.{adds_any}
use Rattle.mux_segment.proofs.bodies.take_alone.Goals as goal

pub returns-in_err-count-clause-items : goal.returns-in_err-count-clause-items
returns-in_err-count-clause-items c =
    let p = err_from_is_err_and c.from_residual.result c.from_residual.ensures.1 in
    let t = taken_of c.args.limit c.args.payload.now in
    rw (p.1, p.2) (adds_any ℕ (List ℕ) c.in_err-count.field-0.0 c.args.items.now c.take_items.new.items (map (item_of c.args.side c.args.id) t.bodies) t.fault
    c.in_err-count.ensures.items)
