use Rattle.std.proofs.Common.{ℕ, Ok, ap, ◌∙◌, arith}
use Rattle.std.proofs.lemmas.Result.{err_from_is_err_and}
use Rattle.mux_segment.proofs.Takes.{next_again, next_item_is, taking_goes_on, taking_smaller, taking_ends, taking_adds}
use Rattle.mux_segment.proofs.bodies.take_items.Goals as goal

pub returns-in_err-size-clause-items : goal.returns-in_err-size-clause-items
returns-in_err-size-clause-items c =
    let p = err_from_is_err_and c.from_residual.result c.from_residual.ensures.1 in
    rw (p.1, p.2) (taking_adds c.args.limit c.args.side c.args.id c.args.items.now c.args.part.now ℕ c.loop-size.items c.loop-size.rest.now c.loop-size.scan c.in_err-size.field-0.0
    c.loop-size.invariant.scanned c.in_err-size.ensures c.loop-size.invariant.taking)

pub split_at-requires : goal.split_at-requires
split_at-requires c = (next_item_is c.args.limit c.loop-size.rest.now c.in-Some.size (next_again c.args.limit c.loop-size.rest.now c.loop-size.scan _ c.loop-size.invariant.scanned (c.in_ok-size.ensures ∙ ap Ok c.in-Some.is))).within

pub loop-size-smaller : goal.loop-size-smaller
loop-size-smaller c =
    taking_smaller c.args.limit c.args.side c.args.id c.args.items.now c.args.part.now c.loop-size.rest.now c.split_at.result.1.now c.in-Some.size
    (next_again c.args.limit c.loop-size.rest.now c.loop-size.scan _ c.loop-size.invariant.scanned (c.in_ok-size.ensures ∙ ap Ok c.in-Some.is)) c.split_at.ensures.back

pub loop-size-preserved : goal.loop-size-preserved
loop-size-preserved c =
    record {
      scanned = c.first_item-scan.ensures.scan;
      taking = rw c.in_ok-push.ensures
          (taking_goes_on c.args.limit c.args.side c.args.id c.args.items.now c.args.part.now c.loop-size.items c.loop-size.rest.now c.split_at.result.1.now _ c.in-Some.size
          (next_again c.args.limit c.loop-size.rest.now c.loop-size.scan _ c.loop-size.invariant.scanned (c.in_ok-size.ensures ∙ ap Ok c.in-Some.is)) c.split_at.ensures.front c.split_at.ensures.back c.loop-size.invariant.taking);
    }

pub returns-clause-items : goal.returns-clause-items
returns-clause-items c =
    let e = taking_ends c.args.limit c.args.side c.args.id c.args.items.now c.args.part.now c.loop-size.items c.loop-size.rest.now
    (next_again c.args.limit c.loop-size.rest.now c.loop-size.scan _ c.loop-size.invariant.scanned (c.in_ok-size.ensures ∙ ap Ok c.in_default.is)) c.loop-size.invariant.taking in
    (e.0, e.1)

pub returns-clause-left : goal.returns-clause-left
returns-clause-left c =
    let e = taking_ends c.args.limit c.args.side c.args.id c.args.items.now c.args.part.now c.loop-size.items c.loop-size.rest.now
    (next_again c.args.limit c.loop-size.rest.now c.loop-size.scan _ c.loop-size.invariant.scanned (c.in_ok-size.ensures ∙ ap Ok c.in_default.is)) c.loop-size.invariant.taking in
    (omega arith, e.2)
