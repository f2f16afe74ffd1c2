use Rattle.std.proofs.Common.{◌<◌, length, refl, sym, ap, ◌∙◌, arith}
use Rattle.std.proofs.lemmas.Result.{err_from_is_err_and}
use Rattle.cbor_items.specs.Scan.{skip_item}
use Rattle.cbor_items.specs.Element.{element_of}
use Rattle.cbor_items.proofs.Loops.{row_goes_on, row_stops, row_is_done, break_is_missing, break_is_found, break_goes_on, break_stops, break_is_out, item_stops, item_is_flat, item_is_nested, item_is_too_deep}
use Rattle.cbor_items.proofs.Small.{first_is_passed}
use Rattle.cbor_items.proofs.item.+item.Goals as goal

pub skip_elements-returns-in_err-rest : goal.skip_elements-returns-in_err-rest
skip_elements-returns-in_err-rest t c =
    let p = err_from_is_err_and c.from_residual.result c.from_residual.ensures.1 in
    rw (p.1, p.2) (row_stops (element_of (skip_item c.args.inner) c.args.element) c.args.count c.loop.counter c.loop.rest.now _ c.in_err-rest.field-0.0
    c.loop-test.true c.in_err-rest.ensures c.loop.invariant)

pub skip_elements-loop-preserved : goal.skip_elements-loop-preserved
skip_elements-loop-preserved t c =
    row_goes_on (element_of (skip_item c.args.inner) c.args.element) c.args.count c.loop.counter c.loop.rest.now _ c.in_ok-rest.rest.now
    c.loop-test.true c.in_ok-rest.ensures c.loop.invariant

pub skip_elements-returns : goal.skip_elements-returns
skip_elements-returns t c =
    row_is_done (element_of (skip_item c.args.inner) c.args.element) c.args.count c.loop.counter c.loop.rest.now _ c.loop-test.false c.loop.invariant

pub skip_elements_to_break-returns-in_err-after : goal.skip_elements_to_break-returns-in_err-after
skip_elements_to_break-returns-in_err-after t c =
    let bytes = c.args.bytes.now in
    let p = err_from_is_err_and c.from_residual.result c.from_residual.ensures.1 in
    rw (p.1, p.2, c.in_err-after.ensures.1) (break_is_missing (element_of (skip_item c.args.inner) c.args.element) (length bytes) c.loop.counter c.loop.rest.now _
    (ap length c.in_err-after.ensures.0) c.loop.invariant)

pub skip_elements_to_break-returns-in-Some : goal.skip_elements_to_break-returns-in-Some
skip_elements_to_break-returns-in-Some t c =
    let bytes = c.args.bytes.now in
    break_is_found (element_of (skip_item c.args.inner) c.args.element) (length bytes) c.loop.counter c.loop.rest.now _ 255 c.in-Some.after.now
    c.loop-test.true (rw c.in-Some.is at c.in_ok-after.ensures) refl c.loop.invariant

pub skip_elements_to_break-returns-in_err-rest-in-None : goal.skip_elements_to_break-returns-in_err-rest-in-None
skip_elements_to_break-returns-in_err-rest-in-None t c =
    let bytes = c.args.bytes.now in
    let p = err_from_is_err_and c.from_residual-in_err-rest-in-None.result c.from_residual-in_err-rest-in-None.ensures.1 in
    let other = rw c.in-None.is at c.in_ok-after.ensures in
    rw (p.1, p.2) (break_stops (element_of (skip_item c.args.inner) c.args.element) (length bytes) c.loop.counter c.loop.rest.now _ other.first other.rest
    c.in_err-rest-in-None.field-0.0 c.loop-test.true other.joined other.no_break c.in_err-rest-in-None.ensures c.loop.invariant)

pub skip_elements_to_break-loop-preserved : goal.skip_elements_to_break-loop-preserved
skip_elements_to_break-loop-preserved t c =
    let bytes = c.args.bytes.now in
    let other = rw c.in-None.is at c.in_ok-after.ensures in
    break_goes_on (element_of (skip_item c.args.inner) c.args.element) (length bytes) c.loop.counter c.loop.rest.now _ other.first other.rest
    c.in_ok-rest-in-None.rest.now c.loop-test.true other.joined other.no_break c.in_ok-rest-in-None.ensures c.loop.invariant

pub skip_elements_to_break-returns : goal.skip_elements_to_break-returns
skip_elements_to_break-returns t c =
    let bytes = c.args.bytes.now in
    break_is_out (element_of (skip_item c.args.inner) c.args.element) (length bytes) c.loop.counter c.loop.rest.now _ c.loop-test.false c.loop.invariant

pub skip_item-returns-in_err-initial : goal.skip_item-returns-in_err-initial
skip_item-returns-in_err-initial t c =
    let p = err_from_is_err_and c.from_residual.result c.from_residual.ensures.1 in
    rw (p.1, p.2) (item_stops c.args.depth c.args.bytes.now c.in_err-initial.field-0.0 c.in_err-initial.ensures)

pub skip_item-returns-then-not-is_nested : goal.skip_item-returns-then-not-is_nested
skip_item-returns-then-not-is_nested t c =
    rw (item_is_flat c.args.depth c.args.bytes.now c.in_ok-initial.initial c.in_ok-initial.rest.now c.in_ok-initial.ensures (sym c.if-not-is_nested.ensures)) c.skip_flat.ensures

pub skip_item-returns-in-None : goal.skip_item-returns-in-None
skip_item-returns-in-None t c =
    let none : c.args.depth < 1 = omega (arith, c.in-None.ensures) in
    item_is_too_deep c.args.depth c.args.bytes.now c.in_ok-initial.initial c.in_ok-initial.rest.now c.in_ok-initial.ensures (sym c.if-not-is_nested.ensures) none

pub skip_item-returns-in-Some : goal.skip_item-returns-in-Some
skip_item-returns-in-Some t c =
    rw (item_is_nested c.args.depth c.args.bytes.now c.in_ok-initial.initial c.in_ok-initial.rest.now c.in-Some.inner c.in_ok-initial.ensures (sym c.if-not-is_nested.ensures) c.in-Some.ensures.0 c.in-Some.ensures.1) c.skip_nested.ensures

pub skip_held-returns-in-len1-up : goal.skip_held-returns-in-len1-up
skip_held-returns-in-len1-up t c =
    first_is_passed c.args.depth c.args.bytes.now c.in-len1-up.len_at_least (sym c.is_small.ensures ∙ c.if-is_small.true)
