use Rattle.std.proofs.Common.{ℕ, ◌-◌, ◌<◌, List, Bor, sym, arith}
use Rattle.std.proofs.lemmas.Result.{err_from_is_err_and}
use Rattle.cbor_items.specs.declared.level.Level.{Level}
use Rattle.cbor_items.specs.Scan.{skip_flat, skip_nested, skip_item}
use Rattle.cbor_items.proofs.Loops.{item_stops, item_is_too_deep}
use Rattle.cbor_items.proofs.Resumes.{begins_flat, begins_nested, begins_shorter}
use Rattle.cbor_items.proofs.opening.begin_item.Goals as goal

abbrev view : Level × Bor (List ℕ) → Level × List ℕ
view read = (read.0, read.1.now)

pub returns-in_err-initial-clause-begun : goal.returns-in_err-initial-clause-begun
returns-in_err-initial-clause-begun c =
    let p = err_from_is_err_and c.from_residual.result c.from_residual.ensures.1 in
    rw (p.1, p.2) (item_stops c.args.depth c.args.bytes.now c.in_err-initial.field-0.0 c.in_err-initial.ensures)

pub returns-then-not-is_nested-clause-begun : goal.returns-then-not-is_nested-clause-begun
returns-then-not-is_nested-clause-begun c =
    begins_flat c.args.depth c.args.bytes.now c.in_ok-initial.initial c.in_ok-initial.rest.now c.in_ok-initial.ensures view (skip_item (c.args.depth - 1))
    c.begin_flat.result (sym c.if-not-is_nested.ensures) (c.begin_flat.ensures (skip_item (c.args.depth - 1)))

pub returns-then-not-is_nested-clause-shorter : goal.returns-then-not-is_nested-clause-shorter
returns-then-not-is_nested-clause-shorter c =
    begins_shorter view (skip_flat c.in_ok-initial.initial) (skip_item 0) c.args.bytes.now c.in_ok-initial.rest.now c.in_ok-initial.initial c.begin_flat.result
    c.in_ok-initial.ensures (c.begin_flat.ensures (skip_item 0))

pub returns-in-None-clause-begun : goal.returns-in-None-clause-begun
returns-in-None-clause-begun c =
    let none : c.args.depth < 1 = omega (arith, c.in-None.ensures) in
    item_is_too_deep c.args.depth c.args.bytes.now c.in_ok-initial.initial c.in_ok-initial.rest.now c.in_ok-initial.ensures (sym c.if-not-is_nested.ensures) none

pub returns-in-Some-clause-begun : goal.returns-in-Some-clause-begun
returns-in-Some-clause-begun c =
    begins_nested c.args.depth c.args.bytes.now c.in_ok-initial.initial c.in_ok-initial.rest.now c.in_ok-initial.ensures view c.in-Some.inner
    c.begin_nested.result (sym c.if-not-is_nested.ensures) c.in-Some.ensures.0 c.in-Some.ensures.1 c.begin_nested.ensures

pub returns-in-Some-clause-shorter : goal.returns-in-Some-clause-shorter
returns-in-Some-clause-shorter c =
    begins_shorter view (skip_nested (skip_item c.in-Some.inner) c.in_ok-initial.initial) (skip_item c.in-Some.inner) c.args.bytes.now c.in_ok-initial.rest.now
    c.in_ok-initial.initial c.begin_nested.result c.in_ok-initial.ensures c.begin_nested.ensures
