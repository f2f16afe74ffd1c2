use Rattle.std.proofs.lemmas.Result.{err_from_is_err_and}
use Rattle.cbor_items.specs.Front.{number_at}
use Rattle.hs_message.proofs.Loops.{row_goes_on, row_stops, row_is_done}
use Rattle.hs_message.proofs.read.read_numbers.Goals as goal

pub returns-in_err-number : goal.returns-in_err-number
returns-in_err-number c =
    let p = err_from_is_err_and c.from_residual.result c.from_residual.ensures.1 in
    rw (p.1, p.2) (row_stops number_at c.args.count c.loop.counter c.loop.rest.now _ c.loop.numbers c.loop-test.true c.in_err-number.ensures c.loop.invariant)

pub loop-preserved : goal.loop-preserved
loop-preserved c = rw c.in_ok-push.ensures.ok
    (row_goes_on number_at c.args.count c.loop.counter c.loop.rest.now _ c.loop.numbers c.in_ok-number.number c.in_ok-number.after.now c.loop-test.true c.in_ok-number.ensures c.loop.invariant)

pub returns : goal.returns
returns c = row_is_done number_at c.args.count c.loop.counter c.loop.rest.now _ c.loop.numbers c.loop-test.false c.loop.invariant
