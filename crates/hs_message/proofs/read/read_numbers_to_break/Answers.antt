use Rattle.std.proofs.Common.{length}
use Rattle.std.proofs.lemmas.Result.{err_from_is_err_and}
use Rattle.cbor_items.specs.Front.{number_at}
use Rattle.hs_message.proofs.Loops.{break_is_missing, break_is_found, break_goes_on, break_stops, break_is_out}
use Rattle.hs_message.proofs.read.read_numbers_to_break.Goals as goal

pub returns-in_default : goal.returns-in_default
returns-in_default c =
    let count = length c.args.bytes.now in
    break_is_missing number_at count c.loop.counter c.loop.rest.now _ c.loop.numbers c.in_default.ensures.cases c.loop.invariant

pub returns-then-first : goal.returns-then-first
returns-then-first c =
    let count = length c.args.bytes.now in
    break_is_found number_at count c.loop.counter c.loop.rest.now _ c.loop.numbers c.in-Some.first.now c.in-Some.after.now
    c.loop-test.true c.in-Some.ensures.cases.0 c.if-first.true c.loop.invariant

pub returns-in_err-number : goal.returns-in_err-number
returns-in_err-number c =
    let count = length c.args.bytes.now in
    let p = err_from_is_err_and c.from_residual.result c.from_residual.ensures.1 in
    rw (p.1, p.2) (break_stops number_at count c.loop.counter c.loop.rest.now _ c.loop.numbers c.in-Some.first.now c.in-Some.after.now
    c.loop-test.true c.in-Some.ensures.cases.0 c.if-first.false c.in_err-number.ensures c.loop.invariant)

pub loop-preserved : goal.loop-preserved
loop-preserved c =
    let count = length c.args.bytes.now in
    rw c.in_ok-push.ensures.ok
    (break_goes_on number_at count c.loop.counter c.loop.rest.now _ c.loop.numbers c.in-Some.first.now c.in-Some.after.now c.in_ok-number.number c.in_ok-number.after.now
    c.loop-test.true c.in-Some.ensures.cases.0 c.if-first.false c.in_ok-number.ensures c.loop.invariant)

pub returns : goal.returns
returns c =
    let count = length c.args.bytes.now in
    break_is_out number_at count c.loop.counter c.loop.rest.now _ c.loop.numbers c.loop-test.false c.loop.invariant
