use Rattle.std.proofs.lemmas.Result.{err_from_is_err_and}
use Rattle.hs_message.specs.Reading.{known_in, offer_at}
use Rattle.hs_message.proofs.Loops.{row_goes_on, row_stops, row_is_done}
use Rattle.hs_message.proofs.read.read_offers.Goals as goal

pub returns-in_err-offer : goal.returns-in_err-offer
returns-in_err-offer c =
    let p = err_from_is_err_and c.from_residual.result c.from_residual.ensures.1 in
    rw (p.1, p.2) (row_stops (offer_at (known_in c.args.profile)) c.args.count c.loop.counter c.loop.rest.now _ c.loop.table c.loop-test.true c.in_err-offer.ensures c.loop.invariant)

pub loop-preserved : goal.loop-preserved
loop-preserved c = rw c.in_ok-push.ensures.ok
    (row_goes_on (offer_at (known_in c.args.profile)) c.args.count c.loop.counter c.loop.rest.now _ c.loop.table c.in_ok-offer.offer c.in_ok-offer.after.now c.loop-test.true c.in_ok-offer.ensures c.loop.invariant)

pub returns : goal.returns
returns c = row_is_done (offer_at (known_in c.args.profile)) c.args.count c.loop.counter c.loop.rest.now _ c.loop.table c.loop-test.false c.loop.invariant
