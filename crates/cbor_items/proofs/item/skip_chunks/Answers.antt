use Rattle.std.proofs.Common.{length, refl, ap}
use Rattle.std.proofs.lemmas.Result.{err_from_is_err_and}
use Rattle.cbor_items.specs.Scan.{skip_chunk}
use Rattle.cbor_items.proofs.Loops.{break_is_missing, break_is_found, break_goes_on, break_stops, break_is_out}
use Rattle.cbor_items.proofs.item.skip_chunks.Goals as goal

pub returns-in_err-after : goal.returns-in_err-after
returns-in_err-after c =
    let bytes = c.args.bytes.now in
    let p = err_from_is_err_and c.from_residual.result c.from_residual.ensures.1 in
    rw (p.1, p.2, c.in_err-after.ensures.1) (break_is_missing (skip_chunk c.args.major) (length bytes) c.loop.counter c.loop.rest.now _ (ap length c.in_err-after.ensures.0) c.loop.invariant)

pub returns-in-Some : goal.returns-in-Some
returns-in-Some c =
    let bytes = c.args.bytes.now in
    break_is_found (skip_chunk c.args.major) (length bytes) c.loop.counter c.loop.rest.now _ 255 c.in-Some.after.now c.loop-test.true (rw c.in-Some.is at c.in_ok-after.ensures) refl c.loop.invariant

pub returns-in_err-rest-in-None : goal.returns-in_err-rest-in-None
returns-in_err-rest-in-None c =
    let bytes = c.args.bytes.now in
    let p = err_from_is_err_and c.from_residual-in_err-rest-in-None.result c.from_residual-in_err-rest-in-None.ensures.1 in
    let other = rw c.in-None.is at c.in_ok-after.ensures in
    rw (p.1, p.2) (break_stops (skip_chunk c.args.major) (length bytes) c.loop.counter c.loop.rest.now _ other.first other.rest c.in_err-rest-in-None.field-0.0
    c.loop-test.true other.joined other.no_break c.in_err-rest-in-None.ensures c.loop.invariant)

pub loop-preserved : goal.loop-preserved
loop-preserved c =
    let bytes = c.args.bytes.now in
    let other = rw c.in-None.is at c.in_ok-after.ensures in
    break_goes_on (skip_chunk c.args.major) (length bytes) c.loop.counter c.loop.rest.now _ other.first other.rest c.in_ok-rest-in-None.rest.now
    c.loop-test.true other.joined other.no_break c.in_ok-rest-in-None.ensures c.loop.invariant

pub returns : goal.returns
returns c =
    let bytes = c.args.bytes.now in
    break_is_out (skip_chunk c.args.major) (length bytes) c.loop.counter c.loop.rest.now _ c.loop-test.false c.loop.invariant
