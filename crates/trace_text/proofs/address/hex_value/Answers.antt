use Rattle.std.proofs.Common.{sym, ◌∙◌, arith}
use Rattle.trace_text.specs.Addresses.{hex_digit}
use Rattle.trace_text.proofs.Reading.{read_on_more, read_on_stops, fits_more, small_more}
use Rattle.trace_text.proofs.address.hex_value.Goals as goal

pub overflow_mul-value : goal.overflow_mul-value
overflow_mul-value c =
    let room = fits_more 16 3 c.loop-digit.digit-index c.loop-digit.value (omega arith) (omega (arith, c.requires)) c.loop-digit.invariant.small in
    omega arith

pub overflow_add-value : goal.overflow_add-value
overflow_add-value c =
    let room = fits_more 16 3 c.loop-digit.digit-index c.loop-digit.value (omega arith) (omega (arith, c.requires)) c.loop-digit.invariant.small in
    omega (arith, c.in_ok-value.ensures.within)

pub returns-in_err-value : goal.returns-in_err-value
returns-in_err-value c =
    let l = c.loop-digit in
    let stops = read_on_stops 16 hex_digit l.value c.args.digits.now l.digit-index 0 c.loop-digit-test.true (sym c.in_err-value.ensures.value) in
    c.from_residual.ensures ∙ sym stops ∙ l.invariant.same

pub loop-digit-preserved : goal.loop-digit-preserved
loop-digit-preserved c =
    let l = c.loop-digit in
    let more = read_on_more 16 hex_digit l.value c.in_ok-value.field-0 c.args.digits.now l.digit-index 0 c.loop-digit-test.true (sym c.in_ok-value.ensures.value) in
    record { same = sym more ∙ l.invariant.same; small = small_more 16 l.digit-index l.value c.in_ok-value.field-0 l.invariant.small c.in_ok-value.ensures.within }
