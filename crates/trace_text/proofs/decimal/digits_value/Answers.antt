use Rattle.std.proofs.Common.{arith}
use Rattle.trace_text.proofs.Reading.{fits_more}
use Rattle.trace_text.proofs.decimal.digits_value.Goals as goal

pub overflow_mul-value : goal.overflow_mul-value
overflow_mul-value c =
    let room = fits_more 10 18 c.loop-digit.digit-index c.loop-digit.value (omega arith) (omega (arith, c.requires)) c.loop-digit.invariant.small in
    omega arith

pub overflow_add-value : goal.overflow_add-value
overflow_add-value c =
    let room = fits_more 10 18 c.loop-digit.digit-index c.loop-digit.value (omega arith) (omega (arith, c.requires)) c.loop-digit.invariant.small in
    omega arith
