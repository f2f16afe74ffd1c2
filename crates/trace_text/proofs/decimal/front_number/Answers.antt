use Rattle.std.proofs.Common.{arith}
use Rattle.trace_text.proofs.Reading.{fits_more}
use Rattle.trace_text.proofs.decimal.front_number.Goals as goal

pub overflow_mul-value : goal.overflow_mul-value
overflow_mul-value c =
    let room = fits_more 10 18 c.loop-i.i c.loop-i.value (omega arith) (omega (arith, c.min-count.ensures)) c.loop-i.invariant.small in
    omega arith

pub overflow_add-value : goal.overflow_add-value
overflow_add-value c =
    let room = fits_more 10 18 c.loop-i.i c.loop-i.value (omega arith) (omega (arith, c.min-count.ensures)) c.loop-i.invariant.small in
    omega arith
