use Rattle.std.proofs.Common.{arith}
use Rattle.trace_text.proofs.Reading.{fits_more}
use Rattle.trace_text.proofs.address.read_groups.Goals as goal

pub overflow_mul-ip : goal.overflow_mul-ip
overflow_mul-ip c =
    let room = fits_more 65536 7 c.loop.counter c.loop.ip (omega arith) (omega arith) c.loop.invariant.small in
    omega arith

pub overflow_add-ip : goal.overflow_add-ip
overflow_add-ip c =
    let room = fits_more 65536 7 c.loop.counter c.loop.ip (omega arith) (omega arith) c.loop.invariant.small in
    omega arith
