use Rattle.std.proofs.Common.{◌<◌, length, arith}
use Rattle.net_base.proofs.NumberLemmas.{stops_at}
use Rattle.net_base.proofs.number.digits_value.Goals as goal

pub returns-in-None : goal.returns-in-None
returns-in-None c =
    let inside : c.loop-digit.digit-index < length c.args.digits.now = omega arith in
    stops_at c.args.most c.loop-digit.value c.args.digits.now c.loop-digit.digit-index inside
    c.loop-digit.invariant.same c.in-None.ensures.none
