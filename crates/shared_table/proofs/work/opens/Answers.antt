use Rattle.std.proofs.Common.{arith}
use Rattle.shared_table.proofs.WorkLemmas.{asked_more}
use Rattle.shared_table.proofs.work.opens.Goals as goal

pub loop-init : goal.loop-init
loop-init g c = record { later = λ n. omega arith; asked = omega arith }

pub returns-then-ready-clause-later : goal.returns-then-ready-clause-later
returns-then-ready-clause-later g c = λ n. omega (arith, c.loop.invariant.later n, c.ready.ensures.later n)

pub loop-preserved : goal.loop-preserved
loop-preserved g c = record {
  later = λ n. omega (arith, c.loop.invariant.later n, c.ready.ensures.later n);
  asked = asked_more _ _ _ _ c.loop.invariant.asked (c.ready.ensures.no c.if-ready.false);
}

pub returns-clause-later : goal.returns-clause-later
returns-clause-later g c = c.loop.invariant.later

pub returns-clause-shut : goal.returns-clause-shut
returns-clause-shut g c = λ no. omega (arith, c.loop.invariant.asked)
