use Rattle.std.proofs.Common.{ℕ, ◌+◌, ◌-◌, ◌≤◌, ◌^◌, min}
use Rattle.shared_table.proofs.work.opens.Given as goal

abbrev pub invariant-loop : goal.invariant-loop
invariant-loop g l = record {
  later : (n : ℕ) → g.G.Gate.noes l.fn.gate n ≤ g.G.Gate.noes l.gate n;
  asked : min (g.G.Gate.noes l.fn.gate l.fn.index + l.counter) (2 ^ 64 - 1) ≤ g.G.Gate.noes l.gate l.fn.index;
}
