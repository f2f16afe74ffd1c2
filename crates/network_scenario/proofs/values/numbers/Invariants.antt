use Rattle.std.proofs.Common.{◌≡◌, length, take}
use Rattle.network_scenario.specs.Ranges.{AreIn}
use Rattle.network_scenario.proofs.values.numbers.Given as goal

abbrev pub invariant-loop-place : goal.invariant-loop-place
invariant-loop-place g l = record {
  long : length l.found ≡ g.row.N;
  within : AreIn (take l.place l.rows) (take l.place l.found);
}
