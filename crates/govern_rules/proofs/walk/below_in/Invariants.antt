use Rattle.std.proofs.Common.{◌≡◌, ◌+◌, drop}
use Rattle.std.specs.List.{prefix_len}
use Rattle.govern_rules.specs.SortedLinks.{is_below}
use Rattle.govern_rules.proofs.walk.below_in.Given as goal

abbrev pub invariant-loop-link : goal.invariant-loop-link
invariant-loop-link l = record {
  index : l.passed ≡ l.link-index;
  same : l.passed + prefix_len (is_below l.addr) (drop l.link-index l.run) ≡ prefix_len (is_below l.addr) l.run;
}
