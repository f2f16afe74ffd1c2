use Rattle.std.proofs.Common.{◌≡◌, ◌-◌, length, drop}
use Rattle.std.specs.List.{list_any}
use Rattle.govern_rules.specs.Marks.{has_mark}
use Rattle.govern_rules.specs.SortedLinks.{AreNotBelow, links_of}
use Rattle.govern_rules.proofs.links.some_from.Given as goal

abbrev pub invariant-loop-place : goal.invariant-loop-place
invariant-loop-place l = record {
  above : AreNotBelow l.addr (drop l.place l.links);
  same : list_any (has_mark l.mark) (links_of l.addr (drop l.place l.links)) ≡ list_any (has_mark l.mark) (links_of l.addr (drop l.start l.links));
}

abbrev pub decreases-loop-place : goal.decreases-loop-place
decreases-loop-place l = length l.links - l.place
