use Rattle.std.proofs.Common.{◌≡◌, ◌++◌, ◌≤◌, take}
use Rattle.std.specs.List.{filter}
use Rattle.govern_rules.specs.ClassRules.{count_of}
use Rattle.govern_rules.specs.Links.{is_pending}
use Rattle.govern_rules.specs.Search.{suits}
use Rattle.govern_rules.proofs.promotable.take_promotable.Given as goal

abbrev pub invariant-loop-peer : goal.invariant-loop-peer
invariant-loop-peer l = record {
  cands : l.cands ≡ l.fn.cands ++ filter (suits l.search) (take l.peer-index l.peers);
  walk : l.walk ≡ l.fn.walk;
  pending : l.pending ≡ count_of l.search.big (is_pending l.search.view.now.links) (take l.peer-index l.peers);
  few : l.pending ≤ l.peer-index;
}
