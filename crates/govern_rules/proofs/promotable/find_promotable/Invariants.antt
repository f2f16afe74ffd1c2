use Rattle.std.proofs.Common.{◌≡◌, ◌-◌, length, take}
use Rattle.std.specs.List.{filter}
use Rattle.govern_rules.specs.ClassRules.{count_of, established_target}
use Rattle.govern_rules.specs.Links.{is_pending}
use Rattle.govern_rules.specs.Search.{suits}
use Rattle.peer_book.specs.Book.{established_of}
use Rattle.govern_rules.proofs.promotable.find_promotable.Given as goal

abbrev pub invariant-loop-place : goal.invariant-loop-place
invariant-loop-place l = record {
  cands : l.cands ≡ filter (suits l.search) (take l.place l.book);
  walk : l.walk ≡ l.search.view.now.links;
  number : l.number ≡ established_target l.search.big l.search.view.now - established_of l.search.big l.book
      - count_of l.search.big (is_pending l.search.view.now.links) (take l.place l.book);
}

abbrev pub decreases-loop-place : goal.decreases-loop-place
decreases-loop-place l = length l.book - l.place
