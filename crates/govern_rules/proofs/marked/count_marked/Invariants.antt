use Rattle.std.proofs.Common.{◌≡◌, ◌≤◌, ◌+◌, drop}
use Rattle.govern_rules.specs.ClassRules.{count_of}
use Rattle.govern_rules.specs.Links.{some_link}
use Rattle.govern_rules.specs.Marks.{has_mark}
use Rattle.govern_rules.specs.Walks.{IsRunFrom}
use Rattle.govern_rules.proofs.marked.count_marked.Given as goal

abbrev pub invariant-loop-place : goal.invariant-loop-place
invariant-loop-place l = record {
  so_far : l.count + count_of l.big (some_link (has_mark l.mark) (drop l.place l.links)) l.book ≡ count_of l.big (some_link (has_mark l.mark) l.links) l.book;
  few : l.count ≤ l.place;
  rest : IsRunFrom l.place l.links l.rest;
  nearby : l.nearby ≡ l.book;
}
