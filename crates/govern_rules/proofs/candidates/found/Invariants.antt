use Rattle.std.proofs.Common.{◌≡◌, take}
use Rattle.std.specs.List.{filter}
use Rattle.govern_rules.specs.Search.{suits, lookups}
use Rattle.govern_rules.proofs.candidates.found.Given as goal

abbrev pub invariant-loop-addr : goal.invariant-loop-addr
invariant-loop-addr l = record {
  cands : l.cands ≡ filter (suits l.search) (lookups l.book (take l.addr-index l.addrs));
  walk : l.walk ≡ l.search.view.now.links;
  nearby : l.nearby ≡ l.book;
}
