use Rattle.std.proofs.Common.{◌≡◌, ◌-◌, false, take}
use Rattle.govern_rules.specs.Search.{lookups}
use Rattle.govern_rules.specs.Statuses.{count_with}
use Rattle.govern_rules.proofs.valency.missing_among.Given as goal

abbrev pub invariant-loop-addr : goal.invariant-loop-addr
invariant-loop-addr l = record {
  so_far : l.missing ≡ l.wanted - count_with l.status false l.links (lookups l.book (take l.addr-index l.addrs));
  nearby : l.nearby ≡ l.book;
}
