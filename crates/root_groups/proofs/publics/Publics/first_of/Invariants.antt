use Rattle.std.proofs.Common.{◌≡◌, ◌++◌, drop}
use Rattle.root_groups.specs.RootAsk.{publics_of}
use Rattle.root_groups.specs.Sorted.{HasSame}
use Rattle.root_groups.proofs.FirstPlaces.{to_come}
use Rattle.root_groups.proofs.publics.Publics.first_of.Given as goal

abbrev pub invariant-loop-addr : goal.invariant-loop-addr
invariant-loop-addr l = record {
  same : HasSame l.list l.sorted.keys;
  so_far : publics_of l.own l.target l.addrs ≡ l.list ++ to_come l.own l.target l.list (drop l.addr-index l.addrs);
}
