use Rattle.std.proofs.Common.{◌≡◌, ◌++◌, take}
use Rattle.std.specs.List.{flat_map}
use Rattle.govern_rules.specs.Members.{valency_orders}
use Rattle.govern_rules.proofs.valency.groups_orders.Given as goal

abbrev pub invariant-loop-group : goal.invariant-loop-group
invariant-loop-group g l =
    l.orders.items ≡ l.fn.orders.items ++ flat_map (valency_orders l.valency l.view l.book) (take l.group-index l.groups)
