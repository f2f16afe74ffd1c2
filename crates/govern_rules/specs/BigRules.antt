-- The rules for big ledger peers. None of them is spared.
use Rattle.std.specs.Prelude.{Bool, true, List}
use Rattle.net_base.specs.declared.address.Addr.{Addr}
use Rattle.net_base.specs.declared.peer.Peer.{Peer}
use Rattle.govern_rules.specs.ClassRules.{forgets, promotes, releases, activates, deactivates}
use Rattle.govern_rules.specs.declared.big_rule.BigRule.{BigRule}
use Rattle.govern_rules.specs.declared.big_rule.BigRule.TheVariants.{B3, B5, B6, B8, B9}
use Rattle.govern_rules.specs.declared.order.Order.{Order}
use Rattle.govern_rules.specs.declared.view.View.{View}

abbrev pub everybody : Addr → Bool
everybody addr = true

abbrev pub big_orders : BigRule → View → List Peer → List Order
big_orders B3 = forgets true everybody
big_orders B5 = promotes true everybody
big_orders B6 = releases true everybody
big_orders B8 = activates true everybody
big_orders B9 = deactivates true everybody
