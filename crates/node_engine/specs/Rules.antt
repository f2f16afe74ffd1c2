-- The orders of the governor's rules on the machine's record.
use Rattle.std.specs.Prelude.{ℕ, ◌≡◌, List, map}
use Rattle.govern_rules.specs.declared.order.Order.{Order}
use Rattle.laws.specs.OrderNeeds.{MayAll, MayFollow}
use Rattle.machine.specs.Effect.{then_do, for_each}
use Rattle.machine.specs.Govern.{carries_out, rules as follows, view_of}
use Rattle.machine.specs.Machine.{Machine}
use Rattle.node_engine.specs.State.{peers_of}
use Rattle.peers.specs.Rules as peers
use Rattle.peers.specs.declared.rule.Rule.{Rule}

abbrev pub orders_by : ℕ → Rule → Machine → List Order
orders_by word rule m = peers.orders_by rule (view_of word m) (peers_of m)

-- Following rules comes to carrying out some orders, which may be, and then following the rules behind.
pub record AreFirst (each : Rule → Machine → List Order) (rules : List Rule) (orders : List Order) (after : List Rule) (m : Machine) : Type 0 where
  pub same : for_each follows (map each rules) m ≡ then_do (for_each carries_out orders m) (for_each follows (map each after))
  pub may : MayAll orders m
  pub may_after : MayFollow (map each after) (for_each carries_out orders m).machine
