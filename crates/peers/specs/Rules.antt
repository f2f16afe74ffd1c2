-- The governor's rules, by their numbers.
use Rattle.std.specs.Prelude.{ℕ, List}
use Rattle.churn_clock.specs.Windows.{effective_of, effective_big_of}
use Rattle.govern_rules.specs.BigRules.{big_orders}
use Rattle.govern_rules.specs.Rules.{g2_orders, g3_orders, g4_orders, g5_orders, g6_orders, g7_orders, g8_orders, g9_orders}
use Rattle.govern_rules.specs.declared.link.Link.{Link}
use Rattle.govern_rules.specs.declared.order.Order.{Order}
use Rattle.govern_rules.specs.declared.view.View.{View}
use Rattle.net_base.specs.declared.settings.Settings.{Settings}
use Rattle.peers.specs.State.{PeerState}
use Rattle.peers.specs.declared.rule.Rule.{Rule}
use Rattle.peers.specs.declared.rule.Rule.TheVariants.{G2, G3, G4, G5, G6, G7, G8, G9, Big}

-- what the rules see at a moment, beside some connections
abbrev pub seen_at : ℕ → ℕ → Settings → List Link → PeerState → View
seen_at now word settings links p = record {
  moment = now;
  word = word;
  settings = settings;
  targets = effective_of p.targets now;
  big = effective_big_of p.big_targets now;
  links = links;
}

-- the orders of one of the rules
abbrev pub orders_by : Rule → View → PeerState → List Order
orders_by G2 view p = g2_orders view p.peers
orders_by G3 view p = g3_orders view p.peers p.groups p.roots.publics
orders_by G4 view p = g4_orders view p.peers p.groups
orders_by G5 view p = g5_orders view p.peers p.groups
orders_by G6 view p = g6_orders view p.peers p.groups
orders_by G7 view p = g7_orders view p.peers p.groups
orders_by G8 view p = g8_orders view p.peers p.groups
orders_by G9 view p = g9_orders view p.peers p.groups
orders_by (Big rule) view p = big_orders rule view p.peers
