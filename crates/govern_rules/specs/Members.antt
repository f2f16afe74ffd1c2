-- The members of a group that are known, and what is done with them.
use Rattle.std.specs.Prelude.{ℕ, ◌-◌, false, List, filter}
use Rattle.net_base.specs.declared.address.Addr.{Addr}
use Rattle.net_base.specs.declared.event.Group.{Group}
use Rattle.net_base.specs.declared.peer.Peer.{Peer}
use Rattle.net_base.specs.declared.peer.Temp.{Temp}
use Rattle.net_base.specs.declared.peer.Temp.TheVariants.{Cold, Warm, Hot as IsHot}
use Rattle.root_groups.specs.Cleaned.{is_listed}
use Rattle.govern_rules.specs.Rules.{promotes_members, activates_members, deactivates_members}
use Rattle.govern_rules.specs.Statuses.{count_with}
use Rattle.govern_rules.specs.declared.link.Link.{Link}
use Rattle.govern_rules.specs.declared.order.Order.{Order}
use Rattle.govern_rules.specs.declared.status.Status.TheVariants.{EstablishedOrPending, HotOrOwesOn2, Hot}
use Rattle.govern_rules.specs.declared.task.Task.{Task}
use Rattle.govern_rules.specs.declared.task.Task.TheVariants.{Promoting, Activating, Deactivating}
use Rattle.govern_rules.specs.declared.valency.Valency.{Valency}
use Rattle.govern_rules.specs.declared.valency.Valency.TheVariants.{WarmUp, HotUp, HotDown}
use Rattle.govern_rules.specs.declared.view.View.{View}

-- the peers with some addresses
abbrev pub peers_with : List Addr → List Peer → List Peer
peers_with addrs = filter (λ p. is_listed p.addr addrs)

abbrev pub valency_task : Valency → Task
valency_task WarmUp = Promoting
valency_task HotUp = Activating
valency_task HotDown = Deactivating

-- of what temperature those are that may be given the task
abbrev pub valency_temp : Valency → Temp
valency_temp WarmUp = Cold
valency_temp HotUp = Warm
valency_temp HotDown = IsHot

-- by how many members the valency is missed
abbrev pub valency_number : Valency → Group → List Link → List Peer → ℕ
valency_number WarmUp group links members = group.warm - count_with EstablishedOrPending false links members
valency_number HotUp group links members = group.hot - count_with HotOrOwesOn2 false links members
valency_number HotDown group links members = count_with Hot false links members - group.hot

abbrev pub valency_orders : Valency → View → List Peer → Group → List Order
valency_orders WarmUp = promotes_members
valency_orders HotUp = activates_members
valency_orders HotDown = deactivates_members
