-- What a rule does with those that it picks: who they may be, how many, and the order that each is given.
use Rattle.std.specs.Prelude.{ℕ, ◌-◌, nat_lt, Bool, ◌&&◌, List, if◌then◌else◌}
use Rattle.net_base.specs.declared.address.Addr.{Addr}
use Rattle.net_base.specs.declared.peer.Peer.{Peer}
use Rattle.peer_book.specs.Book.{known_of, established_of, active_of}
use Rattle.govern_rules.specs.Candidates.{may_be_asked, may_be_forgotten, is_eligible, may_be_released, may_be_activated, may_be_deactivated}
use Rattle.govern_rules.specs.ClassRules.{known_target, established_target, active_target, count_of}
use Rattle.govern_rules.specs.Links.{is_pending, owes_on_2, owes_on_10}
use Rattle.govern_rules.specs.Orders.{orders_for}
use Rattle.govern_rules.specs.declared.big_rule.BigRule.{BigRule}
use Rattle.govern_rules.specs.declared.big_rule.BigRule.TheVariants.{B3, B5, B6, B8, B9}
use Rattle.govern_rules.specs.declared.link.Link.{Link}
use Rattle.govern_rules.specs.declared.order.Order.{Order}
use Rattle.govern_rules.specs.declared.order.Order.TheVariants.{Ask, Forget, Promote, Release, Activate, Deactivate}
use Rattle.govern_rules.specs.declared.task.Task.{Task}
use Rattle.govern_rules.specs.declared.task.Task.TheVariants.{Asking, Forgetting, Promoting, Releasing, Activating, Deactivating}
use Rattle.govern_rules.specs.declared.view.View.{View}

abbrev pub order_of : Task → Addr → Order
order_of (Asking amount) addr = Ask addr amount
order_of Forgetting addr = Forget addr
order_of Promoting addr = Promote addr
order_of Releasing addr = Release addr
order_of Activating addr = Activate addr
order_of Deactivating addr = Deactivate addr

abbrev pub may_be_given : Task → ℕ → List Link → Peer → Bool
may_be_given (Asking amount) moment links = may_be_asked moment links
may_be_given Forgetting moment links = may_be_forgotten links
may_be_given Promoting moment links = is_eligible moment links
may_be_given Releasing moment links = may_be_released links
may_be_given Activating moment links = may_be_activated links
may_be_given Deactivating moment links = may_be_deactivated

-- of those that a rule is about
abbrev pub is_candidate : Task → (Addr → Bool) → ℕ → List Link → Peer → Bool
is_candidate task among moment links p = among p.addr && may_be_given task moment links p

-- how many orders a rule by the targets gives at most
abbrev pub number_of : Task → Bool → View → List Peer → ℕ
number_of (Asking amount) big view peers =
    if nat_lt 0 (known_target big view - known_of big peers) then view.settings.shares - count_of big (owes_on_10 view.links) peers else 0
number_of Forgetting big view peers = known_of big peers - known_target big view
number_of Promoting big view peers =
    established_target big view - established_of big peers - count_of big (is_pending view.links) peers
number_of Releasing big view peers = established_of big peers - established_target big view
number_of Activating big view peers =
    active_target big view - active_of big peers - count_of big (owes_on_2 view.links) peers
number_of Deactivating big view peers = active_of big peers - active_target big view

-- the orders of a rule by the targets
abbrev pub task_orders : Task → Bool → (Addr → Bool) → View → List Peer → List Order
task_orders task big among view peers =
    orders_for big view.word (order_of task) (number_of task big view peers)
    (is_candidate task among view.moment view.links) peers

-- what each of the rules for big ledger peers does
abbrev pub big_task : BigRule → Task
big_task B3 = Forgetting
big_task B5 = Promoting
big_task B6 = Releasing
big_task B8 = Activating
big_task B9 = Deactivating
