-- The five rules that are the same for both classes of peers. Each looks at the counts and targets of its class,
-- and picks among those peers of the class whose addresses pass a test. Where there is nothing to make good, the
-- difference is 0, and nobody is picked.
use Rattle.std.specs.Prelude.{ℕ, ◌-◌, Bool, true, false, ◌&&◌, List, count_by}
use Rattle.net_base.specs.declared.address.Addr.{Addr}
use Rattle.net_base.specs.declared.peer.Peer.{Peer}
use Rattle.peer_book.specs.Book.{is_of, known_of, established_of, active_of}
use Rattle.govern_rules.specs.Candidates.{may_be_forgotten, is_eligible, may_be_released, may_be_activated, may_be_deactivated}
use Rattle.govern_rules.specs.Links.{is_pending, owes_on_2}
use Rattle.govern_rules.specs.Orders.{orders_for}
use Rattle.govern_rules.specs.declared.order.Order.{Order}
use Rattle.govern_rules.specs.declared.order.Order.TheVariants.{Forget, Promote, Release, Activate, Deactivate}
use Rattle.govern_rules.specs.declared.view.View.{View}

-- ---- the targets of a class

abbrev pub known_target : Bool → View → ℕ
known_target false view = view.targets.known
known_target true view = view.big.known

abbrev pub established_target : Bool → View → ℕ
established_target false view = view.targets.established
established_target true view = view.big.established

abbrev pub active_target : Bool → View → ℕ
active_target false view = view.targets.active
active_target true view = view.big.active

-- ---- how many peers of a class have an address that passes a test

abbrev pub count_of : Bool → (Addr → Bool) → List Peer → ℕ
count_of big test = count_by (λ p. is_of big p && test p.addr)

-- ---- the rules

-- more are known than wanted
abbrev pub forgets : Bool → (Addr → Bool) → View → List Peer → List Order
forgets big among view peers =
    orders_for big view.word Forget
    (known_of big peers - known_target big view)
    (λ p. among p.addr && may_be_forgotten view.links p) peers

-- fewer are established, or on their way to it, than wanted
abbrev pub promotes : Bool → (Addr → Bool) → View → List Peer → List Order
promotes big among view peers =
    orders_for big view.word Promote
    (established_target big view - established_of big peers - count_of big (is_pending view.links) peers)
    (λ p. among p.addr && is_eligible view.moment view.links p) peers

-- more are established than wanted
abbrev pub releases : Bool → (Addr → Bool) → View → List Peer → List Order
releases big among view peers =
    orders_for big view.word Release
    (established_of big peers - established_target big view)
    (λ p. among p.addr && may_be_released view.links p) peers

-- fewer are active, or asked to become so, than wanted
abbrev pub activates : Bool → (Addr → Bool) → View → List Peer → List Order
activates big among view peers =
    orders_for big view.word Activate
    (active_target big view - active_of big peers - count_of big (owes_on_2 view.links) peers)
    (λ p. among p.addr && may_be_activated view.links p) peers

-- more are active than wanted
abbrev pub deactivates : Bool → (Addr → Bool) → View → List Peer → List Order
deactivates big among view peers =
    orders_for big view.word Deactivate
    (active_of big peers - active_target big view)
    (λ p. among p.addr && may_be_deactivated p) peers
