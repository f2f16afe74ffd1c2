-- The rules for ordinary peers. Every count, candidate and reply that is owed is one of an ordinary peer. A local
-- peer is one in a group; groups have rules of their own, one group after the other.
use Rattle.std.specs.Prelude.{ℕ, ◌-◌, min, Bool, false, ◌&&◌, ◌||◌, not, nat_lt, List, ◌++◌, count_by, if◌then◌else◌, is_some}
use Rattle.std.specs.List.{flat_map}
use Rattle.net_base.specs.declared.address.Addr.{Addr}
use Rattle.net_base.specs.declared.event.Group.{Group}
use Rattle.net_base.specs.declared.peer.Peer.{Peer}
use Rattle.net_base.specs.declared.peer.Temp.TheVariants.{Hot}
use Rattle.peer_book.specs.Book.{is_of, is_established, same_temp, known_of}
use Rattle.root_groups.specs.Cleaned.{is_listed, group_of}
use Rattle.govern_rules.specs.Candidates.{may_be_asked, is_eligible, may_be_activated, may_be_deactivated}
use Rattle.govern_rules.specs.ClassRules.{known_target, count_of, forgets, promotes, releases, activates, deactivates}
use Rattle.govern_rules.specs.Links.{is_pending, owes_on_2, owes_on_10}
use Rattle.govern_rules.specs.Orders.{orders_for}
use Rattle.govern_rules.specs.declared.order.Order.{Order}
use Rattle.govern_rules.specs.declared.order.Order.TheVariants.{Ask, Promote, Activate, Deactivate}
use Rattle.govern_rules.specs.declared.view.View.{View}

abbrev pub is_local : List Group → Addr → Bool
is_local groups addr = is_some (group_of addr groups)

abbrev pub is_not_local : List Group → Addr → Bool
is_not_local groups addr = not (is_local groups addr)

-- ---- peer sharing

-- how many more are to be known
abbrev pub missing_of : View → List Peer → ℕ
missing_of view peers = known_target false view - known_of false peers

-- Where fewer are known than wanted, established peers are asked for addresses, as many of them as may owe an
-- answer at a time. An answer brings ten addresses at most.
abbrev pub g2_orders : View → List Peer → List Order
g2_orders view peers =
    orders_for false view.word (λ addr. Ask addr (min (missing_of view peers) 10))
    (if nat_lt 0 (missing_of view peers) then view.settings.shares - count_of false (owes_on_10 view.links) peers else 0)
    (may_be_asked view.moment view.links) peers

-- ---- rules by the targets

-- neither a local peer nor a public root
abbrev pub may_be_dropped : List Group → List Addr → Addr → Bool
may_be_dropped groups publics addr = is_not_local groups addr && not (is_listed addr publics)

abbrev pub g3_orders : View → List Peer → List Group → List Addr → List Order
g3_orders view peers groups publics = forgets false (may_be_dropped groups publics) view peers

abbrev pub g5_orders : View → List Peer → List Group → List Order
g5_orders view peers groups = promotes false (is_not_local groups) view peers

abbrev pub g6_orders : View → List Peer → List Group → List Order
g6_orders view peers groups = releases false (is_not_local groups) view peers

abbrev pub g8_orders : View → List Peer → List Group → List Order
g8_orders view peers groups = activates false (is_not_local groups) view peers

-- ---- rules by the valencies of each group

-- a test of a group's members
abbrev pub is_member_and : Group → (Peer → Bool) → Peer → Bool
is_member_and group test p = is_listed p.addr group.members && test p

-- how many of a group's members pass a test; one that is not known counts for nothing
abbrev pub members_count : Group → (Peer → Bool) → List Peer → ℕ
members_count group test = count_by (λ p. is_of false p && is_member_and group test p)

abbrev pub promotes_members : View → List Peer → Group → List Order
promotes_members view peers group =
    orders_for false view.word Promote
    (group.warm - members_count group (λ p. is_established p.temp || is_pending view.links p.addr) peers)
    (is_member_and group (is_eligible view.moment view.links)) peers

abbrev pub activates_members : View → List Peer → Group → List Order
activates_members view peers group =
    orders_for false view.word Activate
    (group.hot - members_count group (λ p. same_temp p.temp Hot || owes_on_2 view.links p.addr) peers)
    (is_member_and group (may_be_activated view.links)) peers

abbrev pub deactivates_members : View → List Peer → Group → List Order
deactivates_members view peers group =
    orders_for false view.word Deactivate
    (members_count group may_be_deactivated peers - group.hot)
    (is_member_and group may_be_deactivated) peers

abbrev pub g4_orders : View → List Peer → List Group → List Order
g4_orders view peers = flat_map (promotes_members view peers)

abbrev pub g7_orders : View → List Peer → List Group → List Order
g7_orders view peers = flat_map (activates_members view peers)

-- by the target, and then by the valencies
abbrev pub g9_orders : View → List Peer → List Group → List Order
g9_orders view peers groups =
    deactivates false (is_not_local groups) view peers ++ flat_map (deactivates_members view peers) groups
