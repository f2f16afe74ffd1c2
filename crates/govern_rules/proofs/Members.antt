-- What is done with the members of a group, by those that were looked up.
use Rattle.std.proofs.Common.{◌≡◌, ℕ, ◌-◌, Bool, true, false, ◌&&◌, ◌||◌, List, [], ◌∷◌, length, map, refl, sym, ap, ◌∙◌}
use Rattle.std.specs.List.{IsDistinct, filter, count_by, flat_map}
use Rattle.std.proofs.lemmas.Bool.{and_parts}
use Rattle.std.proofs.lemmas.List.Sorted.{sum_by-IsPermutation}
use Rattle.std.proofs.lemmas.List.Sums.{length-filter}
use Rattle.net_base.specs.Address.{same_address}
use Rattle.net_base.specs.declared.address.Addr.{Addr}
use Rattle.net_base.specs.declared.event.Group.{Group}
use Rattle.net_base.specs.declared.peer.Peer.{Peer}
use Rattle.net_base.specs.declared.peer.Temp.TheVariants.{Hot as IsHot}
use Rattle.peer_book.specs.Book.{is_of, addresses_of, is_established, same_temp, listed_at}
use Rattle.root_groups.specs.Cleaned.{is_listed}
use Rattle.govern_rules.specs.Candidates.{may_be_deactivated}
use Rattle.govern_rules.specs.Links.{is_pending, owes_on_2}
use Rattle.govern_rules.specs.Members.{peers_with, valency_task, valency_temp, valency_number, valency_orders}
use Rattle.govern_rules.specs.Orders.{orders_for, picks_of}
use Rattle.govern_rules.specs.Rules.{is_member_and, members_count}
use Rattle.govern_rules.specs.Search.{lookups}
use Rattle.govern_rules.specs.Tasks.{order_of, may_be_given}
use Rattle.govern_rules.specs.declared.link.Link.{Link}
use Rattle.govern_rules.specs.declared.order.Order.{Order}
use Rattle.govern_rules.specs.declared.valency.Valency.{Valency}
use Rattle.govern_rules.specs.declared.valency.Valency.TheVariants.{WarmUp, HotUp, HotDown}
use Rattle.govern_rules.specs.declared.view.View.{View}
use Rattle.govern_rules.proofs.Apart.{IsDistinct-filter, apart-permuted}
use Rattle.govern_rules.proofs.FoundMembers.{filter-twice, filter-same, found_members}
use Rattle.govern_rules.proofs.Nobody.{nil-map, stricter}
use Rattle.govern_rules.proofs.Picking.{picks-filtered, no-orders, no-peers}
use Rattle.govern_rules.proofs.Suiting.{turned}

-- ordinary members that pass a test
members-filter : (group : Group) (test : Peer → Bool) (peers : List Peer) →
    filter (λ p. is_of false p && test p) (peers_with group.members peers) ≡ filter (λ p. is_of false p && is_member_and group test p) peers
members-filter group test peers =
    filter-twice (λ p. is_of false p && test p) (λ p. is_listed p.addr group.members) peers
    ∙ filter-same (λ p. is_listed p.addr group.members && (is_of false p && test p)) (λ p. is_of false p && is_member_and group test p)
    (λ p. turned (is_listed p.addr group.members) (is_of false p) (test p)) peers

members_apart : (addrs : List Addr) (peers : List Peer) → IsDistinct same_address (addresses_of peers) →
    IsDistinct same_address (addresses_of (peers_with addrs peers))
members_apart addrs peers apart = IsDistinct-filter (λ (p : Peer). p.addr) (λ p. is_listed p.addr addrs) peers apart

-- those that were looked up have distinct addresses
pub lookups_apart : (addrs : List Addr) (peers : List Peer) → IsDistinct same_address addrs → IsDistinct same_address (addresses_of peers) →
    IsDistinct same_address (addresses_of (lookups peers addrs))
lookups_apart addrs peers distinct apart =
    apart-permuted (peers_with addrs peers) (lookups peers addrs) (members_apart addrs peers apart) (found_members addrs peers distinct apart)

-- ---- how many

-- by how many members the valency is missed
abbrev pub missed : Valency → View → List Peer → Group → ℕ
missed WarmUp view peers group = group.warm - members_count group (λ p. is_established p.temp || is_pending view.links p.addr) peers
missed HotUp view peers group = group.hot - members_count group (λ p. same_temp p.temp IsHot || owes_on_2 view.links p.addr) peers
missed HotDown view peers group = members_count group may_be_deactivated peers - group.hot

-- a group, and the peers of a book, with their own addresses each
abbrev AreApart : Group → List Peer → Type 0
AreApart group peers = IsDistinct same_address group.members × IsDistinct same_address (addresses_of peers)

members_counted : (group : Group) (test : Peer → Bool) (peers : List Peer) → AreApart group peers →
    count_by (λ p. is_of false p && test p) (lookups peers group.members) ≡ members_count group test peers
members_counted group test peers apart =
    sum_by-IsPermutation _ (peers_with group.members peers) (lookups peers group.members) (found_members group.members peers apart.0 apart.1)
    ∙ (sym (length-filter (λ p. is_of false p && test p) (peers_with group.members peers))
    ∙ (ap length (members-filter group test peers) ∙ length-filter (λ p. is_of false p && is_member_and group test p) peers))

missed-found : (valency : Valency) (view : View) (group : Group) (peers : List Peer) → AreApart group peers →
    valency_number valency group view.links (lookups peers group.members) ≡ missed valency view peers group
missed-found WarmUp view group peers apart = ap (λ n. group.warm - n) (members_counted group (λ p. is_established p.temp || is_pending view.links p.addr) peers apart)
missed-found HotUp view group peers apart = ap (λ n. group.hot - n) (members_counted group (λ p. same_temp p.temp IsHot || owes_on_2 view.links p.addr) peers apart)
missed-found HotDown view group peers apart = ap (λ n. n - group.hot) (members_counted group may_be_deactivated peers apart)

-- ---- which orders

pub by_missed : (valency : Valency) (view : View) (peers : List Peer) (group : Group) →
    orders_for false view.word (order_of (valency_task valency)) (missed valency view peers group)
    (is_member_and group (may_be_given (valency_task valency) view.moment view.links)) peers ≡ valency_orders valency view peers group
by_missed WarmUp view peers group = refl
by_missed HotUp view peers group = refl
by_missed HotDown view peers group = refl

members_ordered : (word : ℕ) (order : Addr → Order) (number : ℕ) (group : Group) (test : Peer → Bool) (peers : List Peer) → AreApart group peers →
    orders_for false word order number test (lookups peers group.members) ≡ orders_for false word order number (is_member_and group test) peers
members_ordered word order number group test peers apart =
    ap (map order)
    (sym (picks-filtered false word number (λ p. is_of false p && test p) (peers_with group.members peers) (lookups peers group.members)
    (IsDistinct-filter (λ (p : Peer). p.addr) (λ p. is_of false p && test p) (peers_with group.members peers) (members_apart group.members peers apart.1))
    (found_members group.members peers apart.0 apart.1))
    ∙ ap (picks_of false word number) (members-filter group test peers))

pub orders-found : (valency : Valency) (view : View) (group : Group) (peers : List Peer) (number : ℕ) (suiting : Peer → Bool) → AreApart group peers →
    number ≡ valency_number valency group view.links (lookups peers group.members) →
    ((p : Peer) → suiting p ≡ (is_of false p && may_be_given (valency_task valency) view.moment view.links p)) →
    map (order_of (valency_task valency)) (picks_of false view.word number (filter suiting (lookups peers group.members))) ≡ valency_orders valency view peers group
orders-found valency view group peers number suiting apart missing same =
    let test : Peer → Bool = may_be_given (valency_task valency) view.moment view.links in
    let order : Addr → Order = order_of (valency_task valency) in
    ap (λ l. map order (picks_of false view.word number l)) (filter-same suiting (λ p. is_of false p && test p) same (lookups peers group.members))
    ∙ (members_ordered view.word order number group test peers apart
    ∙ (ap (λ n. orders_for false view.word order n (is_member_and group test) peers) (missing ∙ missed-found valency view group peers apart)
    ∙ by_missed valency view peers group))

pub orders-none : (valency : Valency) (view : View) (group : Group) (peers : List Peer) (number : ℕ) → AreApart group peers →
    number ≡ valency_number valency group view.links (lookups peers group.members) → number ≡ 0 → valency_orders valency view peers group ≡ []
orders-none valency view group peers number apart missing none =
    sym (by_missed valency view peers group)
    ∙ no-orders false view.word (order_of (valency_task valency)) (missed valency view peers group)
    (is_member_and group (may_be_given (valency_task valency) view.moment view.links)) peers
    (sym (missing ∙ missed-found valency view group peers apart) ∙ none)

-- ---- nobody has the temperature

has_temp : (valency : Valency) (moment : ℕ) (links : List Link) (p : Peer) → may_be_given (valency_task valency) moment links p ≡ true →
    same_temp p.temp (valency_temp valency) ≡ true
has_temp WarmUp moment links p h = (and_parts _ _ (and_parts _ _ (and_parts _ _ h).0).0).0
has_temp HotUp moment links p h = (and_parts _ _ h).0
has_temp HotDown moment links p h = h

nobody-to-pick : (valency : Valency) (view : View) (peers : List Peer) (group : Group) → listed_at (valency_temp valency) peers ≡ [] →
    valency_orders valency view peers group ≡ []
nobody-to-pick valency view peers group none =
    let test : Peer → Bool = is_member_and group (may_be_given (valency_task valency) view.moment view.links) in
    let number : ℕ = missed valency view peers group in
    let order : Addr → Order = order_of (valency_task valency) in
    let nobody : filter (λ p. is_of false p && test p) peers ≡ [] =
    stricter (λ p. is_of false p && test p) (λ p. same_temp p.temp (valency_temp valency))
    (λ p h. has_temp valency view.moment view.links p (and_parts _ _ (and_parts _ _ h).1).1) peers
    (nil-map (λ (p : Peer). p.addr) (filter (λ p. same_temp p.temp (valency_temp valency)) peers) none) in
    sym (by_missed valency view peers group)
    ∙ (ap (λ l. map order (picks_of false view.word number l)) nobody ∙ no-peers false view.word order number test)

pub nobody-in-groups : (valency : Valency) (view : View) (peers : List Peer) (groups : List Group) → listed_at (valency_temp valency) peers ≡ [] →
    flat_map (valency_orders valency view peers) groups ≡ []
nobody-in-groups valency view peers [] none = refl
nobody-in-groups valency view peers (g ∷ groups) none =
    rw (nobody-to-pick valency view peers g none) (nobody-in-groups valency view peers groups none)
