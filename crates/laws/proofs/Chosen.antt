-- The peers that orders go to: no address twice, and of a group members only.
use Rattle.std.proofs.Common.{ℕ, ◌-◌, ◌≡◌, Bool, true, false, ◌&&◌, List, [], ◌∷◌, ◌++◌, map, filter, flat_map, Some, refl, ◌∙◌, sym, ap, arith}
use Rattle.laws.proofs.Words.{or_from, list_any-append, map-append}
use Rattle.laws.specs.Words.{AllByRecursion, same_address, Addr, Group, Peer, is_of, is_listed, members_of, picks_of, Order, Deactivate, is_member_and, is_not_local, members_count, may_be_deactivated, active_of, active_target, g9_orders, view_of, Machine}
use Rattle.peer_book.specs.Book.{peer_at}
use Rattle.laws.specs.Steady.{ArePeersApart, AreApart}
use Rattle.laws.proofs.Addresses.{same_address-true}
use Rattle.laws.proofs.GroupsApart.{append-apart}
use Rattle.laws.proofs.Each.{weaker, weaker-both}
use Rattle.laws.proofs.Lists.{all-appended, all-behind, filter-all, filter-passing}
use Rattle.laws.proofs.PeersApart.{all-found, same_turned, filter-apart}
use Rattle.laws.proofs.Picks.{picks-apart, picks-all}

-- ---- of all peers

-- those of a class that pass a test, and that are picked
abbrev pub chosen : Bool → ℕ → ℕ → (Peer → Bool) → List Peer → List Addr
chosen big word number test peers = picks_of big word number (filter (λ p. is_of big p && test p) peers)

pub chosen-apart : (big : Bool) (word number : ℕ) (test : Peer → Bool) (peers : List Peer) → ArePeersApart peers → AreApart (chosen big word number test peers)
chosen-apart big word number test peers h = search (arith, picks-apart, filter-apart)

pub chosen-all : (P : Addr → Type 0) (big : Bool) (word number : ℕ) (test : Peer → Bool) (peers : List Peer) → ArePeersApart peers →
    ((p : Peer) → (is_of big p && test p) ≡ true → peer_at p.addr peers ≡ Some p → P p.addr) → AllByRecursion P (chosen big word number test peers)
chosen-all P big word number test peers apart gives = search (arith, picks-all, weaker-both, filter-passing, filter-all, all-found)

-- ---- of each group

pub apart-behind : (xs ys : List Addr) → AreApart (xs ++ ys) → AreApart ys
apart-behind [] ys h = h
apart-behind (x ∷ xs) ys h = apart-behind xs ys h.1

-- whoever differs from all of them is not among them
not_among : (a : Addr) (ys : List Addr) → AllByRecursion (λ b. same_address b a ≡ false) ys → is_listed a ys ≡ false
not_among a [] h = refl
not_among a (y ∷ ys) h = or_from (same_address a y) (is_listed a ys) (same_turned y a h.0) (not_among a ys h.1)

-- an address of the front is none behind it
pub front-not_behind : (a : Addr) (xs ys : List Addr) → AreApart (xs ++ ys) → is_listed a xs ≡ true → is_listed a ys ≡ false
front-not_behind a [] ys h listed = absurd cc
front-not_behind a (x ∷ xs) ys h listed =
    grind (arith, listed, same_address-true a x, not_among x ys (all-behind (λ b. same_address b x ≡ false) xs ys h.0), front-not_behind a xs ys h.1)

others : (front behind : List Addr) (a b : Addr) → AreApart (front ++ behind) → is_listed a front ≡ true → is_listed b behind ≡ true → same_address b a ≡ false
others front behind a b h one two = grind (arith, two, same_address-true b a, front-not_behind a front behind h one)

-- each group's picks are members of it, and apart
pub record PicksMembers (pick : Group → List Addr) : Type 0 where
  pub apart : (group : Group) → AreApart (pick group)
  pub members : (group : Group) → AllByRecursion (λ a. is_listed a group.members ≡ true) (pick group)

pub picks-listed : (pick : Group → List Addr) (groups : List Group) → PicksMembers pick →
    AllByRecursion (λ a. is_listed a (members_of groups) ≡ true) (flat_map pick groups)
picks-listed pick [] h = tt
picks-listed pick (g ∷ groups) h =
    let rest : List Addr = members_of groups in
    all-appended (λ a. is_listed a (g.members ++ rest) ≡ true) (pick g) (flat_map pick groups)
    (weaker (pick g) (λ a listed. grind (arith, listed, list_any-append (same_address a) g.members rest)) (h.members g))
    (weaker (flat_map pick groups) (λ a listed. grind (arith, listed, list_any-append (same_address a) g.members rest)) (picks-listed pick groups h))

pub groups_picks-apart : (pick : Group → List Addr) (groups : List Group) → PicksMembers pick → AreApart (members_of groups) → AreApart (flat_map pick groups)
groups_picks-apart pick [] h apart = tt
groups_picks-apart pick (g ∷ groups) h apart =
    let rest : List Addr = members_of groups in
    append-apart (pick g) (flat_map pick groups) (h.apart g) (groups_picks-apart pick groups h (apart-behind g.members rest apart))
    (weaker (flat_map pick groups)
    (λ b there. not_among b (pick g) (weaker (pick g) (λ a here. same_turned b a (others g.members rest a b apart here there)) (h.members g)))
    (picks-listed pick groups h))

pub groups_picks-all : (P : Addr → Type 0) (pick : Group → List Addr) (groups : List Group) → ((group : Group) → AllByRecursion P (pick group)) →
    AllByRecursion P (flat_map pick groups)
groups_picks-all P pick [] each = tt
groups_picks-all P pick (g ∷ groups) each = all-appended P (pick g) (flat_map pick groups) (each g) (groups_picks-all P pick groups each)

-- one list of orders for the picks of all groups
pub map-groups : (order : Addr → Order) (pick : Group → List Addr) (groups : List Group) →
    flat_map (λ g. map order (pick g)) groups ≡ map order (flat_map pick groups)
map-groups order pick [] = refl
map-groups order pick (g ∷ groups) = search (arith, map-append, map-groups order pick groups)

-- the picks of each group
abbrev pub picks_in : ℕ → (Group → ℕ) → (Peer → Bool) → List Peer → Group → List Addr
picks_in word number test ps g = chosen false word (number g) (is_member_and g test) ps

pub group_picks : (word : ℕ) (number : Group → ℕ) (test : Peer → Bool) (ps : List Peer) → ArePeersApart ps → PicksMembers (picks_in word number test ps)
group_picks word number test ps apart = record {
  apart = λ g. chosen-apart false word (number g) (is_member_and g test) ps apart;
  members = λ g. chosen-all (λ a. is_listed a g.members ≡ true) false word (number g) (is_member_and g test) ps apart (λ p passes found. grind (arith, passes));
}

-- whom the last rule for ordinary peers picks: by the target, and then by the valencies
abbrev pub hot_free : ℕ → Machine → List Addr
hot_free word m = chosen false word (active_of false m.peers - active_target false (view_of word m)) (λ p. is_not_local m.groups p.addr && may_be_deactivated p) m.peers

abbrev pub hot_members : ℕ → Machine → Group → List Addr
hot_members word m = picks_in word (λ g. members_count g may_be_deactivated m.peers - g.hot) may_be_deactivated m.peers

pub g9-same : (word : ℕ) (m : Machine) →
    g9_orders (view_of word m) m.peers m.groups ≡ map Deactivate (hot_free word m ++ flat_map (hot_members word m) m.groups)
g9-same word m = ap (λ orders. map Deactivate (hot_free word m) ++ orders) (map-groups Deactivate (hot_members word m) m.groups)
    ∙ sym (map-append Deactivate (hot_free word m) (flat_map (hot_members word m) m.groups))
