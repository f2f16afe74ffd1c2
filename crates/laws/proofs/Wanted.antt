-- Nobody is promoted or activated beyond what is wanted: the numbers of a rule are what its orders use up.
use Rattle.std.proofs.Common.{ℕ, ◌+◌, ◌-◌, ◌≤◌, ◌≡◌, Bool, true, false, not, ◌&&◌, ◌||◌, List, [], ◌∷◌, length, map, filter, flat_map, count_by, Some, is_some, refl, sym, ap, subst, arith}
use Rattle.laws.proofs.Words.{both_ways, not-true, All-from_recursion, All-weaker, count_by-le-length, count_none, length-picked, length-ranked}
use Rattle.laws.specs.Words.{list_any, AllByRecursion, same_address, Addr, Group, Peer, Temp, Cold, Hot, effective_of, effective_big_of, is_pending, established_target, active_target, count_of, some_link, owes_on_2, rated_of, picks_of, is_member_and, Link, Order, Promote, Activate, is_of, is_established, is_active, same_temp, established_of, active_of, addresses_of, is_listed, members_of, Machine, Entry, live_entry_at, promoted, activated, reply_on, peer_at, link_of, view_of, promoted_at, on_used, activates, carries_out}
use Rattle.govern_rules.specs.Links.{is_pending as is_pending_link}
use Rattle.laws.specs.AtMoves.{some_connection, is_established_or_pending, is_active_or_asked, number_with, members_with, established_wanted, active_wanted, IsWanted}
use Rattle.laws.specs.CarriedOut.{IsUnset}
use Rattle.laws.specs.Laws.{is_local}
use Rattle.laws.specs.Steady.{AreApart, IsOrdered}
use Rattle.laws.proofs.Chosen.{PicksMembers, picks-listed, apart-behind, front-not_behind, picks_in, group_picks}
use Rattle.laws.proofs.Each.{weaker, weaker-both, count-cons, count-append}
use Rattle.laws.proofs.GroupsApart.{unlisted_append}
use Rattle.laws.proofs.KnownWanted.{move-within}
use Rattle.laws.proofs.Lawful.{Within}
use Rattle.laws.proofs.Locals.{no_member-unlisted}
use Rattle.laws.proofs.Spending.{ChangesAt, IsLocalTest, number-one, members-one, members-none, promote-changes, activate-changes}
use Rattle.laws.proofs.Due.{promoted_at-moves, on_used-moves}

-- ---- an order that uses up what is wanted

-- a promotion, or an activation: it changes one address, and is within what is wanted where its move is
pub record Uses (counts : Machine → Peer → Bool) (wanted : Bool → Machine → ℕ) (valency : Group → ℕ) (order : Addr → Order) : Type 0 where
  pub changes : (addr : Addr) (m : Machine) → IsOrdered m → ChangesAt addr m (carries_out (order addr) m).machine
  pub local : IsLocalTest counts
  pub within : (addr : Addr) (m : Machine) → IsWanted counts wanted valency addr m (carries_out (order addr) m).machine →
      AllByRecursion Within (carries_out (order addr) m).moves
  pub stays : (big : Bool) (m n : Machine) → IsUnset m n → wanted big n ≡ wanted big m

pub established-stays : (big : Bool) (m n : Machine) → IsUnset m n → established_wanted big n ≡ established_wanted big m
established-stays false m n h = λ i. (effective_of (h.targets i) (h.now i)).established
established-stays true m n h = λ i. (effective_big_of (h.big_targets i) (h.now i)).established

pub active-stays : (big : Bool) (m n : Machine) → IsUnset m n → active_wanted big n ≡ active_wanted big m
active-stays false m n h = λ i. (effective_of (h.targets i) (h.now i)).active
active-stays true m n h = λ i. (effective_big_of (h.big_targets i) (h.now i)).active

pub promotes-use : Uses is_established_or_pending established_wanted (λ group. group.warm) Promote
promotes-use = record {
  changes = promote-changes;
  local = λ addr m n changes p other. ap (λ b. is_established p.temp || b) (changes.connections (λ e. is_pending e.facts) p.addr other);
  within = λ addr m wanted.
      move-within (promoted addr) m (promoted_at (live_entry_at addr m) addr m) (promoted_at-moves (live_entry_at addr m) addr m) wanted;
  stays = established-stays;
}

pub activates-use : Uses is_active_or_asked active_wanted (λ group. group.hot) Activate
activates-use = record {
  changes = activate-changes;
  local = λ addr m n changes p other. ap (λ b. is_active p.temp || b) (changes.connections (λ e. is_some (reply_on 2 e)) p.addr other);
  within = λ addr m wanted. move-within (activated addr) m (on_used addr activates m) (on_used-moves addr m) wanted;
  stays = active-stays;
}

-- ---- who is picked

pub picks-most : (big : Bool) (word number : ℕ) (candidates : List Peer) → length (picks_of big word number candidates) ≤ number
picks-most false word number candidates = length-picked (addresses_of candidates) number word
picks-most true word number candidates = length-ranked (map rated_of candidates) number word

pub of-class : (big : Bool) (p : Peer) → is_of big p ≡ true → p.big ≡ big
of-class true p h = h
of-class false p h = not-true p.big h

-- how many of some addresses are members of a group
abbrev pub listed_in : Group → List Addr → ℕ
listed_in group addrs = count_by (λ a. is_listed a group.members) addrs

-- addresses that are in no group count for none
pub none_in-each : (addrs : List Addr) (groups : List Group) → AllByRecursion (λ a. is_listed a (members_of groups) ≡ false) addrs →
    AllByRecursion (λ group. listed_in group addrs ≡ 0) groups
none_in-each addrs [] h = tt
none_in-each addrs (g ∷ groups) h = search (arith, count_none, weaker, unlisted_append, none_in-each addrs groups (weaker addrs (λ a none. (unlisted_append a g.members (members_of groups) none).1) h))

-- of all picks only a group's own are its members
pub own_picks : (pick : Group → List Addr) (groups : List Group) → PicksMembers pick → AreApart (members_of groups) →
    AllByRecursion (λ group. listed_in group (flat_map pick groups) ≤ length (pick group)) groups
own_picks pick [] h apart = tt
own_picks pick (g ∷ groups) h apart =
    let others : List Addr = flat_map pick groups in
    let all = count_by-le-length (λ a. is_listed a g.members) (pick g) in
    let none : listed_in g others ≡ 0 = count_none (λ a. is_listed a g.members) others
    (weaker others (λ a there. grind (arith, there, front-not_behind a g.members (members_of groups) apart)) (picks-listed pick groups h)) in (
      omega (arith, all, none, count-append (λ a. is_listed a g.members) (pick g) others),
      weaker-both groups (λ x zero few. let parts = count-append (λ a. is_listed a x.members) (pick g) others in omega (arith, zero, few, parts))
          (none_in-each (pick g) groups (weaker (pick g) (λ a here. front-not_behind a g.members (members_of groups) apart here) (h.members g)))
          (own_picks pick groups h (apart-behind g.members (members_of groups) apart)),
    )

-- ---- whom an order is for

-- a peer of a class, and no local one where that is of ordinary peers; and a local peer
abbrev pub OfClass : Bool → List Group → Addr → Peer → Type 0
OfClass big groups a p = (p.big ≡ big) × ((big || not (is_local groups a)) ≡ true)

abbrev pub OfGroup : List Group → Addr → Peer → Type 0
OfGroup groups a p = (p.big ≡ false) × (is_local groups a ≡ true)

module _ {counts : Machine → Peer → Bool} {wanted : Bool → Machine → ℕ} {valency : Group → ℕ} {order : Addr → Order}
    (uses : Uses counts wanted valency order) where
  -- what is left for the orders that are still to come lets the first of them through, and is left for the rest
  abbrev pub Lets : (List Group → Addr → Peer → Type 0) → (List Addr → Machine → Type 0) → Type 0
  Lets Place Left = (a : Addr) (addrs : List Addr) (m n : Machine) → IsOrdered m → IsUnset m n → ChangesAt a m n →
      ((p : Peer) → peer_at a m ≡ Some p → Place m.groups a p) → Left (a ∷ addrs) m → IsWanted counts wanted valency a m n × Left addrs n

  -- at least as many more are wanted of a class as orders are still to come
  abbrev pub ClassLeft : Bool → List Addr → Machine → Type 0
  ClassLeft big addrs m = length addrs ≤ wanted big m - number_with counts big m

  pub class-lets : (big : Bool) → Lets (OfClass big) (ClassLeft big)
  class-lets big a addrs m n h unset changes place left =
      let more = number-one counts uses.local big a m n h.formed.peers changes in
      let same = uses.stays big m n unset in (
        record {
          by_target = λ p found either. subst (λ b. number_with counts b n ≤ wanted b n) (sym (place p found).0) (omega (arith, more, left, same));
          by_valency = λ p found ordinary. All-weaker (λ group. is_listed a group.members ≡ false)
              (λ group. is_listed a group.members ≡ true → members_with counts group n ≤ valency group)
              (λ group unlisted listed. absurd (both_ways (is_listed a group.members) unlisted listed)) m.groups
              (no_member-unlisted a m.groups (grind (arith, place p found, ordinary)));
        },
        omega (arith, more, left, same),
      )

  -- as many more members are wanted at least as orders are still to come for members
  abbrev HasLeft : List Addr → Machine → Group → Type 0
  HasLeft addrs m group = listed_in group addrs ≤ valency group - members_with counts group m

  abbrev pub GroupsLeft : List Addr → Machine → Type 0
  GroupsLeft addrs m = AllByRecursion (HasLeft addrs m) m.groups

  pub groups-lets : Lets OfGroup GroupsLeft
  groups-lets a addrs m n h unset changes place left = (
    record {
      by_target = λ p found either. absurd (grind (arith, place p found, either));
      by_valency = λ p found ordinary. All-from_recursion (λ group. is_listed a group.members ≡ true → members_with counts group n ≤ valency group) m.groups
          (weaker m.groups (λ group number. (one_less group number).0) left);
    },
    subst (AllByRecursion (HasLeft addrs n)) (sym unset.groups) (weaker m.groups (λ group number. (one_less group number).1) left),
  )
    where
      one_less : (group : Group) → HasLeft (a ∷ addrs) m group → (is_listed a group.members ≡ true → members_with counts group n ≤ valency group) × HasLeft addrs n group
      one_less group number =
          let one = members-one counts uses.local group a m n h.formed.peers changes in
          let none : is_listed a group.members ≡ false → members_with counts group n ≤ members_with counts group m =
          λ unlisted. members-none counts uses.local group a m n unlisted changes in
          grind (arith, number, one, none, count-cons (λ b. is_listed b group.members) a addrs)

  pub groups-left : (word : ℕ) (count : Group → ℕ) (test : Peer → Bool) (m : Machine) → ((group : Group) → count group ≡ members_with counts group m) → IsOrdered m →
      GroupsLeft (flat_map (picks_in word (λ g. valency g - count g) test m.peers) m.groups) m
  groups-left word count test m same h =
      let number : Group → ℕ = λ g. valency g - count g in
      weaker m.groups (λ g own.
      let most = picks-most false word (number g) (filter (λ p. is_of false p && is_member_and g test p) m.peers) in
      let counted = same g in
      omega (arith, own, most, counted))
      (own_picks (picks_in word number test m.peers) m.groups (group_picks word number test m.peers h.formed.peers) h.formed.groups)

-- ---- the numbers of the rules

-- whoever has one of two statuses has the first or the second
count_by-either : {X : Type 0} (c s t : X → Bool) (xs : List X) →
    count_by (λ x. c x && (s x || t x)) xs ≤ count_by (λ x. c x && s x) xs + count_by (λ x. c x && t x) xs
count_by-either c s t [] = omega arith
count_by-either c s t (x ∷ xs) =
    grind (arith, count_by-either c s t xs, count-cons (λ y. c y && (s y || t y)) x xs, count-cons (λ y. c y && s y) x xs, count-cons (λ y. c y && t y) x xs)

-- What the rules see of an address is what its connections are.
pub linked : (test : Link → Bool) (addr : Addr) (es : List Entry) →
    some_link test (map link_of es) addr ≡ list_any (λ e. same_address e.facts.addr addr && test (link_of e)) es
linked test addr [] = refl
linked test addr (e ∷ es) = ap (λ b. (same_address e.facts.addr addr && test (link_of e)) || b) (linked test addr es)

-- those of a temperature, and those with a link, are no fewer than those with either
either-number : (of : Temp → Bool) (test : Link → Bool) (big : Bool) (m : Machine) →
    number_with (λ n p. of p.temp || some_connection (λ e. test (link_of e)) p.addr n) big m
    ≤ count_by (λ p. is_of big p && of p.temp) m.peers + count_of big (some_link test (map link_of m.connections)) m.peers
either-number of test big m =
    let split = count_by-either (is_of big) (λ p. of p.temp) (λ p. some_connection (λ e. test (link_of e)) p.addr m) m.peers in
    let seen : count_of big (some_link test (map link_of m.connections)) m.peers ≡ count_by (λ p. is_of big p && some_connection (λ e. test (link_of e)) p.addr m) m.peers =
    λ i. count_by (λ p. is_of big p && linked test p.addr m.connections i) m.peers in
    omega (arith, split, seen)

pub promotes-number : (big : Bool) (word : ℕ) (m : Machine) →
    established_target big (view_of word m) - established_of big m.peers - count_of big (is_pending_link (map link_of m.connections)) m.peers
    ≤ established_wanted big m - number_with is_established_or_pending big m
promotes-number true word m = let fewer = either-number is_established (λ l. l.pending) true m in omega (arith, fewer)
promotes-number false word m = let fewer = either-number is_established (λ l. l.pending) false m in omega (arith, fewer)

pub activates-number : (big : Bool) (word : ℕ) (m : Machine) →
    active_target big (view_of word m) - active_of big m.peers - count_of big (owes_on_2 (map link_of m.connections)) m.peers
    ≤ active_wanted big m - number_with is_active_or_asked big m
activates-number true word m = let fewer = either-number is_active (λ l. l.owes2) true m in omega (arith, fewer)
activates-number false word m = let fewer = either-number is_active (λ l. l.owes2) false m in omega (arith, fewer)

pub hot-active : (t : Temp) → same_temp t Hot ≡ is_active t
hot-active Cold = refl
hot-active other = refl
