-- Each order of the governor is due: whom a rule picks is one that it may be for, and it picks as many as are too few or too many.
use Rattle.std.proofs.Common.{ℕ, ◌+◌, ◌-◌, ◌≤◌, ◌<◌, ◌≡◌, Bool, true, false, not, ◌&&◌, ◌||◌, min, List, [], ◌∷◌, ◌++◌, length, map, filter, flat_map, count_by, Option, Some, refl, sym, ap, ◌∙◌, subst, arith, find, None}
use Rattle.laws.proofs.Words.{both_ways, and_parts, not-true, All-from_recursion, count_by-le-length, count_none}
use Rattle.laws.specs.Words.{AllByRecursion, list_any, same_address, Addr, Group, Peer, Temp, Cold, Warm, Hot, effective_of, effective_big_of, is_acquirable, is_pending, is_live, is_live_at, everybody, big_orders, may_be_asked, is_eligible, may_be_forgotten, may_be_released, may_be_activated, may_be_deactivated, promotes, count_of, owes_on_2, owes_on_10, orders_for, is_not_local, may_be_dropped, is_member_and, members_count, missing_of, g2_orders, g3_orders, g4_orders, g6_orders, g7_orders, g9_orders, B3, B6, B9, Link, Order, Ask, Forget, Promote, Release, Activate, Deactivate, is_of, is_established, is_active, same_temp, known_of, established_of, active_of, is_listed, for_each, Effect, link_of, view_of, carries_out, ordinary_rules, big_rules, is_used_at, Machine, Entry, counted_in, peer_at}
use Rattle.govern_rules.specs.ClassRules.{activates}
use Rattle.govern_rules.specs.Links.{is_pending as is_pending_link}
use Rattle.laws.specs.AtMoves.{some_connection, number_with, members_with, known_wanted, established_wanted, active_wanted, IsWanted, IsReady, IsLawful}
use Rattle.laws.specs.CarriedOut.{IsUnset}
use Rattle.laws.specs.Laws.{is_local}
use Rattle.laws.specs.Ordered.{is_any, is_to_answer, is_to_tell, is_awaited, can_tell, tells_soon, is_hot, MayBeForgotten, MayBeReleased, MayBeDeactivated, MayBePromoted, MayBeActivated, MayBeAsked, IsOne, IsDueOrder}
use Rattle.laws.specs.Steady.{ArePeersApart, AreApart, IsOrdered}
use Rattle.laws.proofs.Addresses.{same_address-true}
use Rattle.laws.proofs.Cases.{some_same}
use Rattle.laws.proofs.Chosen.{chosen, chosen-all, chosen-apart, PicksMembers, picks-listed, groups_picks-apart, groups_picks-all, map-groups, picks_in, group_picks, hot_free, hot_members, g9-same}
use Rattle.laws.proofs.Each.{weaker, weaker-both, count-cons, count-append}
use Rattle.laws.proofs.Falls.{all-back, apart-same, found-same, known-same, ChangesAt-back, taken-count, ask-changes, deactivate-changes, release-leaves}
use Rattle.laws.proofs.GroupsApart.{append-apart}
use Rattle.laws.proofs.Lawful.{IsAllowed, Within, allowed_within}
use Rattle.laws.proofs.Lists.{all-appended}
use Rattle.laws.proofs.Locals.{not_local-no_member}
use Rattle.laws.proofs.Orders.{IsCold, ask-carried, forget-carried, release-carried, activate-carried, deactivate-carried, MayAsk}
use Rattle.laws.proofs.Promotions.{promotes-carried, free-may, live-passes}
use Rattle.laws.proofs.Spending.{AreSameBut, ChangesAt, IsLocalTest, counted-one, number-one, members-one, members-none, promote-changes, activate-changes}
use Rattle.laws.proofs.Ties.{taken-elsewhere}
use Rattle.laws.proofs.ToldMoves.{is_temp}
use Rattle.laws.proofs.Trims.{Trimmed, nothing-trimmed, trimmed_then, trimmed_both, trimmed-within}
use Rattle.laws.proofs.WaitsOfParts.{order-unset}
use Rattle.laws.proofs.Wanted.{Uses, promotes-use, activates-use, Lets, OfClass, OfGroup, ClassLeft, GroupsLeft, class-lets, groups-lets, groups-left, promotes-number, activates-number, linked, of-class, picks-most, listed_in, own_picks, none_in-each, hot-active, established-stays, active-stays}
use Rattle.laws.proofs.WholeMoves.{IsWarm, stands-shaped, negotiated-live}
use Rattle.laws.proofs.CarriedOut.{used-here}
use Rattle.laws.proofs.Shapes.{local-negotiated}

-- ---- one order after the other

-- each order is due, and keeps the laws, on a machine that is in order
pub record IsRight (order : Order) (m : Machine) : Type 0 where
  pub ordered : IsOrdered m
  pub due : IsDueOrder order m
  pub trimmed : Trimmed IsLawful m (carries_out order m)

abbrev pub AreRight : List Order → Machine → Type 0
AreRight [] m = Unit {0}
AreRight (order ∷ orders) m = IsRight order m × AreRight orders (carries_out order m).machine

-- orders are carried out one after the other
pub record Done (orders : List Order) (m : Machine) : Type 0 where
  pub trimmed : Trimmed IsLawful m (for_each carries_out orders m)
  pub right : AreRight orders m

-- what is set
record Set : Type 0 where
  groups : List Group
  publics : List Addr

abbrev set_of : Machine → Set
set_of m = record { groups = m.groups; publics = m.roots.publics }

-- what is seen of the connections with an address
abbrev Seen : Type 0
Seen = (Entry → Bool) → Bool

abbrev seen_of : Addr → Machine → Seen
seen_of a m test = some_connection test a m

-- Whom an order may be for: the place of the peer by what is set, what it is, and what is seen of the connections with it.
record May (Place : Set → Addr → Peer → Type 0) (Fits : ℕ → Peer → Type 0) (Sees : Seen → Type 0) (m : Machine) (a : Addr) : Type 0 where
  peer : IsOne (peer_at a m) (λ p. Place (set_of m) a p × Fits m.now p)
  seen : Sees (seen_of a m)

-- what an order leaves at other addresses
record Leaves (Sees : Seen → Type 0) (a : Addr) (m n : Machine) : Type 0 where
  found : (b : Addr) → same_address b a ≡ false → peer_at b n ≡ peer_at b m
  seen : (b : Addr) → same_address b a ≡ false → Sees (seen_of b m) → Sees (seen_of b n)

-- whom orders may be for, and what is left for those that are still to come
record Spends (Place : Set → Addr → Peer → Type 0) (Fits : ℕ → Peer → Type 0) (Sees : Seen → Type 0) (Left : List Addr → Machine → Type 0)
    (order : Addr → Order) : Type 0 where
  carried : (a : Addr) (addrs : List Addr) (m : Machine) → IsOrdered m → counted_in m ≤ m.settings.hard → May Place Fits Sees m a → Left (a ∷ addrs) m →
      Trimmed IsLawful m (carries_out (order a) m)
  due : (a : Addr) (addrs : List Addr) (m : Machine) → IsOrdered m → May Place Fits Sees m a → Left (a ∷ addrs) m → IsDueOrder (order a) m
  leaves : (a : Addr) (m : Machine) → IsOrdered m → Leaves Sees a m (carries_out (order a) m).machine
  left : (a : Addr) (addrs : List Addr) (m : Machine) → IsOrdered m → May Place Fits Sees m a → Left (a ∷ addrs) m → Left addrs (carries_out (order a) m).machine

-- what holds of the peer that there is
one-gives : {law : Peer → Type 0} (P : Option Peer → Type 0) (o : Option Peer) → IsOne o law → ((p : Peer) → law p → P (Some p)) → P o
one-gives P None is each = elim is [ ]
one-gives P (Some p) is each = each p is

one-found : (law : Peer → Type 0) (o : Option Peer) → IsOne o law → (p : Peer) → o ≡ Some p → law p
one-found law None is p found = elim is [ ]
one-found law (Some q) is p found = subst law (some_same q p found) is

module _ {Place : Set → Addr → Peer → Type 0} {Fits : ℕ → Peer → Type 0} {Sees : Seen → Type 0} {Left : List Addr → Machine → Type 0} {order : Addr → Order}
    (s : Spends Place Fits Sees Left order) where
  still-may : (a b : Addr) (m : Machine) → IsOrdered m → same_address b a ≡ false → May Place Fits Sees m b →
      May Place Fits Sees (carries_out (order a) m).machine b
  still-may a b m h other here =
      let n : Machine = (carries_out (order a) m).machine in
      let unset : IsUnset m n = order-unset (order a) m h in
      let set : set_of n ≡ set_of m = λ i. record { groups = unset.groups i; publics = (unset.roots i).publics } in
      record {
        peer = subst (λ o. IsOne o (λ p. Place (set_of n) b p × Fits n.now p)) (sym ((s.leaves a m h).found b other))
            (subst (λ t. IsOne (peer_at b m) (λ p. Place (set_of n) b p × Fits t p)) (sym unset.now)
            (subst (λ x. IsOne (peer_at b m) (λ p. Place x b p × Fits m.now p)) (sym set) here.peer));
        seen = (s.leaves a m h).seen b other here.seen;
      }

  each-done : (addrs : List Addr) (m : Machine) → IsOrdered m → counted_in m ≤ m.settings.hard → AreApart addrs →
      AllByRecursion (May Place Fits Sees m) addrs → Left addrs m → Done (map order addrs) m
  unfolding for_each
  each-done [] m h within apart may left = record { trimmed = nothing-trimmed IsLawful m within h; right = tt }
  each-done (a ∷ addrs) m h within apart may left =
      let effect : Effect = carries_out (order a) m in
      let first : Trimmed IsLawful m effect = s.carried a addrs m h within may.0 left in
      let rest : Done (map order addrs) effect.machine = each-done addrs effect.machine first.ordered (trimmed-within IsLawful m effect first) apart.1
      (weaker-both addrs (λ b other here. still-may a b m h other here) apart.0 may.1) (s.left a addrs m h may.0 left) in
      record {
        trimmed = trimmed_then IsLawful m effect (for_each carries_out (map order addrs)) first rest.trimmed;
        right = (record { ordered = h; due = s.due a addrs m h may.0 left; trimmed = first }, rest.right);
      }

-- where no connection of an address passes a test, none that is found there does
fails-found : (test q : Entry → Bool) (a : Addr) → ((x : Entry) → q x ≡ true → same_address x.facts.addr a ≡ true) → (es : List Entry) (e : Entry) →
    list_any (λ x. same_address x.facts.addr a && test x) es ≡ false → find q es ≡ Some e → test e ≡ false
fails-found test q a at [] e none found = absurd cc
fails-found test q a at (x ∷ es) e none found = grind (arith, none, found, at x, fails-found test q a at es e)

-- where one peer changes, and connections at its address
changed-leaves : (Sees : Seen → Type 0) (a : Addr) (m n : Machine) → ChangesAt a m n → Leaves Sees a m n
changed-leaves Sees a m n h = record {
  found = λ b other. found-same a b m.peers n.peers other h.peers;
  seen = λ b other here. subst Sees (sym (λ i test. h.connections test b other i)) here;
}

-- ---- one too many

-- as many are too many of a class at least as orders are still to come
abbrev Surplus : (Bool → List Peer → ℕ) → (Bool → Machine → ℕ) → Bool → List Addr → Machine → Type 0
Surplus have wanted big addrs m = length addrs ≤ have big m.peers - wanted big m

surplus-left : (have : Bool → List Peer → ℕ) (wanted : Bool → Machine → ℕ) (big : Bool) → ((m n : Machine) → IsUnset m n → wanted big n ≡ wanted big m) →
    (order : Order) (a : Addr) (addrs : List Addr) (m : Machine) → IsOrdered m → have big m.peers ≤ have big (carries_out order m).machine.peers + 1 →
    Surplus have wanted big (a ∷ addrs) m → Surplus have wanted big addrs (carries_out order m).machine
surplus-left have wanted big stays order a addrs m h falls left = search (arith, order-unset)

-- one of a class at most changes its temperature
temps-fall : (of : Temp → Bool) (big : Bool) (a : Addr) (m n : Machine) → IsOrdered m → AreSameBut a m.peers n.peers →
    count_by (λ p. is_of big p && of p.temp) m.peers ≤ count_by (λ p. is_of big p && of p.temp) n.peers + 1
temps-fall of big a m n h same = counted-one a (λ p. is_of big p && of p.temp) (λ p. is_of big p && of p.temp) n.peers m.peers
    (apart-same a m.peers n.peers same h.formed.peers) (all-back a m.peers n.peers same) (λ p other. refl)

known-stays : (big : Bool) (m n : Machine) → IsUnset m n → known_wanted big n ≡ known_wanted big m
known-stays false m n u = λ i. (effective_of (u.targets i) (u.now i)).known
known-stays true m n u = λ i. (effective_big_of (u.big_targets i) (u.now i)).known

-- ---- a peer is forgotten

-- an ordinary one is neither a local peer nor a public root
abbrev MayDrop : Bool → Set → Addr → Peer → Type 0
MayDrop big s a p = (p.big ≡ big) × ((big || not (is_local s.groups a || is_listed a s.publics)) ≡ true)

abbrev HasTemp : Temp → ℕ → Peer → Type 0
HasTemp t now p = p.temp ≡ t

abbrev NonePasses : (Entry → Bool) → Seen → Type 0
NonePasses test see = see test ≡ false

forgets-spend : (big : Bool) → Spends (MayDrop big) (HasTemp Cold) (NonePasses (λ e. is_pending e.facts)) (Surplus known_of known_wanted big) Forget
forgets-spend big = record {
  carried = λ a addrs m h within may left. forget-carried IsLawful a m h within (record {
    cold = one-gives IsCold (peer_at a m) may.peer (λ p is. is.1);
    idle = λ e is. fails-found (λ x. is_pending x.facts) (λ x. is_live_at a x.facts) a
        (λ x at. (and_parts (same_address x.facts.addr a) (is_live x.facts) at).0) m.connections e may.seen is;
  });
  due = λ a addrs m h may left. one-gives (λ o. IsOne o (λ p. MayBeForgotten a p m)) (peer_at a m) may.peer (λ p is. search (arith, may.seen));
  leaves = λ a m h. record { found = λ b other. taken-elsewhere a b m.peers other; seen = λ b other here. here };
  left = λ a addrs m h may left. surplus-left known_of known_wanted big (known-stays big) (Forget a) a addrs m h (taken-count (is_of big) a m.peers h.formed.peers) left;
}

-- ---- a peer is released

abbrev InClass : Bool → Set → Addr → Peer → Type 0
InClass big s a p = OfClass big s.groups a p

releases-spend : (big : Bool) → Spends (InClass big) (HasTemp Warm) (NonePasses is_awaited) (Surplus established_of established_wanted big) Release
releases-spend big = record {
  carried = λ a addrs m h within may left. release-carried a m h within (λ e is.
      let none : is_awaited e ≡ false = fails-found is_awaited (is_used_at a) a
      (λ x at. (and_parts (same_address x.facts.addr a) (is_live x.facts) (and_parts (is_live_at a x.facts) x.facts.local at).0).0) m.connections e may.seen is in
      record { on_2 = grind (arith, none); on_8 = grind (arith, none); on_10 = grind (arith, none) });
  due = λ a addrs m h may left. one-gives (λ o. IsOne o (λ p. MayBeReleased a p m)) (peer_at a m) may.peer (λ p is. search (arith, may.seen));
  leaves = λ a m h. record {
    found = λ b other. found-same a b m.peers (carries_out (Release a) m).machine.peers other (release-leaves a m h).peers;
    seen = λ b other here. (release-leaves a m h).connections is_awaited b other here;
  };
  left = λ a addrs m h may left. surplus-left established_of established_wanted big (established-stays big) (Release a) a addrs m h
      (temps-fall is_established big a m (carries_out (Release a) m).machine h (release-leaves a m h).peers) left;
}

-- ---- a peer is asked for addresses

-- who can share has agreed on it on the connection in use
shares-may : (m : Machine) → IsOrdered m → (addr : Addr) → some_connection can_tell addr m ≡ true → MayAsk m addr
shares-may m h addr can e found = search (arith, live-passes, negotiated-live, local-negotiated, stands-shaped, some_same, used-here)

abbrev IsToAsk : ℕ → Peer → Type 0
IsToAsk now p = (is_established p.temp ≡ true) × (p.share_next ≤ now)

abbrev IsOrdinary : Set → Addr → Peer → Type 0
IsOrdinary s a p = p.big ≡ false

record AsksLeft (k : ℕ) (addrs : List Addr) (m : Machine) : Type 0 where
  few : length addrs ≤ m.settings.shares - number_with tells_soon false m
  missing : 1 ≤ length addrs → known_of false m.peers < known_wanted false m
  number : k ≡ min (known_wanted false m - known_of false m.peers) 10

asks-spend : (k : ℕ) → Spends IsOrdinary IsToAsk (λ see. see can_tell ≡ true) (AsksLeft k) (λ a. Ask a k)
asks-spend k = record {
  carried = λ a addrs m h within may left. ask-carried IsLawful k a m h within (shares-may m h a may.seen);
  due = λ a addrs m h may left. one-gives (λ o. IsOne o (λ p. MayBeAsked a k p m)) (peer_at a m) may.peer (λ p is. search (arith, may.seen, left.missing));
  leaves = λ a m h. changed-leaves (λ see. see can_tell ≡ true) a m (carries_out (Ask a k) m).machine (ask-changes a k m h);
  left = λ a addrs m h may left.
      let n : Machine = (carries_out (Ask a k) m).machine in
      let changes : ChangesAt a m n = ask-changes a k m h in
      let unset : IsUnset m n = order-unset (Ask a k) m h in
      let wanted : known_wanted false n ≡ known_wanted false m = known-stays false m n unset in
      let known : known_of false n.peers ≡ known_of false m.peers = known-same false a m.peers n.peers changes.peers in
      let more = number-one tells_soon (λ addr v w changed p other. changed.connections is_to_tell p.addr other) false a m n h.formed.peers changes in
      let shares : n.settings.shares ≡ m.settings.shares = ap (λ s. s.shares) unset.settings in
      let few = left.few in
      record {
        few = omega (arith, more, shares, few);
        missing = λ some. let short = left.missing (omega arith) in omega (arith, wanted, known, short);
        number = left.number ∙ sym (λ i. min (wanted i - known i) 10);
      };
}

-- ---- a peer is promoted, or activated

abbrev IsRested : ℕ → Peer → Type 0
IsRested now p = (p.temp ≡ Cold) × (p.not_before ≤ now)

abbrev IsFreeSeen : Seen → Type 0
IsFreeSeen see = (see (λ e. is_pending e.facts) ≡ false) × ((not (see is_any) || see (λ e. is_acquirable e.facts)) ≡ true)

-- where it is placed so that what is left of what is wanted lets it through
module _ (Place : List Group → Addr → Peer → Type 0) (Left : List Addr → Machine → Type 0) where
  lets : {counts : Machine → Peer → Bool} {wanted : Bool → Machine → ℕ} {valency : Group → ℕ} {order : Addr → Order}
      (uses : Uses counts wanted valency order) → Lets uses Place Left → (Fits : ℕ → Peer → Type 0) (Sees : Seen → Type 0) (a : Addr) (addrs : List Addr) (m : Machine) →
      IsOrdered m → May (λ s. Place s.groups) Fits Sees m a → Left (a ∷ addrs) m →
      IsWanted counts wanted valency a m (carries_out (order a) m).machine × Left addrs (carries_out (order a) m).machine
  lets {order} uses through Fits Sees a addrs m h may left =
      through a addrs m (carries_out (order a) m).machine h (order-unset (order a) m h) (uses.changes a m h)
      (λ p found. (one-found (λ q. Place m.groups a q × Fits m.now q) (peer_at a m) may.peer p found).0) left

  promotes-spend : Lets promotes-use Place Left → Spends (λ s. Place s.groups) IsRested IsFreeSeen Left Promote
  promotes-spend through = record {
    carried = λ a addrs m h within may left. trimmed_both IsAllowed Within IsLawful (allowed_within) m (carries_out (Promote a) m)
        (promotes-carried a m h within (record { free = free-may a m h may.seen.1; ready = one-gives (IsReady m.now) (peer_at a m) may.peer (λ p is. is.1.1) }))
        (promotes-use.within a m (lets promotes-use through IsRested IsFreeSeen a addrs m h may left).0);
    due = λ a addrs m h may left. one-gives (λ o. IsOne o (λ p. MayBePromoted a p m)) (peer_at a m) may.peer
        (λ p is. record { cold = is.1.0; idle = may.seen.0; free = may.seen.1 });
    leaves = λ a m h. changed-leaves IsFreeSeen a m (carries_out (Promote a) m).machine (promote-changes a m h);
    left = λ a addrs m h may left. (lets promotes-use through IsRested IsFreeSeen a addrs m h may left).1;
  }

  activates-spend : Lets activates-use Place Left → Spends (λ s. Place s.groups) (HasTemp Warm) (NonePasses is_to_answer) Left Activate
  activates-spend through = record {
    carried = λ a addrs m h within may left. trimmed_both IsAllowed Within IsLawful (allowed_within) m (carries_out (Activate a) m)
        (activate-carried a m h within (one-gives IsWarm (peer_at a m) may.peer (λ p is. is.1)))
        (activates-use.within a m (lets activates-use through (HasTemp Warm) (NonePasses is_to_answer) a addrs m h may left).0);
    due = λ a addrs m h may left. one-gives (λ o. IsOne o (λ p. MayBeActivated a p m)) (peer_at a m) may.peer (λ p is. record { warm = is.1; unasked = may.seen });
    leaves = λ a m h. changed-leaves (NonePasses is_to_answer) a m (carries_out (Activate a) m).machine (activate-changes a m h);
    left = λ a addrs m h may left. (lets activates-use through (HasTemp Warm) (NonePasses is_to_answer) a addrs m h may left).1;
  }

-- ---- a peer is deactivated

abbrev OnlyOf : Bool → Set → Addr → Peer → Type 0
OnlyOf big s a p = p.big ≡ big

-- whatever its connections are
abbrev Any : Seen → Type 0
Any see = Unit {0}

deactivate-leaves : (a : Addr) (m : Machine) → IsOrdered m → Leaves Any a m (carries_out (Deactivate a) m).machine
deactivate-leaves a m h = changed-leaves Any a m (carries_out (Deactivate a) m).machine (deactivate-changes a m h)

hot-falls : (big : Bool) (a : Addr) (m : Machine) → IsOrdered m → active_of big m.peers ≤ active_of big (carries_out (Deactivate a) m).machine.peers + 1
hot-falls big a m h = temps-fall is_active big a m (carries_out (Deactivate a) m).machine h (deactivate-changes a m h).peers

-- of big ledger peers, of which none is in a group
big_hot-spend : Spends (OnlyOf true) (HasTemp Hot) Any (Surplus active_of active_wanted true) Deactivate
big_hot-spend = record {
  carried = λ a addrs m h within may left. deactivate-carried IsLawful a m h within tt;
  due = λ a addrs m h may left. one-gives (λ o. IsOne o (λ p. MayBeDeactivated a p m)) (peer_at a m) may.peer (λ p is. record {
    hot = is.1;
    by_target = λ either. rw is.0 (omega (arith, left));
    by_valency = λ ordinary. absurd (both_ways p.big ordinary is.0);
  });
  leaves = deactivate-leaves;
  left = λ a addrs m h may left. surplus-left active_of active_wanted true (active-stays true) (Deactivate a) a addrs m h (hot-falls true a m h) left;
}

-- ---- of ordinary peers: by the target first, and then by the valencies

hot-local : IsLocalTest is_hot
hot-local addr m n h p other = refl

abbrev is_free_of : List Group → Addr → Bool
is_free_of groups a = not (is_local groups a)

-- behind a local peer no other one comes
abbrev TargetFirst : List Group → List Addr → Type 0
TargetFirst groups [] = Unit {0}
TargetFirst groups (a ∷ addrs) = (is_local groups a ≡ true → count_by (is_free_of groups) addrs ≡ 0) × TargetFirst groups addrs

abbrev HasHotLeft : List Addr → Machine → Group → Type 0
HasHotLeft addrs m group = listed_in group addrs ≤ members_with is_hot group m - group.hot

record HotLeft (addrs : List Addr) (m : Machine) : Type 0 where
  first : TargetFirst m.groups addrs
  by_target : count_by (is_free_of m.groups) addrs ≤ active_of false m.peers - active_wanted false m
  by_valency : AllByRecursion (HasHotLeft addrs m) m.groups

module _ (a : Addr) (addrs : List Addr) (m : Machine) (h : IsOrdered m) (left : HotLeft (a ∷ addrs) m) where
  by_valency : (group : Group) → HasHotLeft (a ∷ addrs) m group →
      (is_listed a group.members ≡ true → group.hot < members_with is_hot group m) × HasHotLeft addrs (carries_out (Deactivate a) m).machine group
  by_valency group number =
      let n : Machine = (carries_out (Deactivate a) m).machine in
      let changes : ChangesAt a m n = deactivate-changes a m h in
      let one = members-one is_hot hot-local group a n m (apart-same a m.peers n.peers changes.peers h.formed.peers) (ChangesAt-back a m n changes) in
      let none : is_listed a group.members ≡ false → members_with is_hot group m ≤ members_with is_hot group n =
      λ unlisted. members-none is_hot hot-local group a n m unlisted (ChangesAt-back a m n changes) in
      grind (arith, number, one, none, count-cons (λ b. is_listed b group.members) a addrs)

  hot-due : May (OnlyOf false) (HasTemp Hot) Any m a → IsDueOrder (Deactivate a) m
  hot-due may = one-gives (λ o. IsOne o (λ p. MayBeDeactivated a p m)) (peer_at a m) may.peer (λ p is. record {
    hot = is.1;
    by_target = λ either. let number = left.by_target in grind (arith, is.0, either, number, count-cons (is_free_of m.groups) a addrs);
    by_valency = λ ordinary. All-from_recursion (λ group. is_listed a group.members ≡ true → group.hot < members_with is_hot group m) m.groups
        (weaker m.groups (λ group number. (by_valency group number).0) left.by_valency);
  })

  hot-left : HotLeft addrs (carries_out (Deactivate a) m).machine
  hot-left =
      let n : Machine = (carries_out (Deactivate a) m).machine in
      let unset : IsUnset m n = order-unset (Deactivate a) m h in
      let wanted : active_wanted false n ≡ active_wanted false m = active-stays false m n unset in
      let number = left.by_target in
      let none = left.first.0 in
      let target : count_by (is_free_of m.groups) addrs ≤ active_of false n.peers - active_wanted false n =
      grind (arith, wanted, number, none, hot-falls false a m h, count-cons (is_free_of m.groups) a addrs) in
      record {
        first = subst (λ groups. TargetFirst groups addrs) (sym unset.groups) left.first.1;
        by_target = subst (λ groups. count_by (is_free_of groups) addrs ≤ active_of false n.peers - active_wanted false n) (sym unset.groups) target;
        by_valency = subst (AllByRecursion (HasHotLeft addrs n)) (sym unset.groups) (weaker m.groups (λ group number. (by_valency group number).1) left.by_valency);
      }

hot-spend : Spends (OnlyOf false) (HasTemp Hot) Any HotLeft Deactivate
hot-spend = record {
  carried = λ a addrs m h within may left. deactivate-carried IsLawful a m h within tt;
  due = λ a addrs m h may left. hot-due a addrs m h left may;
  leaves = deactivate-leaves;
  left = λ a addrs m h may left. hot-left a addrs m h left;
}

-- ---- whom a rule picks

abbrev links_of : Machine → List Link
links_of m = map link_of m.connections

-- what a test of a rule gives
abbrev Gives : (ℕ → Peer → Type 0) → (Seen → Type 0) → (Peer → Bool) → Machine → Type 0
Gives Fits Sees test m = (p : Peer) → test p ≡ true → Fits m.now p × Sees (seen_of p.addr m)

forget-gives : (m : Machine) → Gives (HasTemp Cold) (NonePasses (λ e. is_pending e.facts)) (may_be_forgotten (links_of m)) m
forget-gives m p passes = (is_temp p.temp Cold (grind (arith, passes)), grind (arith, passes, linked (λ l. l.pending) p.addr m.connections))

release-gives : (m : Machine) → Gives (HasTemp Warm) (NonePasses is_awaited) (may_be_released (links_of m)) m
release-gives m p passes = (is_temp p.temp Warm (grind (arith, passes)), grind (arith, passes, linked (λ l. l.owes2 || l.owes8 || l.owes10) p.addr m.connections))

ask-gives : (m : Machine) → Gives IsToAsk (λ see. see can_tell ≡ true) (may_be_asked m.now (links_of m)) m
ask-gives m p passes =
    ((grind (arith, passes), grind (arith, passes)), grind (arith, passes, linked (λ l. l.local && l.sharing && not l.owes10) p.addr m.connections))

promote-gives : (m : Machine) → Gives IsRested IsFreeSeen (is_eligible m.now (links_of m)) m
promote-gives m p passes = search (arith, is_temp, linked)

activate-gives : (m : Machine) → Gives (HasTemp Warm) (NonePasses is_to_answer) (may_be_activated (links_of m)) m
activate-gives m p passes = (is_temp p.temp Warm (grind (arith, passes)), grind (arith, passes, linked (λ l. l.owes2) p.addr m.connections))

deactivate-gives : (m : Machine) → Gives (HasTemp Hot) Any may_be_deactivated m
deactivate-gives m p passes = (is_temp p.temp Hot passes, tt)

chosen-may : (Place : Set → Addr → Peer → Type 0) (Fits : ℕ → Peer → Type 0) (Sees : Seen → Type 0) (big : Bool) (word number : ℕ) (among test : Peer → Bool)
    (m : Machine) → ArePeersApart m.peers → Gives Fits Sees test m → ((p : Peer) → p.big ≡ big → among p ≡ true → Place (set_of m) p.addr p) →
    AllByRecursion (May Place Fits Sees m) (chosen big word number (λ p. among p && test p) m.peers)
chosen-may Place Fits Sees big word number among test m apart gives place =
    chosen-all (May Place Fits Sees m) big word number (λ p. among p && test p) m.peers apart
    (λ p h found.
    let parts = and_parts (is_of big p) (among p && test p) h in
    let both = and_parts (among p) (test p) parts.1 in
    let given = gives p both.1 in
    record { peer = rw found (place p (of-class big p parts.0) both.0, given.0); seen = given.1 })

-- what a rule does with a machine that is in order and within the limit
abbrev pub DoesRight : (Machine → List Order) → Type 0
DoesRight orders = (m : Machine) → IsOrdered m → counted_in m ≤ m.settings.hard → Done (orders m) m

class-done : {Place : Set → Addr → Peer → Type 0} {Fits : ℕ → Peer → Type 0} {Sees : Seen → Type 0} {Left : List Addr → Machine → Type 0} {order : Addr → Order}
    (s : Spends Place Fits Sees Left order) (big : Bool) (word number : ℕ) (among : Addr → Bool) (test : Peer → Bool) (m : Machine) → IsOrdered m →
    counted_in m ≤ m.settings.hard → Gives Fits Sees test m → ((p : Peer) → p.big ≡ big → among p.addr ≡ true → Place (set_of m) p.addr p) →
    ((addrs : List Addr) → length addrs ≤ number → Left addrs m) → Done (orders_for big word order number (λ p. among p.addr && test p) m.peers) m
class-done {Place} {Fits} {Sees} s big word number among test m h within gives place left =
    let passes : Peer → Bool = λ p. among p.addr && test p in
    each-done s (chosen big word number passes m.peers) m h within (chosen-apart big word number passes m.peers h.formed.peers)
    (chosen-may Place Fits Sees big word number (λ p. among p.addr) test m h.formed.peers gives place)
    (left (chosen big word number passes m.peers) (picks-most big word number (filter (λ p. is_of big p && passes p) m.peers)))

groups-may : (Fits : ℕ → Peer → Type 0) (Sees : Seen → Type 0) (word : ℕ) (number : Group → ℕ) (test : Peer → Bool) (m : Machine) → IsOrdered m → Gives Fits Sees test m →
    AllByRecursion (May (OnlyOf false) Fits Sees m) (flat_map (picks_in word number test m.peers) m.groups)
groups-may Fits Sees word number test m h gives =
    groups_picks-all (May (OnlyOf false) Fits Sees m) (picks_in word number test m.peers) m.groups
    (λ g. chosen-may (OnlyOf false) Fits Sees false word (number g) (λ p. is_listed p.addr g.members) test m h.formed.peers gives (λ p ordinary is. ordinary))

groups-done : {Fits : ℕ → Peer → Type 0} {Sees : Seen → Type 0} {Left : List Addr → Machine → Type 0} {order : Addr → Order}
    (s : Spends (λ set. OfGroup set.groups) Fits Sees Left order) (word : ℕ) (number : Group → ℕ) (test : Peer → Bool) (m : Machine) → IsOrdered m →
    counted_in m ≤ m.settings.hard → Gives Fits Sees test m → Left (flat_map (picks_in word number test m.peers) m.groups) m →
    Done (flat_map (λ g. orders_for false word order (number g) (is_member_and g test) m.peers) m.groups) m
groups-done {Fits} {Sees} {Left} {order} s word number test m h within gives left =
    let pick : Group → List Addr = picks_in word number test m.peers in
    let picks : PicksMembers pick = group_picks word number test m.peers h.formed.peers in
    subst (λ orders. Done orders m) (sym (map-groups order pick m.groups))
    (each-done s (flat_map pick m.groups) m h within (groups_picks-apart pick m.groups picks h.formed.groups)
    (weaker-both (flat_map pick m.groups)
    (λ a local may. record { peer = one-gives (λ o. IsOne o (λ p. OfGroup m.groups a p × Fits m.now p)) (peer_at a m) may.peer (λ p is. ((is.0, local), is.1)); seen = may.seen })
    (picks-listed pick m.groups picks) (groups-may Fits Sees word number test m h gives)) left)

-- ---- by the target, and then by the valencies

first-local : (groups : List Group) (addrs : List Addr) → AllByRecursion (λ a. is_local groups a ≡ true) addrs → TargetFirst groups addrs
first-local groups [] h = tt
first-local groups (a ∷ addrs) h = (λ is. count_none (is_free_of groups) addrs (weaker addrs (λ b. ap not) h.1), first-local groups addrs h.1)

first-append : (groups : List Group) (xs ys : List Addr) → AllByRecursion (λ a. is_local groups a ≡ false) xs → TargetFirst groups ys → TargetFirst groups (xs ++ ys)
first-append groups [] ys free h = h
first-append groups (x ∷ xs) ys free h = (λ is. absurd (both_ways (is_local groups x) free.0 is), first-append groups xs ys free.1 h)

local-unlisted : (groups : List Group) (b : Addr) (xs : List Addr) → AllByRecursion (λ a. is_local groups a ≡ false) xs → is_local groups b ≡ true → is_listed b xs ≡ false
local-unlisted groups b [] free local = refl
local-unlisted groups b (x ∷ xs) free local = grind (arith, local, free.0, same_address-true b x, local-unlisted groups b xs free.1 local)

module _ (word : ℕ) (m : Machine) (h : IsOrdered m) where
  abbrev front : List Addr
  front = hot_free word m

  abbrev behind : List Addr
  behind = flat_map (hot_members word m) m.groups

  in_groups : PicksMembers (hot_members word m)
  in_groups = group_picks word (λ g. members_count g may_be_deactivated m.peers - g.hot) may_be_deactivated m.peers h.formed.peers

  free_front : AllByRecursion (λ a. is_local m.groups a ≡ false) front
  free_front = chosen-all (λ a. is_local m.groups a ≡ false) false word _ (λ p. is_not_local m.groups p.addr && may_be_deactivated p) m.peers h.formed.peers
      (λ p passes found.
      not_local-no_member p.addr m.groups (and_parts (is_not_local m.groups p.addr) (may_be_deactivated p) (and_parts (is_of false p) _ passes).1).0)

  local_behind : AllByRecursion (λ a. is_local m.groups a ≡ true) behind
  local_behind = picks-listed (hot_members word m) m.groups in_groups

  apart : AreApart (front ++ behind)
  apart = append-apart front behind (chosen-apart false word _ (λ p. is_not_local m.groups p.addr && may_be_deactivated p) m.peers h.formed.peers)
      (groups_picks-apart (hot_members word m) m.groups in_groups h.formed.groups)
      (weaker behind (λ b local. local-unlisted m.groups b front free_front local) local_behind)

  may_all : AllByRecursion (May (OnlyOf false) (HasTemp Hot) Any m) (front ++ behind)
  may_all = all-appended (May (OnlyOf false) (HasTemp Hot) Any m) front behind
      (chosen-may (OnlyOf false) (HasTemp Hot) Any false word _ (λ p. is_not_local m.groups p.addr) may_be_deactivated m h.formed.peers (deactivate-gives m) (λ p ordinary is. ordinary))
      (groups-may (HasTemp Hot) Any word _ may_be_deactivated m h (deactivate-gives m))

  hot_all : HotLeft (front ++ behind) m
  hot_all = record {
    first = first-append m.groups front behind free_front (first-local m.groups behind local_behind);
    by_target =
        let most = picks-most false word (active_of false m.peers - active_wanted false m)
        (filter (λ p. is_of false p && (is_not_local m.groups p.addr && may_be_deactivated p)) m.peers) in
        let all = count_by-le-length (is_free_of m.groups) front in
        let none = count_none (is_free_of m.groups) behind (weaker behind (λ b. ap not) local_behind) in
        omega (arith, most, all, none, count-append (is_free_of m.groups) front behind);
    by_valency = weaker-both m.groups (λ g zero few.
        let most = picks-most false word (members_count g may_be_deactivated m.peers - g.hot) (filter (λ p. is_of false p && is_member_and g may_be_deactivated p) m.peers) in
        let same : members_count g may_be_deactivated m.peers ≡ members_with is_hot g m =
        λ i. count_by (λ p. is_of false p && (is_listed p.addr g.members && hot-active p.temp i)) m.peers in
        omega (arith, zero, few, most, same, count-append (λ a. is_listed a g.members) front behind))
        (none_in-each front m.groups free_front) (own_picks (hot_members word m) m.groups in_groups h.formed.groups);
  }

g9-due : (word : ℕ) → DoesRight (λ m. g9_orders (view_of word m) m.peers m.groups)
g9-due word m h within = subst (λ orders. Done orders m) (sym (g9-same word m))
    (each-done hot-spend (front word m h ++ behind word m h) m h within (apart word m h) (may_all word m h) (hot_all word m h))

-- ---- each rule

g2-due : (word : ℕ) → DoesRight (λ m. g2_orders (view_of word m) m.peers)
g2-due word m h within =
    let missing : ℕ = missing_of (view_of word m) m.peers in
    let seen : count_of false (owes_on_10 (links_of m)) m.peers ≡ number_with tells_soon false m =
    λ i. count_by (λ p. is_of false p && linked (λ l. l.owes10) p.addr m.connections i) m.peers in
    class-done (asks-spend (min missing 10)) false word _ everybody (may_be_asked m.now (links_of m)) m h within (ask-gives m) (λ p class is. class)
    (λ addrs few. record { few = grind (arith, few, seen); missing = λ some. grind (arith, some, few); number = refl })

-- by the valencies
g4-due : (word : ℕ) → DoesRight (λ m. g4_orders (view_of word m) m.peers m.groups)
g4-due word m h within =
    groups-done (promotes-spend OfGroup (GroupsLeft promotes-use) (groups-lets promotes-use)) word _ (is_eligible m.now (links_of m)) m h within (promote-gives m)
    (groups-left promotes-use word (λ g. members_count g (λ p. is_established p.temp || is_pending_link (links_of m) p.addr) m.peers) (is_eligible m.now (links_of m)) m
    (λ g i. count_by (λ p. is_of false p && (is_listed p.addr g.members && (is_established p.temp || linked (λ l. l.pending) p.addr m.connections i))) m.peers) h)

g7-due : (word : ℕ) → DoesRight (λ m. g7_orders (view_of word m) m.peers m.groups)
g7-due word m h within =
    groups-done (activates-spend OfGroup (GroupsLeft activates-use) (groups-lets activates-use)) word _ (may_be_activated (links_of m)) m h within (activate-gives m)
    (groups-left activates-use word (λ g. members_count g (λ p. same_temp p.temp Hot || owes_on_2 (links_of m) p.addr) m.peers) (may_be_activated (links_of m)) m
    (λ g i. count_by (λ p. is_of false p && (is_listed p.addr g.members && (hot-active p.temp i || linked (λ l. l.owes2) p.addr m.connections i))) m.peers) h)

-- by the target of a class
module _ (big : Bool) (among : Machine → Addr → Bool) (only : (m : Machine) (a : Addr) → among m a ≡ true → (big || not (is_local m.groups a)) ≡ true) (word : ℕ) where
  promotes-due : DoesRight (λ m. promotes big (among m) (view_of word m) m.peers)
  promotes-due m h within = class-done (promotes-spend (OfClass big) (ClassLeft promotes-use big) (class-lets promotes-use big)) big word _ (among m) _ m h within
      (promote-gives m) (λ p class is. (class, only m p.addr is)) (λ addrs few. let most = promotes-number big word m in omega (arith, few, most))

  activates-due : DoesRight (λ m. activates big (among m) (view_of word m) m.peers)
  activates-due m h within = class-done (activates-spend (OfClass big) (ClassLeft activates-use big) (class-lets activates-use big)) big word _ (among m) _ m h within
      (activate-gives m) (λ p class is. (class, only m p.addr is)) (λ addrs few. let most = activates-number big word m in omega (arith, few, most))

-- of ordinary peers those that are no local ones
abbrev others : Machine → Addr → Bool
others m = is_not_local m.groups

no_local : (m : Machine) (a : Addr) → is_not_local m.groups a ≡ true → not (is_local m.groups a) ≡ true
no_local m a h = ap not (not_local-no_member a m.groups h)

g3-due : (word : ℕ) → DoesRight (λ m. g3_orders (view_of word m) m.peers m.groups m.roots.publics)
g3-due word m h within = class-done (forgets-spend false) false word _ (may_be_dropped m.groups m.roots.publics) _ m h within (forget-gives m)
    (λ p class is.
    let parts = and_parts (is_not_local m.groups p.addr) (not (is_listed p.addr m.roots.publics)) is in
    (class, rw (not_local-no_member p.addr m.groups parts.0, not-true (is_listed p.addr m.roots.publics) parts.1) refl)) (λ addrs few. few)

g6-due : (word : ℕ) → DoesRight (λ m. g6_orders (view_of word m) m.peers m.groups)
g6-due word m h within =
    class-done (releases-spend false) false word _ (others m) _ m h within (release-gives m) (λ p class is. (class, no_local m p.addr is)) (λ addrs few. few)

pub ordinary-due : (word : ℕ) → AllByRecursion (λ orders. DoesRight orders) (ordinary_rules word)
ordinary-due word =
    let five = promotes-due false others no_local word in
    let eight = activates-due false others no_local word in
    (g2-due word, (g3-due word, (g4-due word, (five, (g6-due word, (g7-due word, (eight, (g9-due word, tt))))))))

pub big-due : (word : ℕ) → AllByRecursion (λ orders. DoesRight orders) (big_rules word)
big-due word =
    let five = promotes-due true (λ m. everybody) (λ m a all. refl) word in
    let eight = activates-due true (λ m. everybody) (λ m a all. refl) word in
    (forgets, (five, (releases, (eight, (deactivates, tt)))))
  where
    forgets : DoesRight (λ m. big_orders B3 (view_of word m) m.peers)
    forgets m h within = class-done (forgets-spend true) true word _ everybody _ m h within (forget-gives m) (λ p class is. (class, refl)) (λ addrs few. few)

    releases : DoesRight (λ m. big_orders B6 (view_of word m) m.peers)
    releases m h within = class-done (releases-spend true) true word _ everybody _ m h within (release-gives m) (λ p class is. (class, refl)) (λ addrs few. few)

    deactivates : DoesRight (λ m. big_orders B9 (view_of word m) m.peers)
    deactivates m h within = class-done big_hot-spend true word _ everybody _ m h within (deactivate-gives m) (λ p class is. class) (λ addrs few. few)
