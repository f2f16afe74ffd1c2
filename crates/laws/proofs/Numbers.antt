-- Ids and jobs: how many a part of a step gives out, and how many the rules do. Distinct addresses of the book are no more than its
-- peers, so each peer is dialed once at most.
use Rattle.std.proofs.Common.{ℕ, ◌+◌, ◌≤◌, ◌≡◌, Bool, true, false, cond, not, ◌&&◌, List, [], ◌∷◌, length, count_by, Some, refl, ap, ◌∙◌, arith, ◌-◌, ◌||◌, ◌++◌, map, flat_map, sym, subst, Option, None, find}
use Rattle.laws.proofs.Words.{sum_by-cons, sum_by-filter_both, cond_both, and_parts, and_from}
use Rattle.laws.specs.Words.{AllByRecursion, option_map, has_address, without_peer, Addr, Group, Peer, is_of, is_listed, members_of, big_orders, is_eligible, orders_for, is_member_and, members_count, g4_orders, g5_orders, g9_orders, B5, Order, Ask, Forget, Promote, Release, Activate, Deactivate, is_established, Machine, Effect, for_each, link_of, view_of, carries_out, ordinary_rules, big_rules, rules, govern, failed_peer, CloseCause, Pruned, Overwritten, Cid, Facts, Warm, new_peer, entry_of, entered, Entry, on_entry, turns_at, peer_at, peer_changes, peer_comes, with_entry, without_entry, lost, ending, vanishes, trim, owing, is_acquirable, same_address, Cold, live_entry_at, peer_goes, acquire, release, dial, promoted_at, promote, is_used_at, asks_peer, activates, deactivates}
use Rattle.laws.specs.Steady.{ArePeersApart, AreApart, IsFormed, GivesFew}
use Rattle.laws.proofs.Chosen.{chosen, chosen-all, chosen-apart, PicksMembers, picks-listed, groups_picks-apart, groups_picks-all, map-groups, picks_in, group_picks, hot_free, hot_members, g9-same}
use Rattle.laws.proofs.Each.{weaker, weaker-both, count-cons}
use Rattle.laws.proofs.Addresses.{same_address-true}
use Rattle.laws.proofs.Spending.{class_at}
use Rattle.laws.proofs.Ties.{taken-elsewhere}
use Rattle.govern_rules.specs.Links.{is_pending as is_pending_link}
use Rattle.laws.proofs.Locals.{not_local-no_member}
use Rattle.laws.proofs.Keeping.{note-machine}
use Rattle.laws.proofs.PeersApart.{with_peer-apart, filter-apart}
use Rattle.laws.proofs.Books.{AtEach, changed-each, goes-each}
use Rattle.laws.proofs.ItemCases.{trim-cases}
use Rattle.laws.proofs.Cases.{by_option}
use Rattle.laws.proofs.Walk.{release-machine, cooled, turned_by, is_released}

-- ---- the numbers that are given next

pub record Numbers : Type 0 where
  pub id : ℕ
  pub job : ℕ

abbrev pub numbers_of : Machine → Numbers
numbers_of m = record { id = m.next_id; job = m.roots.next_job }

-- at most so many ids are given, and no job
pub record Gains (ids : ℕ) (before after : Numbers) : Type 0 where
  pub id : after.id ≤ before.id + ids
  pub job : after.job ≡ before.job

pub unchanged : {ids : ℕ} {before after : Numbers} → after ≡ before → Gains ids before after
unchanged equal = record { id = let ids = ap (λ n. n.id) equal in omega (arith, ids); job = ap (λ n. n.job) equal }

pub one_more : (m : Numbers) → Gains 1 m (record m { id = m.id + 1 })
one_more m = record { id = omega arith; job = refl }

pub gains_then : (i j : ℕ) {m n o : Numbers} → Gains i m n → Gains j n o → Gains (i + j) m o
gains_then i j first second = record { id = omega (arith, first.id, second.id); job = second.job ∙ first.job }

pub none_then : {m n o : Numbers} → Gains 0 m n → Gains 0 n o → Gains 0 m o
none_then first second = gains_then 0 0 first second

-- ---- a part of a step

-- the class of whoever is there after it is what it was
abbrev IsOfClass : Addr → Option Peer → Option Peer → Type 0
IsOfClass a before after = (big : Bool) → option_map (λ p. p.big) after ≡ Some big → option_map (λ p. p.big) before ≡ Some big

-- And no peer comes, and none changes its class.
pub record Gives (ids : ℕ) (before after : Machine) : Type 0 where
  pub numbers : Gains ids (numbers_of before) (numbers_of after)
  pub groups : after.groups ≡ before.groups
  pub apart : ArePeersApart before.peers → ArePeersApart after.peers
  pub kept : AtEach IsOfClass before after

pub gives_nothing : (m : Machine) → Gives 0 m m
gives_nothing m = record { numbers = unchanged refl; groups = refl; apart = λ h. h; kept = λ a big is. is }

pub gives_then : {i j : ℕ} {m n o : Machine} → Gives i m n → Gives j n o → Gives (i + j) m o
gives_then {i} {j} first second = search (arith, gains_then)

pub gives_more : {i j : ℕ} {m n : Machine} → i ≤ j → Gives i m n → Gives j m n
gives_more more h = record { numbers = record { id = omega (arith, more, h.numbers.id); job = h.numbers.job }; groups = h.groups; apart = h.apart; kept = h.kept }

connections-gives : (connections : List Entry) (m : Machine) → Gives 0 m (record m { connections = connections })
connections-gives connections m = record { numbers = unchanged refl; groups = refl; apart = λ h. h; kept = λ a big is. is }

-- a change that keeps addresses and classes
changes-gives : (addr : Addr) (change : Peer → Peer) (m : Machine) → ((p : Peer) → (change p).addr ≡ p.addr) → ((p : Peer) → (change p).big ≡ p.big) →
    Gives 0 m (peer_changes addr change m).machine
changes-gives addr change m same class =
    let kept = changed-each IsOfClass (λ a o big is. is) addr change m same (λ p big is. ap Some (sym (class p)) ∙ is) in
    by_option (peer_at addr m) (λ o. AtEach IsOfClass m (turns_at o change m).machine → Gives 0 m (turns_at o change m).machine)
    (λ is kept. gives_nothing m) (λ p is kept. record { numbers = unchanged refl; groups = refl; apart = with_peer-apart (change p) m.peers; kept = kept }) kept

-- ---- a connection goes

lost-gives : (f : Facts) (m : Machine) → Gives 0 m (lost f m).machine
lost-gives f m = grind (arith, gives_nothing m, changes-gives f.addr (failed_peer m.now m.settings.backoff) m (λ p. refl) (λ p. refl))

ending-gives : (cause : CloseCause) (e : Entry) (m : Machine) → Gives 0 m (ending cause e m).machine
ending-gives Overwritten e m = connections-gives _ m
ending-gives other e m = gives_then (connections-gives _ m) (lost-gives e.facts (without_entry e.facts.cid.0 m))

on_entry-gives : (k : ℕ) (act : Entry → Machine → Effect) → ((e : Entry) (m : Machine) → Gives k m (act e m).machine) → (o : Option Entry) (m : Machine) →
    Gives k m (on_entry o act m).machine
on_entry-gives k act each None m = gives_more (omega arith) (gives_nothing m)
on_entry-gives k act each (Some e) m = each e m

trim-gives : (moved : Cid) (m : Machine) → Gives 0 m (trim moved m).machine
trim-gives moved m = trim-cases moved m (λ effect. Gives 0 m effect.machine) (gives_nothing m) (λ e is. ending-gives Pruned e m)

-- ---- a part of which this alone is said, whatever comes of the book

abbrev pub GivesNone : Machine → Machine → Type 0
GivesNone before after = Gains 0 (numbers_of before) (numbers_of after)

abbrev pub GivesOne : Machine → Machine → Type 0
GivesOne before after = Gains 1 (numbers_of before) (numbers_of after)

pub turns_at-none : (o : Option Peer) (change : Peer → Peer) (m : Machine) → GivesNone m (turns_at o change m).machine
turns_at-none None change m = unchanged refl
turns_at-none (Some p) change m = unchanged refl

pub peer_comes-none : (big : Bool) (addr : Addr) (m : Machine) → GivesNone m (peer_comes big addr m).machine
peer_comes-none big addr m = search (arith, note-machine, unchanged)

pub for_each-none : {X : Type 0} (act : X → Machine → Effect) → ((x : X) (m : Machine) → GivesNone m (act x m).machine) → (xs : List X) (m : Machine) →
    GivesNone m (for_each act xs m).machine
unfolding for_each
for_each-none act each [] m = unchanged refl
for_each-none act each (x ∷ xs) m =
    let n : Machine = (act x m).machine in
    none_then (each x m) (for_each-none act each xs n)

pub ending-none : (cause : CloseCause) (e : Entry) (m : Machine) → GivesNone m (ending cause e m).machine
ending-none cause e m = (ending-gives cause e m).numbers

pub vanishes-none : (e : Entry) (m : Machine) → GivesNone m (vanishes e m).machine
vanishes-none e m = (lost-gives e.facts (without_entry e.facts.cid.0 m)).numbers

-- ---- the governor's orders

-- a connection turns, and its peer
turn-gives : (new : Entry) (addr : Addr) (change : Peer → Peer) (m : Machine) → ((p : Peer) → (change p).addr ≡ p.addr) → ((p : Peer) → (change p).big ≡ p.big) →
    Gives 0 m (peer_changes addr change (with_entry new m)).machine
turn-gives new addr change m same class = gives_then (connections-gives (with_entry new m).connections m) (changes-gives addr change (with_entry new m) same class)

release-gives : (e : Entry) (m : Machine) → Gives 0 m (release e m).machine
release-gives e m = subst (Gives 0 m) (sym (release-machine e m)) (gives_then
    (turn-gives (turned_by is_released e m) e.facts.addr (λ p. record p { temp = Cold }) m (λ p. refl) (λ p. refl)) (trim-gives e.facts.cid (cooled e m)))

-- who is forgotten has no class
peer_goes-gives : (addr : Addr) (m : Machine) → Gives 0 m (peer_goes addr m).machine
peer_goes-gives addr m = record {
  numbers = unchanged refl;
  groups = refl;
  apart = filter-apart (λ p. not (same_address p.addr addr)) m.peers;
  kept = goes-each IsOfClass (λ a o big is. is) addr m (λ p big is. absurd cc);
}

dial-gives : (addr : Addr) (m : Machine) → Gives 1 m (dial addr m).machine
dial-gives addr m = record { numbers = one_more (numbers_of m); groups = refl; apart = λ h. h; kept = λ a big is. is }

promote-gives : (addr : Addr) (m : Machine) → Gives 1 m (promote addr m).machine
promote-gives addr m = by_option (live_entry_at addr m) (λ o. Gives 1 m (promoted_at o addr m).machine)
    (λ is. dial-gives addr m)
    (λ e is. cond_both (is_acquirable e.facts) (acquire e m) (dial addr m) (λ effect. Gives 1 m effect.machine)
    (λ free. gives_more (omega arith) (turn-gives _ e.facts.addr (λ p. record p { temp = Warm; failures = 0 }) m (λ p. refl) (λ p. refl))) (λ other. dial-gives addr m))

-- ---- many orders

-- the ids that an order may give
abbrev pub ids_of : Order → ℕ
ids_of (Promote addr) = 1
ids_of other = 0

carries-gives : (order : Order) (m : Machine) → Gives (ids_of order) m (carries_out order m).machine
carries-gives (Ask addr number) m = search (arith, on_entry-gives, turn-gives)
carries-gives (Forget addr) m = peer_goes-gives addr m
carries-gives (Promote addr) m = promote-gives addr m
carries-gives (Release addr) m = on_entry-gives 0 release release-gives (find (is_used_at addr) m.connections) m
carries-gives (Activate addr) m = search (arith, on_entry-gives, connections-gives)
carries-gives (Deactivate addr) m = search (arith, on_entry-gives, changes-gives)

-- orders that give none
pub still-gives : (order : Addr → Order) → ((addr : Addr) → ids_of (order addr) ≡ 0) → (addrs : List Addr) (m : Machine) →
    Gives 0 m (for_each carries_out (map order addrs) m).machine
unfolding for_each
still-gives order none [] m = gives_nothing m
still-gives order none (a ∷ addrs) m = search (arith, gives_then, carries-gives, still-gives order none addrs (carries_out (order a) m).machine)

pub promotes-gives : (addrs : List Addr) (m : Machine) → Gives (length addrs) m (for_each carries_out (map Promote addrs) m).machine
unfolding for_each
promotes-gives [] m = gives_nothing m
promotes-gives (a ∷ addrs) m = gives_more (omega arith) (gives_then (promote-gives a m) (promotes-gives addrs (promote a m).machine))

-- ---- distinct addresses, each found in the book, are no more than peers

-- how many peers have an address and a class that pass a test
abbrev pub number_of : (Addr → Bool → Bool) → List Peer → ℕ
number_of test = count_by (λ p. test p.addr p.big)

pub record IsFoundWith (test : Addr → Bool → Bool) (peers : List Peer) (a : Addr) : Type 0 where
  pub big : Bool
  pub found : class_at a peers ≡ Some big
  pub passes : test a big ≡ true

-- without the peer of such an address it is one less
one_goes : (test : Addr → Bool → Bool) (a : Addr) (big : Bool) (ps : List Peer) → test a big ≡ true → class_at a ps ≡ Some big →
    number_of test (without_peer a ps) + 1 ≤ number_of test ps
one_goes test a big [] passes found = absurd cc
one_goes test a big (q ∷ ps) passes found =
    let one : Peer → ℕ = λ p. cond {A = ℕ} (test p.addr p.big) 1 0 in
    let both = sum_by-filter_both (has_address a) (λ p. not (has_address a p)) (λ p. refl) one ps in
    grind (arith, found, passes, same_address-true q.addr a, one_goes test a big ps passes, sum_by-cons one q ps, sum_by-cons one q (without_peer a ps), both)

pub distinct-number : (test : Addr → Bool → Bool) (addrs : List Addr) (ps : List Peer) → AreApart addrs → AllByRecursion (IsFoundWith test ps) addrs →
    length addrs ≤ number_of test ps
distinct-number test [] ps apart found = omega arith
distinct-number test (a ∷ addrs) ps apart found =
    let others : AllByRecursion (IsFoundWith test (without_peer a ps)) addrs = weaker-both addrs
    (λ b other h. record { big = h.big; found = ap (option_map (λ p. p.big)) (taken-elsewhere a b ps other) ∙ h.found; passes = h.passes }) apart.0 found.1 in
    omega (arith, one_goes test a found.0.big ps found.0.passes found.0.found, distinct-number test addrs (without_peer a ps) apart.1 others)

-- ---- whom the rules pick

-- a peer is a local one, another ordinary one, or a big ledger peer
abbrev pub is_local_one : List Group → Addr → Bool → Bool
is_local_one groups a big = not big && is_listed a (members_of groups)

abbrev pub is_other_one : List Group → Addr → Bool → Bool
is_other_one groups a big = not big && not (is_listed a (members_of groups))

abbrev pub is_big_one : Addr → Bool → Bool
is_big_one a big = big

pub kinds-number : (groups : List Group) (ps : List Peer) →
    number_of (is_local_one groups) ps + number_of (is_other_one groups) ps + number_of is_big_one ps ≤ length ps
kinds-number groups [] = omega arith
kinds-number groups (p ∷ ps) = grind (
  arith,
  kinds-number groups ps,
  count-cons (λ x. is_local_one groups x.addr x.big) p ps,
  count-cons (λ x. is_other_one groups x.addr x.big) p ps,
  count-cons (λ x. x.big) p ps,
)

-- whoever is picked is of a kind where the candidates are
pub chosen-found : (kind : Addr → Bool → Bool) (big : Bool) (word number : ℕ) (test : Peer → Bool) (peers : List Peer) → ArePeersApart peers →
    ((p : Peer) → (is_of big p && test p) ≡ true → kind p.addr p.big ≡ true) → AllByRecursion (IsFoundWith kind peers) (chosen big word number test peers)
chosen-found kind big word number test peers apart gives =
    chosen-all (IsFoundWith kind peers) big word number test peers apart (λ p h found. record { big = p.big; found = ap (option_map (λ q. q.big)) found; passes = gives p h })

-- ---- each rule

-- From a record on, after other rules that gave so many ids, a rule gives so many more at most.
record DoesGive (start : Machine) (ids : ℕ) (act : Machine → Effect) : Type 0 where
  gives : (given : ℕ) (m : Machine) → Gives given start m → Gives (given + ids) start (act m).machine

still-rule : {start : Machine} {act : Machine → Effect} → ((m : Machine) → Gives 0 m (act m).machine) → DoesGive start 0 act
still-rule each = record { gives = λ given m h. gives_then h (each m) }

no_rules : (start : Machine) → DoesGive start 0 (for_each rules [])
unfolding for_each
no_rules start = record { gives = λ given m h. gives_then h (gives_nothing m) }

rule_then : {start : Machine} {i j : ℕ} (r : Machine → List Order) (rs : List (Machine → List Order)) → DoesGive start i (rules r) →
    DoesGive start j (for_each rules rs) → DoesGive start (i + j) (for_each rules (r ∷ rs))
unfolding for_each
rule_then {start} {i} {j} r rs first second =
    record { gives = λ given m h. gives_more (omega arith) (second.gives (given + i) (rules r m).machine (first.gives given m h)) }

-- addresses that are apart and of a kind are promoted
kind-rule : (start : Machine) (kind : Addr → Bool → Bool) (addrs : List Addr) (given : ℕ) (m : Machine) → ArePeersApart start.peers → Gives given start m →
    AreApart addrs → AllByRecursion (IsFoundWith kind m.peers) addrs →
    Gives (given + number_of kind start.peers) start (for_each carries_out (map Promote addrs) m).machine
kind-rule start kind addrs given m peers h apart found =
    let n : Machine = (for_each carries_out (map Promote addrs) m).machine in
    let known : AllByRecursion (IsFoundWith kind start.peers) addrs = weaker addrs (λ a x. record { big = x.big; found = h.kept a x.big x.found; passes = x.passes }) found in
    gives_then h (gives_more (distinct-number kind addrs start.peers apart known) (promotes-gives addrs m))

g4-rule : (start : Machine) (word : ℕ) → ArePeersApart start.peers → AreApart (members_of start.groups) →
    DoesGive start (number_of (is_local_one start.groups) start.peers) (rules (λ m. g4_orders (view_of word m) m.peers m.groups))
g4-rule start word peers members = record {
  gives = λ given m h.
      let here : ArePeersApart m.peers = h.apart peers in
      let eligible : Peer → Bool = is_eligible m.now (map link_of m.connections) in
      let number : Group → ℕ = λ g. g.warm - members_count g (λ p. is_established p.temp || is_pending_link (map link_of m.connections) p.addr) m.peers in
      let pick : Group → List Addr = picks_in word number eligible m.peers in
      let picks : PicksMembers pick = group_picks word number eligible m.peers here in
      let small : AllByRecursion (IsFoundWith (λ a big. not big) m.peers) (flat_map pick m.groups) = groups_picks-all (IsFoundWith (λ a big. not big) m.peers) pick m.groups
      (λ g. chosen-found (λ a big. not big) false word (number g) (is_member_and g eligible) m.peers here (λ p passes. (and_parts (not p.big) (is_member_and g eligible p) passes).0)) in
      subst (λ orders. Gives (given + number_of (is_local_one start.groups) start.peers) start (for_each carries_out orders m).machine) (sym (map-groups Promote pick m.groups))
      (kind-rule start (is_local_one start.groups) (flat_map pick m.groups) given m peers h
      (groups_picks-apart pick m.groups picks (subst (λ gs. AreApart (members_of gs)) (sym h.groups) members))
      (weaker-both (flat_map pick m.groups) (λ a listed x. record {
        big = x.big;
        found = x.found;
        passes = and_from (not x.big) (is_listed a (members_of start.groups)) x.passes (ap (λ gs. is_listed a (members_of gs)) (sym h.groups) ∙ listed);
      }) (picks-listed pick m.groups picks) small));
}

-- a rule by the targets
class-rule : (start : Machine) (kind : Addr → Bool → Bool) (big : Bool) (word : ℕ) (number : Machine → ℕ) (test : Machine → Peer → Bool) → ArePeersApart start.peers →
    ((m : Machine) (p : Peer) → m.groups ≡ start.groups → (is_of big p && test m p) ≡ true → kind p.addr p.big ≡ true) →
    DoesGive start (number_of kind start.peers) (rules (λ m. orders_for big word Promote (number m) (test m) m.peers))
class-rule start kind big word number test peers gives = record {
  gives = λ given m h.
      kind-rule start kind (chosen big word (number m) (test m) m.peers) given m peers h (chosen-apart big word (number m) (test m) m.peers (h.apart peers))
      (chosen-found kind big word (number m) (test m) m.peers (h.apart peers) (λ p passes. gives m p h.groups passes));
}

g5-rule : (start : Machine) (word : ℕ) → ArePeersApart start.peers →
    DoesGive start (number_of (is_other_one start.groups) start.peers) (rules (λ m. g5_orders (view_of word m) m.peers m.groups))
g5-rule start word peers = class-rule start (is_other_one start.groups) false word _ _ peers
    (λ m p same passes. grind (arith, passes, same, not_local-no_member p.addr start.groups))

b5-rule : (start : Machine) (word : ℕ) → ArePeersApart start.peers →
    DoesGive start (number_of is_big_one start.peers) (rules (λ m. big_orders B5 (view_of word m) m.peers))
b5-rule start word peers = class-rule start is_big_one true word _ _ peers (λ m p same passes. grind (arith, passes))

-- orders by the valencies that give no id
groups-still : (order : Addr → Order) → ((addr : Addr) → ids_of (order addr) ≡ 0) → (word : ℕ) (number : Group → ℕ) (test : Peer → Bool) (m : Machine) →
    Gives 0 m (for_each carries_out (flat_map (λ g. orders_for false word order (number g) (is_member_and g test) m.peers) m.groups) m).machine
groups-still order none word number test m =
    let pick : Group → List Addr = picks_in word number test m.peers in
    subst (λ orders. Gives 0 m (for_each carries_out orders m).machine) (sym (map-groups order pick m.groups)) (still-gives order none (flat_map pick m.groups) m)

g9-gives : (word : ℕ) (m : Machine) → Gives 0 m (rules (λ o. g9_orders (view_of word o) o.peers o.groups) m).machine
g9-gives word m = subst (λ orders. Gives 0 m (for_each carries_out orders m).machine) (sym (g9-same word m))
    (still-gives Deactivate (λ addr. refl) (hot_free word m ++ flat_map (hot_members word m) m.groups) m)

-- ---- all rules

-- what the rules for a class may give in all
abbrev ordinary_ids : Machine → ℕ
ordinary_ids start =
    0 + (0 + (number_of (is_local_one start.groups) start.peers + (number_of (is_other_one start.groups) start.peers + (0 + (0 + (0 + (0 + 0)))))))

abbrev big_ids : Machine → ℕ
big_ids start = 0 + (number_of is_big_one start.peers + (0 + (0 + (0 + 0))))

ordinary-give : (start : Machine) (word : ℕ) → ArePeersApart start.peers → AreApart (members_of start.groups) →
    DoesGive start (ordinary_ids start) (for_each rules (ordinary_rules word))
ordinary-give start word peers members =
    rule_then _ _ (still-rule (λ m. still-gives (λ addr. Ask addr _) (λ addr. refl) _ m)) (rule_then _ _ (still-rule (λ m. still-gives Forget (λ addr. refl) _ m))
    (rule_then _ _ (g4-rule start word peers members) (rule_then _ _ (g5-rule start word peers)
    (rule_then _ _ (still-rule (λ m. still-gives Release (λ addr. refl) _ m)) (rule_then _ _ (still-rule (λ m. groups-still Activate (λ addr. refl) word _ _ m))
    (rule_then _ _ (still-rule (λ m. still-gives Activate (λ addr. refl) _ m)) (rule_then _ _ (still-rule (g9-gives word)) (no_rules start))))))))

big-give : (start : Machine) (word : ℕ) → ArePeersApart start.peers → DoesGive start (big_ids start) (for_each rules (big_rules word))
big-give start word peers =
    rule_then _ _ (still-rule (λ m. still-gives Forget (λ addr. refl) _ m)) (rule_then _ _ (b5-rule start word peers)
    (rule_then _ _ (still-rule (λ m. still-gives Release (λ addr. refl) _ m)) (rule_then _ _ (still-rule (λ m. still-gives Activate (λ addr. refl) _ m))
    (rule_then _ _ (still-rule (λ m. still-gives Deactivate (λ addr. refl) _ m)) (no_rules start)))))

-- from a record on in which all other rules start
pub rules-give : (word : ℕ) (m : Machine) → ArePeersApart m.peers → AreApart (members_of m.groups) →
    Gains (length m.peers) (numbers_of m) (numbers_of (for_each rules (big_rules word) (for_each rules (ordinary_rules word) m).machine).machine)
rules-give word m peers members =
    let n : Machine = (for_each rules (ordinary_rules word) m).machine in
    let ordinary : Gives (0 + ordinary_ids m) m n = (ordinary-give m word peers members).gives 0 m (gives_nothing m) in
    let all = (big-give m word peers).gives (0 + ordinary_ids m) n ordinary in
    record { id = omega (arith, all.numbers.id, kinds-number m.groups m.peers); job = all.numbers.job }

-- each peer is dialed once at most, and the provider asked once
pub govern-few : (word : ℕ) (m : Machine) → IsFormed m → GivesFew m (govern word m).machine
govern-few word m h = search (arith, rules-give)
