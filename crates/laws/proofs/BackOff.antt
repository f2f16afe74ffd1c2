-- What is remembered of peers, and whose failures are forgiven, through each part of an event.
use Rattle.std.proofs.Common.{ℕ, ◌+◌, ◌≡◌, ◌⊎◌, Bool, true, false, ◌||◌, ◌==◌, if◌then◌else◌, List, find, Option, Some, None, refl, sym, ap, ◌∙◌, subst, inl, inr, arith, eqb-true}
use Rattle.laws.proofs.Words.{list_any_at, cond_both, both_ways, false≢true, and_parts, false_from_ne_true, not-true}
use Rattle.laws.specs.Words.{option_map, unwrap_or, choice_of, is_candidate, acquired, has_id, is_acquirable, is_dialing, is_live, is_live_at, is_negotiated, is_pending, runs, Order, Ask, Forget, Promote, Release, Activate, Deactivate, verdict_of, answer_of, Verdict, kind_of, CutFault, Item, same_address, failed_peer, CloseCause, Pruned, Overwritten, Refused, Query, Fault, Protocol, HandshakeWait, ReplyWait, Agreed, Addr, Facts, Phase, Greeting, Negotiated, Peer, Temp, Cold, Warm, Hot, Kind, Seen, with_entry, without_entry, is_missed, lost, ending, vanishes, acquire, candidates_in, trim, release, awake, dial, fires_as, Effect, nothing_more, on_entry, closes, dialed, promoted_at, on_used, asks_peer, activates, deactivates, carries_out, role_of, judged, greets, Machine, Entry, entry_at, live_entry_at, own_info, peer_at, peer_changes, peer_fails, peer_becomes, peer_comes, is_wanted_big, owing, paid, handled_in, handled, faulted, serves, begins, brings, talks, is_greeting_phase, Cid}
use Rattle.laws.specs.Words.verdict
use Rattle.laws.specs.Words.kind
use Rattle.laws.specs.Acts.{Act, fires_one, carries, ends_dial, handles_item, ends_stream, is_closed, makes_ordinary, provides, provides_big, does}
use Rattle.laws.specs.BackOff.{IsRemembered, WhereBoth, AllRemembered, OthersRemembered, IsAsked, IsTaken, RemembersByOrder, RemembersBeside, Remembers, IsSpared, FailsOnly, has_lost}
use Rattle.laws.specs.Sound.{IsOrderly}
use Rattle.laws.specs.Steady.{IsShaped, IsOrdered}
use Rattle.laws.proofs.Addresses.{same_address-self, same_address-true}
use Rattle.laws.proofs.CarriedOut.{changed-orderly, treats-book, changed-here, turned-here}
use Rattle.laws.proofs.Entries.{turned-orderly}
use Rattle.laws.proofs.Failures.{changed-found}
use Rattle.laws.proofs.Goes.{vanishes-none}
use Rattle.laws.proofs.ItemCases.{greets-cases, talks-cases, brings-cases, trim-cases}
use Rattle.laws.proofs.Spending.{used-changes}
use Rattle.laws.proofs.Walk.{taken, agrees_inbound, agrees_outbound, is_released, awakes, turned_by, cooled, answer-machine, release-machine, replies-machine, Finds}
use Rattle.laws.proofs.Lawful.{stands-found}
use Rattle.laws.proofs.Lists.{StandsAt, FoundIn, find_some, All-stands}
use Rattle.laws.proofs.Moments.{ending-none, turned-found}
use Rattle.laws.proofs.PeersApart.{by_address}
use Rattle.laws.proofs.Pruning.{chosen-goes}
use Rattle.laws.proofs.Shapes.{local-negotiated}
use Rattle.laws.proofs.Ties.{turns_at-elsewhere}
use Rattle.laws.proofs.ToldMoves.{turns_at-connections}
use Rattle.laws.proofs.WholeMoves.{pending-unnegotiated}
use Rattle.laws.specs.CarriedOut.{OnPeer, WhereGreeting, is_in_use, Forgives}
use Rattle.laws.proofs.Books.{AtEach, same-each, changed-each, comes-each, goes-each}
use Rattle.laws.proofs.Cases.{by_bool, by_option, some_same}

-- ---- whoever is there is there still

-- and stands so to what it was
abbrev Stays : (Peer → Peer → Type 0) → Option Peer → Option Peer → Type 0
Stays law None after = Unit {0}
Stays law (Some p) None = ⊥
Stays law (Some p) (Some q) = law p q

stays_itself : (law : Peer → Peer → Type 0) → ((p : Peer) → law p p) → (o : Option Peer) → Stays law o o
stays_itself law each None = tt
stays_itself law each (Some p) = each p

stays_then : (P Q R : Peer → Peer → Type 0) → ((p q r : Peer) → P p q → Q q r → R p r) → (a b c : Option Peer) → Stays P a b → Stays Q b c → Stays R a c
stays_then P Q R joins None b c one two = tt
stays_then P Q R joins (Some p) None c one two = elim one [ ]
stays_then P Q R joins (Some p) (Some q) None one two = elim two [ ]
stays_then P Q R joins (Some p) (Some q) (Some r) one two = joins p q r one two

stays_both : (P Q : Peer → Peer → Type 0) → ((p q : Peer) → P p q → Q p q) → (a b : Option Peer) → Stays P a b → WhereBoth Q a b
stays_both P Q each (Some p) (Some q) stays = each p q stays
stays_both P Q each None b stays = tt
stays_both P Q each a None stays = tt

-- it is remembered as before
abbrev StillAt : Option Peer → Option Peer → Type 0
StillAt = Stays IsRemembered

still_itself : (o : Option Peer) → StillAt o o
still_itself = stays_itself IsRemembered (λ p. assumption)

still_then : (a b c : Option Peer) → StillAt a b → StillAt b c → StillAt a c
still_then = search (arith, stays_then)

abbrev Still : Machine → Machine → Type 0
Still = AtEach (λ a. StillAt)

-- but at one address
abbrev Others : Addr → Machine → Machine → Type 0
Others a m n = (b : Addr) → same_address b a ≡ false → StillAt (peer_at b m) (peer_at b n)

same-still : (m n : Machine) → n.peers ≡ m.peers → Still m n
same-still = same-each (λ a. StillAt) (λ a. still_itself)

both-still : (m n o : Machine) → Still m n → Still n o → Still m o
both-still m n o one two b = still_then (peer_at b m) (peer_at b n) (peer_at b o) (one b) (two b)

-- it has not failed
remembered-spared : (p q : Peer) → IsRemembered p q → IsSpared p q
remembered-spared p q h = record { failures = let same = h.failures in omega arith; not_before = h.not_before }

spared_then : (a b c : Option Peer) → Stays IsSpared a b → StillAt b c → Stays IsSpared a c
spared_then = search (arith, stays_then)

-- What happens on a connection leaves all other peers; and its own has lost it, while it was missed, or has not failed.
record Beside (e : Entry) (m n : Machine) : Type 0 where
  others : Others e.facts.addr m n
  own : ((is_missed e.facts ≡ true) × (entry_at e.facts.cid.0 n ≡ None)) ⊎ Stays IsSpared (peer_at e.facts.addr m) (peer_at e.facts.addr n)

still-beside : {e : Entry} {m n : Machine} → Still m n → Beside e m n
still-beside {e} {m} {n} still = search (arith, spared_then, stays_itself)

same-beside : {e : Entry} {m n : Machine} → n.peers ≡ m.peers → Beside e m n
same-beside {e} {m} {n} same = still-beside (same-still m n same)

-- ---- changes of a peer

changed-others : (a : Addr) (change : Peer → Peer) (m : Machine) → ((p : Peer) → (change p).addr ≡ p.addr) → Others a m (peer_changes a change m).machine
changed-others a change m same b other = subst (StillAt (peer_at b m)) (sym (turns_at-elsewhere a change m same b other)) (still_itself (peer_at b m))

-- the peer of one address alone changes, and by a law
abbrev Only : (Peer → Peer → Type 0) → Addr → Machine → Machine → Type 0
Only law a m n = Others a m n × Stays law (peer_at a m) (peer_at a n)

only-same : (law : Peer → Peer → Type 0) → ((p : Peer) → law p p) → (a : Addr) (m n : Machine) → n.peers ≡ m.peers → Only law a m n
only-same law itself a m n same = (λ b other. same-still m n same b, same-each (λ b. Stays law) (λ b. stays_itself law itself) m n same a)

only-changed : (law : Peer → Peer → Type 0) (a : Addr) (change : Peer → Peer) (m : Machine) → ((p : Peer) → (change p).addr ≡ p.addr) → ((p : Peer) → law p (change p)) →
    Only law a m (peer_changes a change m).machine
only-changed law a change m same each = search (arith, changed-others, changed-found)

changed-still : (a : Addr) (change : Peer → Peer) (m : Machine) → ((p : Peer) → (change p).addr ≡ p.addr) → ((p : Peer) → IsRemembered p (change p)) → Still m (peer_changes a change m).machine
changed-still = changed-each (λ a. StillAt) (λ a. still_itself)

becomes-still : (t : Temp) (a : Addr) (m : Machine) → Still m (peer_becomes t a m).machine
becomes-still t a m = changed-still a (λ p. record p { temp = t }) m (λ p. refl) (λ p. assumption)

comes-still : (big : Bool) (a : Addr) (m : Machine) → Still m (peer_comes big a m).machine
comes-still big a m = comes-each (λ b. StillAt) (λ b. still_itself) big a m tt

-- ---- a connection goes

-- where it is not missed, its peer stays as it was
vanishes-beside : (e : Entry) (m : Machine) → Beside e m (vanishes e m).machine
vanishes-beside e m =
    let n : Machine = without_entry e.facts.cid.0 m in
    by_bool (is_missed e.facts)
    (λ b. entry_at e.facts.cid.0 (if b then peer_fails e.facts.addr n else nothing_more n).machine ≡ None → Beside e m (if b then peer_fails e.facts.addr n else nothing_more n).machine)
    (λ missed gone. record { others = changed-others e.facts.addr (failed_peer n.now n.settings.backoff) n (λ p. refl); own = inl (missed, gone) })
    (λ other gone. same-beside refl) (vanishes-none e m)

ending-beside : (cause : CloseCause) (e : Entry) (m : Machine) → Beside e m (ending cause e m).machine
ending-beside Overwritten e m = same-beside refl
ending-beside other e m = vanishes-beside e m

-- one that is not missed
unmissed-peers : (e : Entry) (m : Machine) → is_missed e.facts ≡ false → (ending Pruned e m).machine.peers ≡ m.peers
unmissed-peers e m unmissed = rw unmissed refl

candidate-unmissed : (f : Facts) → is_candidate f ≡ true → is_missed f ≡ false
candidate-unmissed f may = search (arith, and_parts, false_from_ne_true, both_ways, not-true, pending-unnegotiated)

-- who is pruned could go, and then nobody fails, or is the one that moved
trim-by : (Law : Machine → Type 0) (moved : Entry) (m : Machine) → IsOrderly m → entry_at moved.facts.cid.0 m ≡ Some moved → ((n : Machine) → n.peers ≡ m.peers → Law n) →
    Law (ending Pruned moved m).machine → Law (trim moved.facts.cid m).machine
trim-by Law moved m h found same own = trim-cases moved.facts.cid m (λ effect. Law effect.machine) (same m refl)
    (λ e is. by_bool (e.facts.cid.0 == moved.facts.cid.0) (λ b. (b || is_candidate e.facts) ≡ true → Law (ending Pruned e m).machine)
    (λ mine may.
    let at = find_some (λ x. has_id (unwrap_or (choice_of (candidates_in m)) moved.facts.cid).0 x.facts) m.connections e is in
    let here : entry_at moved.facts.cid.0 m ≡ Some e = subst (λ c. entry_at c m ≡ Some e) (eqb-true e.facts.cid.0 moved.facts.cid.0 mine) (stands-found m e at.place h at.stands) in
    subst (λ x. Law (ending Pruned x m).machine) (some_same moved e (sym found ∙ here)) own)
    (λ other may. same (ending Pruned e m).machine (unmissed-peers e m (candidate-unmissed e.facts may))) (chosen-goes moved.facts.cid m h e is))

-- ---- a deadline

fired-beside : (sort : Kind) (e : Entry) (m : Machine) → Beside e m (fires_as sort e m).machine
fired-beside kind.Handshake e m = ending-beside (Fault HandshakeWait) e m
fired-beside kind.Grace e m = cond_both e.facts.local _ _ (λ (effect : Effect). Beside e m effect.machine) (λ local. same-beside refl) (λ idle. same-beside refl)
fired-beside kind.TimeWait e m = same-beside refl
fired-beside other e m = ending-beside (Fault ReplyWait) e m

-- ---- an item

-- in a handshake a connection is ended, or agrees
greeted : (item : Item) (e : Entry) (m : Machine) (P : Machine → Type 0) → ((c : CloseCause) → P (ending c e m).machine) →
    ((agreed : Agreed) → P (with_entry (turned_by (agrees_inbound agreed) e m) m)) → ((agreed : Agreed) → P (judged (verdict.Agree agreed) e m).machine) → P (greets item e m).machine
greeted item e m P ends accepts agrees = greets-cases item e m (λ effect. P effect.machine) (λ fault. ends (Fault fault))
    (λ msg is.
    let v : Verdict = verdict_of (role_of e.facts.provenance) (own_info m.settings) msg in
    subst (λ n. P (judged v e n).machine) (sym (answer-machine (answer_of v (own_info m.settings)) e.facts.cid m)) (by_verdict v))
  where
    by_verdict : (v : Verdict) → P (judged v e m).machine
    by_verdict (verdict.Accept agreed) = accepts agreed
    by_verdict verdict.Query = ends Query
    by_verdict (verdict.Agree agreed) = agrees agreed
    by_verdict verdict.Wrong = ends (Fault Protocol)
    by_verdict other = ends Refused

greets-beside : (item : Item) (e : Entry) (m : Machine) → Beside e m (greets item e m).machine
greets-beside item e m = greeted item e m (Beside e m) (λ c. ending-beside c e m) (λ agreed. same-beside refl) (λ agreed.
    let only = only-changed IsSpared e.facts.addr (λ p. record p { temp = Warm; failures = 0 }) (with_entry (turned_by (agrees_outbound agreed) e m) m) (λ p. refl)
    (λ p. record { failures = omega arith; not_before = refl }) in
    record { others = only.0; own = inr only.1 })

serves-still : (seen : Seen) (protocol : ℕ) (e : Entry) (m : Machine) → Still m (serves seen protocol e m).machine
serves-still seen protocol e m = search (arith, replies-machine, same-still)

begins-beside : (protocol : ℕ) (m : Machine) (e : Entry) (k : ℕ) → IsOrderly m → StandsAt m.connections k e → Beside e m (begins protocol e m).machine
begins-beside protocol m e k h s = cond_both (runs protocol e.facts.running) (nothing_more m) (awake protocol e m) (λ effect. Beside e m effect.machine)
    (λ running. same-beside refl)
    (λ silent.
    let new : Entry = turned_by (awakes protocol) e m in
    let n : Machine = with_entry new m in
    let apart : IsOrderly n = turned-orderly m e new k h s (record { same_id = refl; same_addr = refl; live = λ l. l }) in
    let b : Beside new n (trim e.facts.cid n).machine =
    trim-by (Beside new n) new n apart (turned-here m e new k h s refl) (λ o same. same-beside same) (ending-beside Pruned new n) in
    record { others = b.others; own = b.own })

brings-still : (protocol : ℕ) (body : List ℕ) (e : Entry) (m : Machine) → Still m (brings protocol body e m).machine
brings-still = brings-cases (λ m effect. Still m effect.machine) (λ m. same-still m m refl)
    (λ m first next one two. both-still m first.machine (next first.machine).machine one two) (comes-still false) (becomes-still Hot)

talks-beside : (item : Item) (m : Machine) (e : Entry) (k : ℕ) → IsOrderly m → StandsAt m.connections k e → Beside e m (talks item e m).machine
talks-beside item m e k h s =
    let n : Machine = (begins item.id e m).machine in
    let o : Machine = with_entry (paid item.id e) m in
    talks-cases item e m (λ effect. Beside e m effect.machine) (λ fault. ending-beside (Fault fault) e m)
    (λ first seen was takes. by_option (entry_at e.facts.cid.0 n) (λ x. Beside e m n → Beside e m (on_entry x (serves seen item.id) n).machine)
    (λ is begun. begun)
    (λ f is begun.
    let still : Still n (serves seen item.id f n).machine = serves-still seen item.id f n in
    record {
      others = λ b other. still_then (peer_at b m) (peer_at b n) (peer_at b (serves seen item.id f n).machine) (begun.others b other) (still b);
      own = elim begun.own [
        | inl lost ↦ absurd (let never : Some f ≡ None = sym is ∙ lost.1 in cc)
        | inr spared ↦ inr (spared_then (peer_at e.facts.addr m) (peer_at e.facts.addr n) (peer_at e.facts.addr (serves seen item.id f n).machine) spared (still e.facts.addr))
      ];
    }) (begins-beside item.id m e k h s))
    (λ second owed is. still-beside (both-still m o (brings item.id item.body e o).machine (same-still m o refl) (brings-still item.id item.body e o)))

handled-beside : (p : Phase) (item : Item) (m : Machine) (e : Entry) (k : ℕ) → IsOrderly m → StandsAt m.connections k e → Beside e m (handled_in p item e m).machine
handled-beside (Greeting until) item m e k h s = greets-beside item e m
handled-beside Negotiated item m e k h s = talks-beside item m e k h s
handled-beside other item m e k h s = same-beside refl

-- ---- what is remembered, and who fails

pub record Treats (Remembered : Type 0) (m n : Machine) : Type 0 where
  pub remembered : Remembered
  pub fails : FailsOnly m n

all-treated : {m n : Machine} → AllRemembered m n → Treats (AllRemembered m n) m n
all-treated {m} {n} h = search (arith, remembered-spared)

still-treated : {m n : Machine} → Still m n → Treats (AllRemembered m n) m n
still-treated {m} {n} still = all-treated (λ b. stays_both IsRemembered IsRemembered (λ p q h. h) (peer_at b m) (peer_at b n) (still b))

same-treated : {m n : Machine} → n.peers ≡ m.peers → Treats (AllRemembered m n) m n
same-treated {m} {n} same = still-treated (same-still m n same)

others-remembered : (a : Addr) (m n : Machine) → Others a m n → OthersRemembered a m n
others-remembered a m n others b other = stays_both IsRemembered IsRemembered (λ p q h. h) (peer_at b m) (peer_at b n) (others b other)

-- whoever else there is has not failed
others-fail : (a : Addr) (m n : Machine) → Others a m n → (has_lost a m n ≡ false → WhereBoth IsSpared (peer_at a m) (peer_at a n)) → FailsOnly m n
others-fail a m n others own = by_address (λ b. has_lost b m n ≡ false → WhereBoth IsSpared (peer_at b m) (peer_at b n)) a own
    (λ b other kept. stays_both IsRemembered IsSpared remembered-spared (peer_at b m) (peer_at b n) (others b other))

-- who has lost nothing that was missed has not failed
beside-fails : (e : Entry) (k : ℕ) (m n : Machine) → StandsAt m.connections k e → Beside e m n → FailsOnly m n
beside-fails e k m n s b = search (arith, others-fail, both_ways, stays_both, list_any_at, same_address-self)

beside : (cid : ℕ) (act : Entry → Machine → Effect) (m : Machine) → ((e : Entry) (k : ℕ) → StandsAt m.connections k e → Beside e m (act e m).machine) →
    Treats (RemembersBeside (entry_at cid m) m (on_entry (entry_at cid m) act m).machine) m (on_entry (entry_at cid m) act m).machine
beside cid act m each = by_option (entry_at cid m) (λ o. Treats (RemembersBeside o m (on_entry o act m).machine) m (on_entry o act m).machine)
    (λ is. same-treated refl)
    (λ e is.
    let at : FoundIn (λ x. has_id cid x.facts) m.connections e = find_some (λ x. has_id cid x.facts) m.connections e is in
    let b : Beside e m (act e m).machine = each e at.place at.stands in
    record { remembered = others-remembered e.facts.addr m (act e m).machine b.others; fails = beside-fails e at.place m (act e m).machine at.stands b })

faulted-beside : (fault : Option CutFault) (e : Entry) (m : Machine) → Beside e m (faulted fault e m).machine
faulted-beside None e m = same-beside refl
faulted-beside (Some fault) e m = ending-beside (Fault (kind_of fault)) e m

-- ---- orders

only-treated : (law : Peer → Peer → Type 0) → ((p q : Peer) → law p q → IsSpared p q) → (a : Addr) (m n : Machine) → Only law a m n →
    Treats (OthersRemembered a m n × WhereBoth law (peer_at a m) (peer_at a n)) m n
only-treated law spares a m n only = search (arith, others-remembered, stays_both, others-fail)

asks-only : (addr : Addr) (n : ℕ) (m : Machine) → Only IsAsked addr m (on_used addr (asks_peer n) m).machine
asks-only addr n m = used-changes (Only IsAsked) addr (asks_peer n) m (only-same IsAsked (λ p. assumption) addr m m refl)
    (λ e at. only-changed IsAsked e.facts.addr (λ p. record p { share_next = m.now + m.settings.sharegap }) (with_entry (owing 10 n m e) m) (λ p. refl) (λ p. assumption))

taken_itself : (p : Peer) → IsTaken p p
taken_itself p = record { failures = omega arith; not_before = refl; share_next = refl }

promotes-only : (addr : Addr) (m : Machine) → Only IsTaken addr m (promoted_at (live_entry_at addr m) addr m).machine
promotes-only addr m = by_option (live_entry_at addr m) (λ o. Only IsTaken addr m (promoted_at o addr m).machine)
    (λ is. only-same IsTaken taken_itself addr m (dial addr m).machine refl)
    (λ e is. cond_both (is_acquirable e.facts) (acquire e m) (dial addr m) (λ effect. Only IsTaken addr m effect.machine)
    (λ free. subst (λ a. Only IsTaken a m (acquire e m).machine)
    (same_address-true e.facts.addr addr (and_parts (same_address e.facts.addr addr) (is_live e.facts) (find_some (λ x. is_live_at addr x.facts) m.connections e is).passes).0)
    (only-changed IsTaken e.facts.addr (λ p. record p { temp = Warm; failures = 0 }) (with_entry (taken (acquired e.facts) e m) m) (λ p. refl)
    (λ p. record { failures = omega arith; not_before = refl; share_next = refl })))
    (λ other. only-same IsTaken taken_itself addr m (dial addr m).machine refl))

-- a release is no failure
pub released-peers : (m : Machine) (e : Entry) (k : ℕ) → IsOrdered m → StandsAt m.connections k e → e.facts.local ≡ true → (trim e.facts.cid (cooled e m)).machine.peers ≡ (cooled e m).peers
released-peers m e k h s local =
    let shape : IsShaped e.facts = All-stands (λ x. IsShaped x.facts) m.connections k e s h.formed.shaped in
    let new : Entry = turned_by is_released e m in
    let n : Machine = with_entry new m in
    let cold : Peer → Peer = λ p. record p { temp = Cold } in
    let found : entry_at e.facts.cid.0 (cooled e m) ≡ Some new =
    ap (find (λ x. has_id e.facts.cid.0 x.facts)) (turns_at-connections (peer_at e.facts.addr n) cold n) ∙ turned-here m e new k h.orderly s refl in
    let idle_ : is_missed new.facts ≡ false = false_from_ne_true (is_pending new.facts)
    (λ is. both_ways (is_negotiated new.facts) (pending-unnegotiated new.facts is) (local-negotiated e.facts shape local)) in
    trim-by (λ o. o.peers ≡ (cooled e m).peers) new (cooled e m)
    (changed-orderly (peer_at e.facts.addr n) cold n (turned-orderly m e new k h.orderly s (record { same_id = refl; same_addr = refl; live = λ l. l })))
    found (λ o same. same) (unmissed-peers new (cooled e m) idle_)

-- where each connection in use is treated so
on_each : (addr : Addr) (act : Entry → Machine → Effect) (m : Machine) → ((e : Entry) (k : ℕ) → StandsAt m.connections k e → e.facts.local ≡ true → Still m (act e m).machine) →
    Treats (AllRemembered m (on_used addr act m).machine) m (on_used addr act m).machine
on_each addr act m each = still-treated (used-changes (λ a. Still) addr act m (same-still m m refl)
    (λ e at. each e at.place at.stands (and_parts (is_live_at addr e.facts) e.facts.local at.passes).1))

orders-treat : (order : Order) (m : Machine) → IsOrdered m → Treats (RemembersByOrder order m (carries_out order m).machine) m (carries_out order m).machine
orders-treat (Ask addr n) m h =
    only-treated IsAsked (λ p q h. record { failures = let same = h.failures in omega arith; not_before = h.not_before }) addr m (carries_out (Ask addr n) m).machine (asks-only addr n m)
orders-treat (Forget addr) m h = all-treated (goes-each (λ a. WhereBoth IsRemembered) (λ a o. stays_both IsRemembered IsRemembered (λ p q h. h) o o (still_itself o)) addr m (λ p. tt))
orders-treat (Promote addr) m h =
    only-treated IsTaken (λ p q h. record { failures = h.failures; not_before = h.not_before }) addr m (carries_out (Promote addr) m).machine (promotes-only addr m)
orders-treat (Release addr) m h = on_each addr release m
    (λ e k s local. subst (Still m) (sym (release-machine e m))
    (both-still m (cooled e m) (trim e.facts.cid (cooled e m)).machine (becomes-still Cold e.facts.addr (with_entry (turned_by is_released e m) m))
    (same-still (cooled e m) (trim e.facts.cid (cooled e m)).machine (released-peers m e k h s local))))
orders-treat (Activate addr) m h = on_each addr activates m (λ e k s local. same-still m (activates e m).machine refl)
orders-treat (Deactivate addr) m h = on_each addr deactivates m (λ e k s local. becomes-still Warm e.facts.addr m)

-- ---- each act

pub treats : (act : Act) (m : Machine) → Finds act m → Treats (Remembers act m (does act m).machine) m (does act m).machine
treats (fires_one d) m known = beside d.cid.0 (fires_as d.kind) m (λ e k s. fired-beside d.kind e m)
treats (carries order) m known = orders-treat order m known
treats (ends_dial cid opened) m known = beside cid.0 (dialed opened) m (λ e k s. cond_both (is_dialing e.facts) _ _ (λ (effect : Effect). Beside e m effect.machine)
    (λ dialing. cond_both opened _ _ (λ (effect : Effect). Beside e m effect.machine) (λ open_. same-beside refl) (λ failed. vanishes-beside e m))
    (λ other. same-beside refl))
treats (handles_item cid item) m known = beside cid.0 (handled item) m (λ e k s. handled-beside e.facts.phase item m e k known.orderly s)
treats (ends_stream cid fault) m known = beside cid.0 (faulted fault) m (λ e k s. faulted-beside fault e m)
treats (is_closed cid) m known = beside cid.0 closes m (λ e k s. cond_both (is_live e.facts) _ _ (λ (effect : Effect). Beside e m effect.machine)
    (λ live. vanishes-beside e m) (λ closed. same-beside refl))
treats (makes_ordinary addr) m known = still-treated (changed-still addr (λ p. record p { big = false }) m (λ p. refl) (λ p. assumption))
treats (provides addr) m known = still-treated (comes-still false addr m)
treats (provides_big addr) m known = still-treated (cond_both (is_wanted_big addr m) _ _ (λ (effect : Effect). Still m effect.machine)
    (λ wanted. comes-still true addr m) (λ other. same-still m m refl))
treats other m known = same-treated (treats-book other m)

-- ---- a peer whose handshake ends in use has no failures

-- where the connection is in use after it, its peer has no failures
abbrev Forgiven : Entry → Machine → Type 0
Forgiven e after = is_in_use (entry_at e.facts.cid.0 after) ≡ true → OnPeer (peer_at e.facts.addr after) (λ p. p.failures ≡ 0)

handled_in-forgiven : (p : Phase) (item : Item) (e : Entry) (m : Machine) → entry_at e.facts.cid.0 m ≡ Some e → is_greeting_phase p ≡ true → e.facts.local ≡ false →
    Forgiven e (handled_in p item e m).machine
handled_in-forgiven (Greeting until) item e m stands greeting not_used = greeted item e m (Forgiven e)
    (λ c used. absurd (false≢true (sym (ap is_in_use (ending-none c e m)) ∙ used)))
    (λ agreed used.
    let new : Entry = turned_by (agrees_inbound agreed) e m in
    absurd (both_ways e.facts.local not_used (sym (ap is_in_use (turned-found e new m refl ∙ ap (option_map (λ x. new)) stands)) ∙ used)))
    (λ agreed used. changed-here e.facts.addr (λ p. record p { temp = Warm; failures = 0 }) (with_entry (turned_by (agrees_outbound agreed) e m) m)
    (λ p. refl) (λ p. p.failures ≡ 0) (λ p. refl))
handled_in-forgiven other item e m stands greeting not_used = absurd (false≢true greeting)

handled-forgiven : (own : Cid) (item : Item) (m : Machine) → Forgives (handles_item own item) m (does (handles_item own item) m).machine
handled-forgiven own item m = by_option (entry_at own.0 m)
    (λ o. WhereGreeting o
    (λ e. e.facts.local ≡ false → is_in_use (entry_at own.0 (on_entry o (handled item) m).machine) ≡ true →
    OnPeer (peer_at e.facts.addr (on_entry o (handled item) m).machine) (λ p. p.failures ≡ 0)))
    (λ is. tt)
    (λ e is. λ greeting not_used used.
    let same : own.0 ≡ e.facts.cid.0 = sym (eqb-true e.facts.cid.0 own.0 (find_some (λ x. has_id own.0 x.facts) m.connections e is).passes) in
    handled_in-forgiven e.facts.phase item e m (rw same at is) greeting not_used (rw same at used))

pub forgives : (act : Act) (m : Machine) → Forgives act m (does act m).machine
forgives (handles_item cid item) m = handled-forgiven cid item m
forgives other m = tt
