-- A peer in use cools only by a release, a deactivation or the loss of its connection.
use Rattle.std.proofs.Common.{ℕ, ◌+◌, ◌≡◌, ◌⊎◌, Bool, true, false, ◌||◌, ◌==◌, find, List, if◌then◌else◌, Option, Some, None, refl, sym, ap, ◌∙◌, subst, inl, inr, arith, eqb-true}
use Rattle.laws.proofs.Words.{cond_both, and_parts, list_any_at}
use Rattle.laws.specs.Words.{turns_at, is_established, is_acquirable, is_live_at, Facts, dial_fails, option_map, unwrap_or, choice_of, has_id, same_address, failed_peer, Addr, Peer, Temp, Cold, Warm, Hot, CloseCause, Overwritten, Pruned, Fault, Protocol, Refused, Query, HandshakeWait, ReplyWait, Order, Ask, Forget, Promote, Release, Activate, Deactivate, is_candidate, is_dialing, is_greeting_phase, is_greeting, is_live, Phase, Greeting, Negotiated, Kind, Item, CutFault, Verdict, kind_of, verdict_of, answer_of, Seen, is_missed, candidates_in, ending, vanishes, with_entry, without_entry, grace_over, acquire, trim, release, dial, dial_opens, fires_as, Effect, nothing_more, on_entry, closes, dialed, promoted_at, is_used_at, on_used, asks_peer, activates, deactivates as rests, carries_out, peer_changes, peer_becomes, peer_comes, peer_goes, peer_at, role_of, judged, greets, own_info, paid, owing, handled_in, handled, faulted, serves, begins, brings, talks, Machine, Entry, entry_at, live_entry_at}
use Rattle.laws.specs.Words.verdict
use Rattle.laws.specs.Words.kind
use Rattle.peer_book.specs.Book.{peer_at as peer_in}
use Rattle.laws.specs.Acts.{Act, fires_one, carries, ends_dial, handles_item, ends_stream, is_closed, makes_ordinary, provides, provides_big, does}
use Rattle.laws.specs.BackOff.{WhereBoth, has_lost}
use Rattle.laws.specs.CarriedOut.{OnPeer, IsCarriedOut, IsDoneByOrder, IsCooledBy, releases, deactivates, CoolsOnly}
use Rattle.laws.specs.Ordered.{IsOne, MayBePromoted}
use Rattle.laws.specs.Parts.{IsNext}
use Rattle.laws.specs.Sound.{IsOrderly}
use Rattle.laws.specs.Steady.{IsTied, IsOrdered}
use Rattle.laws.proofs.Addresses.{same_address-self, same_address-true}
use Rattle.laws.proofs.BackOff.{released-peers}
use Rattle.laws.proofs.CarriedOut.{treats-book, changed-here}
use Rattle.laws.proofs.Cases.{by_bool, by_option, some_same}
use Rattle.laws.proofs.Entries.{turned-orderly}
use Rattle.laws.proofs.Failures.{changed-found}
use Rattle.laws.proofs.Goes.{vanishes-none}
use Rattle.laws.proofs.ItemCases.{greets-cases, talks-cases, brings-cases, trim-cases}
use Rattle.laws.proofs.Lawful.{comes-machine, stands-found}
use Rattle.laws.proofs.Lists.{StandsAt, find_some}
use Rattle.laws.proofs.Moments.{turned-found}
use Rattle.laws.proofs.PeersApart.{entered-cases}
use Rattle.laws.proofs.Pruning.{chosen-goes}
use Rattle.laws.proofs.Ties.{live_here, put_in-elsewhere, taken-elsewhere, taken-here, turns_at-elsewhere}
use Rattle.laws.proofs.Walk.{is_released, agrees_outbound, is_acquired, Finds, answer-machine, replies-machine, release-machine, turned_by, awakes}
use Rattle.laws.proofs.WholeMoves.{stands-shaped, greeting-live}
use Rattle.laws.proofs.Shapes.{greeting-unnegotiated}

-- ---- whoever is there is no colder, where it was not cold

abbrev Stays : Option Peer → Option Peer → Type 0
Stays None after = Unit {0}
Stays (Some p) None = ⊥
Stays (Some p) (Some q) = (q.temp ≡ p.temp) ⊎ ((q.temp ≡ Hot) ⊎ (p.temp ≡ Cold))

stays_itself : (o : Option Peer) → Stays o o
stays_itself None = tt
stays_itself (Some p) = inl refl

stays_then : (a b c : Option Peer) → Stays a b → Stays b c → Stays a c
stays_then a b c one two = grind (arith, one, two)

abbrev Mild : Machine → Machine → Type 0
Mild m n = (b : Addr) → Stays (peer_at b m) (peer_at b n)

same-mild : (m n : Machine) → n.peers ≡ m.peers → Mild m n
same-mild m n same b = subst (λ ps. Stays (peer_at b m) (peer_in b ps)) (sym same) (stays_itself (peer_at b m))

mild_then : (m n o : Machine) → Mild m n → Mild n o → Mild m o
mild_then m n o one two b = stays_then (peer_at b m) (peer_at b n) (peer_at b o) (one b) (two b)

-- of a peer that is there
changed-mild : (a : Addr) (change : Peer → Peer) (m : Machine) → ((p : Peer) → (change p).addr ≡ p.addr) → ((p : Peer) → peer_at a m ≡ Some p → Stays (Some p) (Some (change p))) →
    Mild m (peer_changes a change m).machine
changed-mild a change m same warm b =
    grind (arith, same_address-true b a, changed-found a change m same, warm, turns_at-elsewhere a change m same b, stays_itself (peer_at b m))

comes-mild : (big : Bool) (a : Addr) (m : Machine) → Mild m (peer_comes big a m).machine
comes-mild big a m b = grind (arith, comes-machine, stays_itself, entered-cases, same_address-true, put_in-elsewhere)

-- ---- what happens on a connection

-- or it is cold, and its connection, which was missed, has gone
abbrev Lost : Entry → Addr → Machine → Type 0
Lost e b n = (b ≡ e.facts.addr) × (is_missed e.facts ≡ true) × (entry_at e.facts.cid.0 n ≡ None) × OnPeer (peer_at b n) (λ q. q.temp ≡ Cold)

abbrev Beside : Entry → Machine → Machine → Type 0
Beside e m n = (b : Addr) → Stays (peer_at b m) (peer_at b n) ⊎ Lost e b n

same-beside : (e : Entry) (m n : Machine) → n.peers ≡ m.peers → Beside e m n
same-beside e m n same b = inl (same-mild m n same b)

vanishes-beside : (e : Entry) (m : Machine) → Beside e m (vanishes e m).machine
vanishes-beside e m b =
    let n : Machine = without_entry e.facts.cid.0 m in
    let fails : Peer → Peer = failed_peer n.now n.settings.backoff in
    grind (arith, vanishes-none e m, same_address-true b e.facts.addr, stays_itself (peer_at b m), turns_at-elsewhere e.facts.addr fails n (λ p. refl) b, changed-here e.facts.addr fails n (λ p. refl) (λ q. q.temp ≡ Cold) (λ p. refl))

ending-beside : (cause : CloseCause) (e : Entry) (m : Machine) → Beside e m (ending cause e m).machine
ending-beside Overwritten e m = same-beside e m (ending Overwritten e m).machine refl
ending-beside other e m = vanishes-beside e m

fired-beside : (sort : Kind) (e : Entry) (m : Machine) → Beside e m (fires_as sort e m).machine
fired-beside kind.Handshake e m = ending-beside (Fault HandshakeWait) e m
fired-beside kind.Grace e m = same-beside e m (grace_over e m).machine (grind arith)
fired-beside kind.TimeWait e m = same-beside e m (fires_as kind.TimeWait e m).machine refl
fired-beside other e m = ending-beside (Fault ReplyWait) e m

faulted-beside : (fault : Option CutFault) (e : Entry) (m : Machine) → Beside e m (faulted fault e m).machine
faulted-beside None e m = same-beside e m m refl
faulted-beside (Some fault) e m = ending-beside (Fault (kind_of fault)) e m

-- ---- an item

-- whoever comes into use was cold
abbrev IsCold : Option Peer → Type 0
IsCold o = OnPeer o (λ p. p.temp ≡ Cold)

used-beside : (change : Peer → Peer) (e : Entry) (m n : Machine) → n.peers ≡ m.peers → ((p : Peer) → (change p).addr ≡ p.addr) → IsCold (peer_at e.facts.addr m) → Mild m (peer_changes e.facts.addr change n).machine
used-beside change e m n same keeps cold = grind (arith, same-mild, mild_then, changed-mild)

judged-beside : (v : Verdict) (e : Entry) (m : Machine) → IsCold (peer_at e.facts.addr m) → Beside e m (judged v e m).machine
judged-beside (verdict.Accept agreed) e m cold = same-beside e m (judged (verdict.Accept agreed) e m).machine refl
judged-beside verdict.Query e m cold = ending-beside Query e m
judged-beside (verdict.Agree agreed) e m cold =
    λ b. inl (used-beside (λ p. record p { temp = Warm; failures = 0 }) e m (with_entry (turned_by (agrees_outbound agreed) e m) m) refl (λ p. refl) cold b)
judged-beside verdict.Wrong e m cold = ending-beside (Fault Protocol) e m
judged-beside other e m cold = ending-beside Refused e m

greets-beside : (item : Item) (e : Entry) (m : Machine) → IsCold (peer_at e.facts.addr m) → Beside e m (greets item e m).machine
greets-beside item e m cold = greets-cases item e m (λ effect. Beside e m effect.machine) (λ fault. ending-beside (Fault fault) e m)
    (λ msg is. let v : Verdict = verdict_of (role_of e.facts.provenance) (own_info m.settings) msg in rw (answer-machine (answer_of v (own_info m.settings)) e.facts.cid m) (judged-beside v e m cold))

serves-peers : (seen : Seen) (protocol : ℕ) (e : Entry) (m : Machine) → (serves seen protocol e m).machine.peers ≡ m.peers
serves-peers seen protocol e m = grind (arith, replies-machine seen.reply protocol e m)

candidate-unmissed : (f : Facts) → is_candidate f ≡ true → is_missed f ≡ false
candidate-unmissed f may = grind (arith, may)

-- whoever is pruned could go, and is missed by nobody, or is the one that moved
trim-beside : (e : Entry) (m : Machine) → IsOrderly m → entry_at e.facts.cid.0 m ≡ Some e → Beside e m (trim e.facts.cid m).machine
trim-beside e m h found = trim-cases e.facts.cid m (λ effect. Beside e m effect.machine) (same-beside e m m refl)
    (λ f is. by_bool (f.facts.cid.0 == e.facts.cid.0) (λ b. (b || is_candidate f.facts) ≡ true → Beside e m (ending Pruned f m).machine)
    (λ mine may.
    let at = find_some (λ x. has_id (unwrap_or (choice_of (candidates_in m)) e.facts.cid).0 x.facts) m.connections f is in
    let here : entry_at e.facts.cid.0 m ≡ Some f = subst (λ c. entry_at c m ≡ Some f) (eqb-true f.facts.cid.0 e.facts.cid.0 mine) (stands-found m f at.place h at.stands) in
    subst (λ x. Beside e m (ending Pruned x m).machine) (some_same e f (sym found ∙ here)) (ending-beside Pruned e m))
    (λ other may. same-beside e m (ending Pruned f m).machine (rw (candidate-unmissed f.facts may) refl)) (chosen-goes e.facts.cid m h f is))

begins-beside : (protocol : ℕ) (m : Machine) (e : Entry) (k : ℕ) → IsOrderly m → StandsAt m.connections k e → Beside e m (begins protocol e m).machine
begins-beside protocol m e k h s =
    let new : Entry = turned_by (awakes protocol) e m in
    let trims = trim-beside new (with_entry new m) (turned-orderly m e new k h s (grind arith)) (turned-found e new m refl ∙ ap (option_map (λ x. new)) (stands-found m e k h s)) in
    grind (arith, same-beside e m m refl, trims)

brings-mild : (protocol : ℕ) (body : List ℕ) (e : Entry) (m : Machine) → Mild m (brings protocol body e m).machine
brings-mild = brings-cases (λ m effect. Mild m effect.machine) (λ m. same-mild m m refl) (λ m first next one two. mild_then m first.machine (next first.machine).machine one two)
    (comes-mild false) (λ a m. changed-mild a (λ p. record p { temp = Hot }) m (λ p. refl) (λ p is. inr (inl refl)))

talks-beside : (item : Item) (m : Machine) (e : Entry) (k : ℕ) → IsOrderly m → StandsAt m.connections k e → Beside e m (talks item e m).machine
talks-beside item m e k h s =
    let n : Machine = (begins item.id e m).machine in
    talks-cases item e m (λ effect. Beside e m effect.machine) (λ fault. ending-beside (Fault fault) e m)
    (λ first seen was takes. by_option (entry_at e.facts.cid.0 n) (λ x. Beside e m n → Beside e m (on_entry x (serves seen item.id) n).machine)
    (λ is begun. begun)
    (λ f is begun b. elim (begun b) [
      | inl stays ↦ inl (subst (λ ps. Stays (peer_at b m) (peer_in b ps)) (sym (serves-peers seen item.id f n)) stays)
      | inr lost ↦ absurd (let gone = lost.2 in let never : Some f ≡ None = sym is ∙ gone in cc)
    ]) (begins-beside item.id m e k h s))
    (λ second owed is b. inl (brings-mild item.id item.body e (with_entry (paid item.id e) m) b))

handled-beside : (p : Phase) (item : Item) (m : Machine) (e : Entry) (k : ℕ) → IsOrderly m → StandsAt m.connections k e → (is_greeting_phase p ≡ true → IsCold (peer_at e.facts.addr m)) →
    Beside e m (handled_in p item e m).machine
handled-beside (Greeting until) item m e k h s cold = greets-beside item e m (cold refl)
handled-beside Negotiated item m e k h s cold = talks-beside item m e k h s
handled-beside other item m e k h s cold = same-beside e m m refl

-- ---- each act

stays-cooled : (may may_rest : Bool) (a b : Option Peer) → Stays a b → WhereBoth (λ p q. IsCooledBy may may_rest p.temp q.temp) a b
stays-cooled may may_rest a b stays = grind (arith, stays)

mild-cools : (act : Act) (m n : Machine) → Mild m n → CoolsOnly act m n
mild-cools act m n mild b = stays-cooled (releases act b || has_lost b m n) (deactivates act b) (peer_at b m) (peer_at b n) (mild b)

lost-cooled : (may_rest : Bool) (a b : Option Peer) → IsCold b → WhereBoth (λ p q. IsCooledBy true may_rest p.temp q.temp) a b
lost-cooled may_rest a b cold = grind (arith, cold)

lost-listed : (e : Entry) (k : ℕ) (m n : Machine) (b : Addr) → StandsAt m.connections k e → Lost e b n → has_lost b m n ≡ true
lost-listed e k m n b s lost = grind (arith, same_address-self, list_any_at)

beside-cools : (act : Act) (own : ℕ) (does_it : Entry → Machine → Effect) (m : Machine) → ((e : Entry) (k : ℕ) → StandsAt m.connections k e → Beside e m (does_it e m).machine) →
    CoolsOnly act m (on_entry (entry_at own m) does_it m).machine
beside-cools act own does_it m each =
    let at = λ (e : Entry) (is : entry_at own m ≡ Some e). find_some (λ x. has_id own x.facts) m.connections e is in
    by_option (entry_at own m) (λ o. CoolsOnly act m (on_entry o does_it m).machine) (λ is. mild-cools act m m (same-mild m m refl))
    (λ e is b.
    let n : Machine = (does_it e m).machine in
    let place = find_some (λ x. has_id own x.facts) m.connections e is in
    grind (arith, each e place.place place.stands b, stays-cooled, lost-listed e place.place m n b place.stands, lost-cooled))

established-cold : (t : Temp) → is_established t ≡ false → t ≡ Cold
established-cold t h = grind (arith, h)

-- whoever greets has a peer that is cold
greeting-cold : (e : Entry) (k : ℕ) (m : Machine) → IsOrdered m → IsTied m → StandsAt m.connections k e → is_greeting e.facts ≡ true → IsCold (peer_at e.facts.addr m)
greeting-cold e k m h ties s greets = grind (arith, stands-shaped, greeting-unnegotiated, live_here, greeting-live, established-cold)

to_cold : (may_rest : Bool) (t : Temp) → IsCooledBy true may_rest t Cold
to_cold may_rest Cold = tt
to_cold may_rest other = refl

to_warm : (may : Bool) (t : Temp) → IsCooledBy may true t Warm
to_warm may Hot = refl
to_warm may other = tt

same-peers : (o : Option Peer) (change : Peer → Peer) (m n : Machine) → n.peers ≡ m.peers → (turns_at o change n).machine.peers ≡ (turns_at o change m).machine.peers
same-peers o change m n same = grind (arith, same)

-- a peer is made as warm as an order says, and no other changes
set-cools : (act : Act) (t : Temp) (a : Addr) (m n : Machine) → n.peers ≡ (peer_becomes t a m).machine.peers → ((may : Bool) (u : Temp) → IsCooledBy (releases act a || may) (deactivates act a) u t) →
    CoolsOnly act m n
set-cools act t a m n same may b = by_bool (same_address b a) (λ c. At b (peer_at b m) (peer_at b n))
    (λ is. subst (λ x. At x (peer_at x m) (peer_at x n)) (sym (same_address-true b a is)) (subst (At a (peer_at a m)) (sym (ap (peer_in a) same ∙ changed-found a sets m (λ p. refl)))
    (by_option (peer_at a m) (λ o. At a o (option_map sets o)) (λ none. tt) (λ p there. may (has_lost a m n) p.temp))))
    (λ other. subst (At b (peer_at b m)) (sym (ap (peer_in b) same ∙ turns_at-elsewhere a sets m (λ p. refl) b other))
    (stays-cooled (releases act b || has_lost b m n) (deactivates act b) (peer_at b m) (peer_at b m) (stays_itself (peer_at b m))))
  where
    sets : Peer → Peer
    sets p = record p { temp = t }

    At : Addr → Option Peer → Option Peer → Type 0
    At x o q = WhereBoth (λ p q. IsCooledBy (releases act x || has_lost x m n) (deactivates act x) p.temp q.temp) o q

-- on the connection in use
used-cools : (order : Order) (addr : Addr) (act : Entry → Machine → Effect) (m : Machine) →
    ((e : Entry) (k : ℕ) → StandsAt m.connections k e → e.facts.local ≡ true → same_address e.facts.addr addr ≡ true → CoolsOnly (carries order) m (act e m).machine) →
    CoolsOnly (carries order) m (on_used addr act m).machine
used-cools order addr act m each = by_option (find (is_used_at addr) m.connections) (λ o. CoolsOnly (carries order) m (on_entry o act m).machine)
    (λ is. mild-cools (carries order) m m (same-mild m m refl))
    (λ e is.
    let at = find_some (is_used_at addr) m.connections e is in
    let used = and_parts (is_live_at addr e.facts) e.facts.local at.passes in
    each e at.place at.stands used.1 (and_parts (same_address e.facts.addr addr) (is_live e.facts) used.0).0)

forgets-cools : (addr : Addr) (m : Machine) → CoolsOnly (carries (Forget addr)) m (peer_goes addr m).machine
forgets-cools addr m b = by_bool (same_address b addr) (λ c. At (peer_at b (peer_goes addr m).machine))
    (λ is. subst At (sym (ap (λ x. peer_at x (peer_goes addr m).machine) (same_address-true b addr is) ∙ taken-here addr m.peers)) (by_option (peer_at b m) (λ o. Law o None) (λ gone. tt) (λ p there. tt)))
    (λ other. subst At (sym (taken-elsewhere addr b m.peers other)) (stays-cooled (false || has_lost b m (peer_goes addr m).machine) false (peer_at b m) (peer_at b m) (stays_itself (peer_at b m))))
  where
    Law : Option Peer → Option Peer → Type 0
    Law o q = WhereBoth (λ p q. IsCooledBy (false || has_lost b m (peer_goes addr m).machine) false p.temp q.temp) o q

    At : Option Peer → Type 0
    At q = Law (peer_at b m) q

orders-cool : (order : Order) (m : Machine) → IsOrdered m → IsNext (carries order) m → CoolsOnly (carries order) m (carries_out order m).machine
orders-cool (Ask addr number) m h next = used-cools (Ask addr number) addr (asks_peer number) m (λ e k s local here.
    mild-cools (carries (Ask addr number)) m (asks_peer number e m).machine
    (changed-mild e.facts.addr (λ p. record p { share_next = m.now + m.settings.sharegap }) (with_entry (owing 10 number m e) m) (λ p. refl) (λ p is. inl refl)))
orders-cool (Forget addr) m h next = forgets-cools addr m
orders-cool (Promote addr) m h next = by_option (live_entry_at addr m) (λ o. CoolsOnly (carries (Promote addr)) m (promoted_at o addr m).machine) (λ is. dials)
    (λ e is. cond_both (is_acquirable e.facts) (acquire e m) (dial addr m) (λ effect. CoolsOnly (carries (Promote addr)) m effect.machine)
    (λ free.
    let at : e.facts.addr ≡ addr = same_address-true e.facts.addr addr (and_parts (same_address e.facts.addr addr) (is_live e.facts) (find_some (λ x. is_live_at addr x.facts) m.connections e is).passes).0 in
    mild-cools (carries (Promote addr)) m (acquire e m).machine (used-beside (λ p. record p { temp = Warm; failures = 0 }) e m (with_entry (turned_by is_acquired e m) m) refl (λ p. refl)
    (subst (λ a. IsCold (peer_at a m)) (sym at) (promoted-cold (peer_at addr m) next))))
    (λ other. dials))
  where
    dials : CoolsOnly (carries (Promote addr)) m (dial addr m).machine
    dials = mild-cools (carries (Promote addr)) m (dial addr m).machine (same-mild m (dial addr m).machine refl)

    promoted-cold : (o : Option Peer) → IsOne o (λ p. MayBePromoted addr p m) → IsCold o
    promoted-cold o may = grind (arith, may)
orders-cool (Release addr) m h next = used-cools (Release addr) addr release m (λ e k s local here.
    set-cools (carries (Release addr)) Cold e.facts.addr m (release e m).machine (ap (λ w. w.peers) (release-machine e m) ∙ (released-peers m e k h s local ∙ same-peers (peer_at e.facts.addr m) (λ p. record p { temp = Cold }) m (with_entry (turned_by is_released e m) m) refl)) (λ may u. rw here (to_cold false u)))
orders-cool (Activate addr) m h next = used-cools (Activate addr) addr activates m (λ e k s local here. mild-cools (carries (Activate addr)) m (activates e m).machine (same-mild m (activates e m).machine refl))
orders-cool (Deactivate addr) m h next = used-cools (Deactivate addr) addr rests m (λ e k s local here.
    set-cools (carries (Deactivate addr)) Warm e.facts.addr m (rests e m).machine refl (λ may u. rw here (to_warm may u)))

-- what is known of a part besides: an order does what it says, and where an item comes in peers are tied to their connections
abbrev pub Given : Act → Machine → Type 0
Given (carries order) m = IsCarriedOut order m (carries_out order m)
Given (handles_item cid item) m = IsTied m
Given other m = Unit {0}

pub given-order : (act : Act) (m : Machine) → Given act m → IsDoneByOrder act m (does act m)
given-order (carries order) m given = given
given-order other m given = tt

pub cools-only : (act : Act) (m : Machine) → IsNext act m → Finds act m → Given act m → CoolsOnly act m (does act m).machine
cools-only (fires_one d) m next found given = beside-cools (fires_one d) d.cid.0 (fires_as d.kind) m (λ e k s. fired-beside d.kind e m)
cools-only (carries order) m next found given = orders-cool order m found next
cools-only (ends_dial cid opened) m next found given = beside-cools (ends_dial cid opened) cid.0 (dialed opened) m
    (λ e k s. cond_both (is_dialing e.facts) (if opened then dial_opens e m else dial_fails e m) (nothing_more m) (λ effect. Beside e m effect.machine)
    (λ dials. cond_both opened (dial_opens e m) (dial_fails e m) (λ effect. Beside e m effect.machine) (λ open_. same-beside e m (dial_opens e m).machine refl) (λ failed. vanishes-beside e m))
    (λ other. same-beside e m m refl))
cools-only (handles_item cid item) m next found given =
    beside-cools (handles_item cid item) cid.0 (handled item) m (λ e k s. handled-beside e.facts.phase item m e k found.orderly s (λ greets. greeting-cold e k m found given s greets))
cools-only (ends_stream cid fault) m next found given = beside-cools (ends_stream cid fault) cid.0 (faulted fault) m (λ e k s. faulted-beside fault e m)
cools-only (is_closed cid) m next found given = beside-cools (is_closed cid) cid.0 closes m
    (λ e k s. cond_both (is_live e.facts) (vanishes e m) (nothing_more m) (λ effect. Beside e m effect.machine) (λ live. vanishes-beside e m) (λ closed. same-beside e m m refl))
cools-only (makes_ordinary addr) m next found given = grind (arith, mild-cools, changed-mild)
cools-only (provides addr) m next found given = mild-cools (provides addr) m (does (provides addr) m).machine (comes-mild false addr m)
cools-only (provides_big addr) m next found given = grind (arith, mild-cools, comes-mild, same-mild)
cools-only other m next found given = mild-cools other m (does other m).machine (same-mild m (does other m).machine (treats-book other m))
