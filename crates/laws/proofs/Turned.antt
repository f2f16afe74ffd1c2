-- What becomes of the connection that a part of an event is about.
use Rattle.std.proofs.Common.{ℕ, ◌+◌, ◌<◌, ◌≡◌, Bool, true, false, ◌&&◌, ◌==◌, if◌then◌else◌, find, Option, Some, None, Result, Ok, Err, refl, sym, ap, ◌∙◌, subst, eqb-true, arith}
use Rattle.laws.proofs.Words.{cond_both, and_parts, false≢true}
use Rattle.laws.specs.Words.{connected, agreed_inbound, agreed_outbound, acquired, released, awakened, idled, expired, has_id, is_acquirable, is_dialing, is_live, is_live_at, agreed_sharing, runs, Order, Ask, Forget, Promote, Release, Activate, Deactivate, verdict_of, answer_of, Verdict, message_of, Message, kind_of, CutFault, Item, same_address, CloseCause, Refused, Query, Fault, FaultKind, Protocol, Addr, Phase, Greeting, Negotiated, Kind, watched, Seen, with_entry, ending, vanishes, closing_entry, acquire, trim, release, dial, fires_as, Effect, then_do, on_entry, closes, dialed, promoted_at, is_used_at, on_used, asks_peer, activates, carries_out, role_of, judged, greets, Machine, Entry, entry_at, live_entry_at, own_info, peer_at, owing, paid, handled_in, handled, faulted, serves, begins, brings, Facts, is_used, on_connection}
use Rattle.laws.specs.Words.verdict
use Rattle.laws.specs.Words.kind
use Rattle.laws.specs.Acts.{Act, fires_one, carries, ends_dial, stores, handles_item, ends_stream, is_closed, does}
use Rattle.laws.specs.Untouched.{address_of, is_about, IsAsItWas}
use Rattle.laws.specs.Steady.{IsOrdered}
use Rattle.laws.proofs.Addresses.{same_address-true}
use Rattle.laws.proofs.CarriedOut.{used_one}
use Rattle.laws.proofs.Goes.{vanishes-none}
use Rattle.laws.proofs.Walk.{own_id, StandsOpen, answer-machine, replies-machine, Finds, Stands, found-stands, Scope, taken, on_those, trim-walk, brings-walk, acquire-walk, release-walk, asks_peer-walk, activates-walk, begins-walk, is_released, turned_by, cooled, release-machine}
use Rattle.laws.proofs.Lawful.{stands-found}
use Rattle.laws.proofs.Lists.{FoundIn, find_some, find_only}
use Rattle.laws.proofs.Moments.{gone-none, ending-none, turned-found}
use Rattle.laws.proofs.Shapes.{local-negotiated, can_acquire}
use Rattle.laws.proofs.Ties.{live_here}
use Rattle.laws.proofs.ToldMoves.{turns_at-connections}
use Rattle.laws.proofs.Waits.{Waits, was_then, waits_then}
use Rattle.laws.proofs.WaitsOfParts.{Waited, waits-kept, changed-waits, dial-waits}
use Rattle.laws.proofs.WholeMoves.{negotiated-live}
use Rattle.laws.proofs.Cases.{by_bool, by_option}
use Rattle.laws.proofs.ItemCases.{greets-cases, talks-cases}

-- ---- what it turns into

abbrev pub turned_by_kind : Kind → Entry → Machine → Option Entry
turned_by_kind kind.Grace e m = Some (if e.facts.local then record e { facts = expired e.facts } else closing_entry m e)
turned_by_kind other e m = None

abbrev pub turned_by_order : Order → Entry → Machine → Entry
turned_by_order (Ask addr n) e m = if e.facts.local then owing 10 n m e else e
turned_by_order (Promote addr) e m = if is_acquirable e.facts then taken (acquired e.facts) e m else e
turned_by_order (Release addr) e m = if e.facts.local then record e { facts = released (m.now + m.settings.idle) e.facts } else e
turned_by_order (Activate addr) e m = if e.facts.local then owing 2 0 m e else e
turned_by_order other e m = e

abbrev pub turned_by_verdict : Verdict → Entry → Machine → Option Entry
turned_by_verdict (verdict.Accept agreed) e m = Some (record e { facts = agreed_inbound agreed (m.now + m.settings.idle) e.facts })
turned_by_verdict (verdict.Agree agreed) e m = Some (taken (agreed_outbound agreed (m.now + m.settings.idle) e.facts) e m)
turned_by_verdict other e m = None

abbrev pub turned_by_message : Option Message → Entry → Machine → Option Entry
turned_by_message None e m = None
turned_by_message (Some message) e m = turned_by_verdict (verdict_of (role_of e.facts.provenance) (own_info m.settings) message) e m

abbrev pub begun : ℕ → Entry → Entry
begun protocol e = if runs protocol e.facts.running then e else record e { facts = awakened protocol e.facts }

abbrev pub stopped : Bool → ℕ → ℕ → Entry → Entry
stopped done protocol until e = if done then record e { facts = idled protocol until e.facts } else e

abbrev pub turned_by_request : Result Seen FaultKind → ℕ → Entry → Machine → Option Entry
turned_by_request (Err fault) protocol e m = None
turned_by_request (Ok seen) protocol e m = Some (stopped seen.done protocol (m.now + m.settings.idle) (begun protocol e))

abbrev pub turned_by_item : Phase → Item → Entry → Machine → Option Entry
turned_by_item (Greeting until) item e m = turned_by_message (message_of item.body) e m
turned_by_item Negotiated item e m =
    if item.side == 0 then turned_by_request (watched item.id (agreed_sharing e.facts.agreed) item.body) item.id e m else Some (paid item.id e)
turned_by_item other item e m = Some e

-- nothing where it is sure to go
abbrev pub turned : Act → Entry → Machine → Option Entry
turned (fires_one d) e m = turned_by_kind d.kind e m
turned (carries order) e m = Some (turned_by_order order e m)
turned (ends_dial own opened) e m = Some (if is_dialing e.facts && opened then record e { facts = connected (m.now + m.settings.handshake) e.facts } else e)
turned (stores entry undecoded) e m = Some (record e { undecoded = undecoded })
turned (handles_item own item) e m = turned_by_item e.facts.phase item e m
turned other e m = Some e

-- ---- it is gone, or that is what it has turned into

abbrev pub Becomes : Option Entry → ℕ → Machine → Type 0
Becomes o cid m = IsAsItWas o (entry_at cid m)

gone-becomes : (o : Option Entry) (cid : ℕ) (m : Machine) → entry_at cid m ≡ None → Becomes o cid m
gone-becomes o cid m none = subst (IsAsItWas o) (sym none) tt

stands-becomes : (e : Entry) (m : Machine) → entry_at e.facts.cid.0 m ≡ Some e → Becomes (Some e) e.facts.cid.0 m
stands-becomes e m is = subst (IsAsItWas (Some e)) (sym is) refl

turned-becomes : (e new : Entry) (m : Machine) → new.facts.cid ≡ e.facts.cid → Becomes (Some new) e.facts.cid.0 (with_entry new m)
turned-becomes e new m same = grind (arith, turned-found e new m same)

pub ending-becomes : (o : Option Entry) (cause : CloseCause) (e : Entry) (m : Machine) → Becomes o e.facts.cid.0 (ending cause e m).machine
ending-becomes o cause e m = gone-becomes o e.facts.cid.0 (ending cause e m).machine (ending-none cause e m)

vanishes-becomes : (o : Option Entry) (e : Entry) (m : Machine) → Becomes o e.facts.cid.0 (vanishes e m).machine
vanishes-becomes o e m = gone-becomes o e.facts.cid.0 (vanishes e m).machine (vanishes-none e m)

-- what follows changes no connection, but may end one
abbrev nobody : Scope
nobody = on_those (λ cid. false)

then-becomes : (o : Option Entry) (cid : ℕ) (m n : Machine) → cid < m.next_id → Becomes o cid m → Waits nobody m n → Becomes o cid n
then-becomes o cid m n given h w = was_then o (entry_at cid m) (entry_at cid n) h ((w.each cid).others refl given)

-- it comes into use
used_so : (f : Facts) (e : Entry) (m : Machine) → f.cid ≡ e.facts.cid → Becomes (Some (taken f e m)) e.facts.cid.0 (is_used f e m).machine
used_so f e m same = grind (arith, taken f e m, turned-becomes e (taken f e m) m same, turns_at-connections)

-- what is done with this one alone
abbrev alone : Entry → Scope
alone g = on_those (λ cid. g.facts.cid.0 == cid)

stands_alone : (e : Entry) (m : Machine) → entry_at e.facts.cid.0 m ≡ Some e → Stands (alone e) e m
stands_alone e m is = found-stands (alone e) e.facts.cid.0 m e is (own_id e.facts.cid.0)

open_alone : (e : Entry) (m : Machine) → entry_at e.facts.cid.0 m ≡ Some e → is_live e.facts ≡ true → StandsOpen (alone e) e m
open_alone e m is live = record { may = refl; found = is; own = own_id e.facts.cid.0; live = live }

-- ---- a deadline

fires-becomes : (sort : Kind) (e : Entry) (m : Machine) → Becomes (turned_by_kind sort e m) e.facts.cid.0 (fires_as sort e m).machine
fires-becomes sort e m = grind (arith, turned-becomes, gone-becomes, gone-none, ending-becomes)

dialed-becomes : (opened : Bool) (e : Entry) (m : Machine) → entry_at e.facts.cid.0 m ≡ Some e →
    Becomes (Some (if is_dialing e.facts && opened then record e { facts = connected (m.now + m.settings.handshake) e.facts } else e)) e.facts.cid.0 (dialed opened e m).machine
dialed-becomes opened e m is =
    let opens = turned-becomes e (record e { facts = connected (m.now + m.settings.handshake) e.facts }) m refl in
    grind (arith, opens, vanishes-becomes (Some e) e m, stands-becomes e m is)

closes-becomes : (e : Entry) (m : Machine) → entry_at e.facts.cid.0 m ≡ Some e → Becomes (Some e) e.facts.cid.0 (closes e m).machine
closes-becomes e m is = grind (arith, vanishes-becomes (Some e) e m, stands-becomes e m is)

faulted-becomes : (fault : Option CutFault) (e : Entry) (m : Machine) → entry_at e.facts.cid.0 m ≡ Some e → Becomes (Some e) e.facts.cid.0 (faulted fault e m).machine
faulted-becomes None e m is = stands-becomes e m is
faulted-becomes (Some fault) e m is = ending-becomes (Some e) (Fault (kind_of fault)) e m

-- ---- an item in the handshake

pub judged-becomes : (v : Verdict) (e : Entry) (m : Machine) → Becomes (turned_by_verdict v e m) e.facts.cid.0 (judged v e m).machine
judged-becomes (verdict.Accept agreed) e m = turned-becomes e (record e { facts = agreed_inbound agreed (m.now + m.settings.idle) e.facts }) m refl
judged-becomes verdict.Query e m = ending-becomes None Query e m
judged-becomes (verdict.Agree agreed) e m = used_so (agreed_outbound agreed (m.now + m.settings.idle) e.facts) e m refl
judged-becomes verdict.Wrong e m = ending-becomes None (Fault Protocol) e m
judged-becomes other e m = ending-becomes None Refused e m

greets-becomes : (item : Item) (e : Entry) (m : Machine) → Becomes (turned_by_message (message_of item.body) e m) e.facts.cid.0 (greets item e m).machine
greets-becomes item e m = greets-cases item e m (λ effect. Becomes (turned_by_message (message_of item.body) e m) e.facts.cid.0 effect.machine)
    (λ fault. ending-becomes (turned_by_message (message_of item.body) e m) (Fault fault) e m)
    (λ msg is.
    let v : Verdict = verdict_of (role_of e.facts.provenance) (own_info m.settings) msg in
    rw (is, answer-machine (answer_of v (own_info m.settings)) e.facts.cid m) (judged-becomes v e m))

-- ---- an item once the handshake is done

serves-becomes : (seen : Seen) (protocol : ℕ) (e : Entry) (m : Machine) → entry_at e.facts.cid.0 m ≡ Some e →
    Becomes (Some (stopped seen.done protocol (m.now + m.settings.idle) e)) e.facts.cid.0 (serves seen protocol e m).machine
serves-becomes seen protocol e m is = grind (arith, replies-machine seen.reply protocol e m, stands-becomes e m is, turned-becomes)

pub begins-becomes : (protocol : ℕ) (e : Entry) (m : Machine) → e.facts.cid.0 < m.next_id → entry_at e.facts.cid.0 m ≡ Some e → Becomes (Some (begun protocol e)) e.facts.cid.0 (begins protocol e m).machine
begins-becomes protocol e m given is =
    let new : Entry = record e { facts = awakened protocol e.facts } in
    let n : Machine = with_entry new m in
    let awakes = then-becomes (Some new) e.facts.cid.0 n (trim e.facts.cid n).machine given (turned-becomes e new m refl) (trim-walk nobody (Waited nobody) (waits-kept nobody) e.facts.cid n) in
    grind (arith, stands-becomes e m is, awakes)

served-becomes : (seen : Seen) (protocol : ℕ) (e : Entry) (m : Machine) → e.facts.cid.0 < m.next_id → entry_at e.facts.cid.0 m ≡ Some e →
    Becomes (Some (stopped seen.done protocol (m.now + m.settings.idle) (begun protocol e))) e.facts.cid.0 (then_do (begins protocol e m) (on_connection e.facts.cid (serves seen protocol))).machine
served-becomes seen protocol e m given is =
    let until : ℕ = m.now + m.settings.idle in
    let after : Entry = stopped seen.done protocol until (begun protocol e) in
    let n : Machine = (begins protocol e m).machine in
    -- the clock and the settings stay
    let w : Waits (alone e) m n = begins-walk (alone e) (Waited (alone e)) (waits-kept (alone e)) protocol e m (stands_alone e m is) in
    let same : n.now + n.settings.idle ≡ until = ap (λ t. t + n.settings.idle) w.unset.now ∙ ap (λ s. m.now + s.idle) w.unset.settings in
    by_option (entry_at e.facts.cid.0 n)
    (λ o. IsAsItWas (Some (begun protocol e)) o → Becomes (Some after) e.facts.cid.0 (on_entry o (serves seen protocol) n).machine)
    (λ none was. gone-becomes (Some after) e.facts.cid.0 n none)
    (λ f here was.
    let it : f ≡ begun protocol e = cc in
    let own : f.facts.cid.0 ≡ e.facts.cid.0 = eqb-true f.facts.cid.0 e.facts.cid.0 (find_some (λ x. has_id e.facts.cid.0 x.facts) n.connections f here).passes in
    subst (λ x. Becomes (Some x) e.facts.cid.0 (serves seen protocol f n).machine)
    (ap (λ t. stopped seen.done protocol t f) same ∙ ap (stopped seen.done protocol until) it)
    (subst (λ c. Becomes (Some (stopped seen.done protocol (n.now + n.settings.idle) f)) c (serves seen protocol f n).machine) own
    (serves-becomes seen protocol f n (subst (λ c. entry_at c n ≡ Some f) (sym own) here)))) (begins-becomes protocol e m given is)

handled-becomes : (p : Phase) (item : Item) (e : Entry) (m : Machine) → e.facts.cid.0 < m.next_id → entry_at e.facts.cid.0 m ≡ Some e →
    Becomes (turned_by_item p item e m) e.facts.cid.0 (handled_in p item e m).machine
handled-becomes (Greeting until) item e m given is = greets-becomes item e m
handled-becomes Negotiated item e m given is =
    let n : Machine = with_entry (paid item.id e) m in
    talks-cases item e m (λ effect. Becomes (turned_by_item Negotiated item e m) e.facts.cid.0 effect.machine)
    (λ fault. ending-becomes (turned_by_item Negotiated item e m) (Fault fault) e m)
    (λ first seen was takes. rw (first, was) (served-becomes seen item.id e m given is))
    (λ second owed here. rw second (then-becomes (Some (paid item.id e)) e.facts.cid.0 n (brings item.id item.body e n).machine given (turned-becomes e (paid item.id e) m refl)
    (brings-walk nobody (Waited nobody) (waits-kept nobody) item.id item.body e n refl)))
handled-becomes other item e m given is = stands-becomes e m is

-- ---- an order

-- a connection that stands in an ordered record, and has the address of an order
record Ordered (addr : Addr) (m : Machine) (e : Entry) : Type 0 where
  ordered : IsOrdered m
  is : entry_at e.facts.cid.0 m ≡ Some e
  here : same_address e.facts.addr addr ≡ true

pub given_id : (m : Machine) (e : Entry) → IsOrdered m → entry_at e.facts.cid.0 m ≡ Some e → e.facts.cid.0 < m.next_id
given_id m e h is = grind (arith, find_some (λ x. has_id e.facts.cid.0 x.facts) m.connections e is)

-- where it has no test that another has, what changes that one leaves it
other-becomes : (test : Entry → Bool) (m n : Machine) (e g : Entry) → IsOrdered m → entry_at e.facts.cid.0 m ≡ Some e → entry_at g.facts.cid.0 m ≡ Some g → test e ≡ false → test g ≡ true →
    Waits (alone g) m n → Becomes (Some e) e.facts.cid.0 n
other-becomes test m n e g h is at fails passes w =
    let apart : (g.facts.cid.0 == e.facts.cid.0) ≡ false = grind (arith, is, at, fails, passes) in
    was_then (Some e) (entry_at e.facts.cid.0 m) (entry_at e.facts.cid.0 n) (stands-becomes e m is) ((w.each e.facts.cid.0).others apart (given_id m e h is))

-- the one in use is the one that an order finds
used-found : (addr : Addr) (m : Machine) (e : Entry) → Ordered addr m e → e.facts.local ≡ true → find (is_used_at addr) m.connections ≡ Some e
used-found addr m e o local = grind (arith, find_some (λ x. has_id e.facts.cid.0 x.facts) m.connections e o.is, used_one addr m o.ordered.orderly, negotiated-live, local-negotiated, find_only)

used-becomes : (addr : Addr) (act : Entry → Machine → Effect) (new : Entry) (m : Machine) (e : Entry) → Ordered addr m e →
    ((g : Entry) → StandsOpen (alone g) g m → Waits (alone g) m (act g m).machine) → Becomes (Some new) e.facts.cid.0 (act e m).machine →
    Becomes (Some (if e.facts.local then new else e)) e.facts.cid.0 (on_used addr act m).machine
used-becomes addr act new m e o others turns =
    let other : (g : Entry) → find (is_used_at addr) m.connections ≡ Some g → e.facts.local ≡ false → Becomes (Some e) e.facts.cid.0 (act g m).machine =
    λ g at not_used.
    let place : FoundIn (is_used_at addr) m.connections g = find_some (is_used_at addr) m.connections g at in
    let stands : entry_at g.facts.cid.0 m ≡ Some g = stands-found m g place.place o.ordered.orderly place.stands in
    let used = and_parts (is_live_at addr g.facts) g.facts.local place.passes in
    other-becomes (λ x. x.facts.local) m (act g m).machine e g o.ordered o.is stands not_used used.1
    (others g (open_alone g m stands (and_parts (same_address g.facts.addr addr) (is_live g.facts) used.0).1)) in
    grind (arith, other, used-found addr m e o, turns, stands-becomes e m o.is)

promotes-becomes : (addr : Addr) (m : Machine) (e : Entry) → Ordered addr m e → Becomes (Some (turned_by_order (Promote addr) e m)) e.facts.cid.0 (promoted_at (live_entry_at addr m) addr m).machine
promotes-becomes addr m e o =
    let new : Entry = taken (acquired e.facts) e m in
    let dials : Becomes (Some e) e.facts.cid.0 (dial addr m).machine =
    then-becomes (Some e) e.facts.cid.0 m (dial addr m).machine (given_id m e o.ordered o.is) (stands-becomes e m o.is) (dial-waits nobody addr m) in
    by_bool (is_acquirable e.facts)
    (λ b. Becomes (Some (if b then new else e)) e.facts.cid.0 (promoted_at (live_entry_at addr m) addr m).machine)
    (λ free.
    let place : FoundIn (λ x. has_id e.facts.cid.0 x.facts) m.connections e = find_some (λ x. has_id e.facts.cid.0 x.facts) m.connections e o.is in
    let live : is_live e.facts ≡ true = negotiated-live e.facts.phase (can_acquire e.facts free).negotiated in
    let found : live_entry_at addr m ≡ Some e = subst (λ a. live_entry_at a m ≡ Some e) (same_address-true e.facts.addr addr o.here) (live_here m e place.place o.ordered.orderly place.stands live) in
    rw (found, free) (used_so (acquired e.facts) e m refl))
    (λ other. by_option (live_entry_at addr m) (λ found. Becomes (Some e) e.facts.cid.0 (promoted_at found addr m).machine)
    (λ none. dials)
    (λ g at.
    let place : FoundIn (λ x. is_live_at addr x.facts) m.connections g = find_some (λ x. is_live_at addr x.facts) m.connections g at in
    let stands : entry_at g.facts.cid.0 m ≡ Some g = stands-found m g place.place o.ordered.orderly place.stands in
    cond_both (is_acquirable g.facts) (acquire g m) (dial addr m) (λ effect. Becomes (Some e) e.facts.cid.0 effect.machine)
    (λ free. other-becomes (λ x. is_acquirable x.facts) m (acquire g m).machine e g o.ordered o.is stands other free
    (acquire-walk (alone g) (Waited (alone g)) (waits-kept (alone g)) g m
    (open_alone g m stands (and_parts (same_address g.facts.addr addr) (is_live g.facts) place.passes).1))) (λ busy. dials)))

release-becomes : (e : Entry) (m : Machine) → e.facts.cid.0 < m.next_id → Becomes (Some (turned_by is_released e m)) e.facts.cid.0 (release e m).machine
release-becomes e m given =
    let new : Entry = turned_by is_released e m in
    let n : Machine = with_entry new m in
    let o : Machine = cooled e m in
    let trims : Waits nobody o (trim e.facts.cid o).machine = trim-walk nobody (Waited nobody) (waits-kept nobody) e.facts.cid o in
    grind (arith, release-machine e m, turned-becomes e new m refl, then-becomes, waits_then, changed-waits)

orders-become : (order : Order) (m : Machine) (e : Entry) → Ordered (address_of order) m e → Becomes (Some (turned_by_order order e m)) e.facts.cid.0 (carries_out order m).machine
orders-become (Ask addr n) m e o = used-becomes addr (asks_peer n) (owing 10 n m e) m e o (λ g stands. asks_peer-walk (alone g) (Waited (alone g)) (waits-kept (alone g)) n g m stands)
    (let w : Machine = with_entry (owing 10 n m e) m in
    then-becomes (Some (owing 10 n m e)) e.facts.cid.0 w (asks_peer n e m).machine (given_id m e o.ordered o.is) (turned-becomes e (owing 10 n m e) m refl)
    (changed-waits nobody (peer_at e.facts.addr w) (λ p. record p { share_next = m.now + m.settings.sharegap }) w))
orders-become (Forget addr) m e o = stands-becomes e m o.is
orders-become (Promote addr) m e o = promotes-becomes addr m e o
orders-become (Release addr) m e o = used-becomes addr release (record e { facts = released (m.now + m.settings.idle) e.facts }) m e o
    (λ g stands. release-walk (alone g) (Waited (alone g)) (waits-kept (alone g)) g m stands) (release-becomes e m (given_id m e o.ordered o.is))
orders-become (Activate addr) m e o = used-becomes addr activates (owing 2 0 m e) m e o (λ g stands. activates-walk (alone g) (Waited (alone g)) (waits-kept (alone g)) g m stands) (turned-becomes e (owing 2 0 m e) m refl)
orders-become (Deactivate addr) m e o = grind arith

-- ---- each act

own-becomes : (o : Option Entry) (own cid : ℕ) (act : Entry → Machine → Effect) (m : Machine) (e : Entry) → (own == cid) ≡ true → entry_at cid m ≡ Some e →
    (entry_at e.facts.cid.0 m ≡ Some e → Becomes o e.facts.cid.0 (act e m).machine) → Becomes o cid (on_entry (entry_at own m) act m).machine
own-becomes o own cid act m e same is each = grind (arith, find_some (λ x. has_id cid x.facts) m.connections e is)

-- The connection that a part is about is gone, or has turned into that one.
pub part-becomes : (act : Act) (m : Machine) → Finds act m → (cid : ℕ) (e : Entry) → is_about act m cid ≡ true → entry_at cid m ≡ Some e → Becomes (turned act e m) cid (does act m).machine
part-becomes (fires_one d) m found cid e own is = own-becomes (turned_by_kind d.kind e m) d.cid.0 cid (fires_as d.kind) m e own is (λ here. fires-becomes d.kind e m)
part-becomes (carries order) m found cid e own is =
    let mine : e.facts.cid.0 ≡ cid = eqb-true e.facts.cid.0 cid (find_some (λ x. has_id cid x.facts) m.connections e is).passes in
    grind (arith, orders-become)
part-becomes (ends_dial own_id opened) m found cid e own is = own-becomes (turned (ends_dial own_id opened) e m) own_id.0 cid (dialed opened) m e own is (λ here. dialed-becomes opened e m here)
part-becomes (stores entry undecoded) m found cid e own is = grind (arith, turned-becomes)
part-becomes (handles_item own_id item) m found cid e own is =
    own-becomes (turned_by_item e.facts.phase item e m) own_id.0 cid (handled item) m e own is (λ here. handled-becomes e.facts.phase item e m (given_id m e found here) here)
part-becomes (ends_stream own_id fault) m found cid e own is = own-becomes (Some e) own_id.0 cid (faulted fault) m e own is (λ here. faulted-becomes fault e m here)
part-becomes (is_closed own_id) m found cid e own is = own-becomes (Some e) own_id.0 cid closes m e own is (λ here. closes-becomes e m here)
part-becomes other m found cid e own is = absurd (false≢true own)
