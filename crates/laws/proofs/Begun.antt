-- On the connection that a part is about a wait begins, goes on and ends exactly where it is to.
use Rattle.std.proofs.Common.{ℕ, ◌+◌, ◌≡◌, Bool, true, false, not, ◌&&◌, ◌||◌, if◌then◌else◌, Option, Some, None, Result, Ok, Err, refl, sym, ap, ◌∙◌, subst, eq-eqb, eqb-true, [], arith}
use Rattle.laws.proofs.Words.{false≢true, and_right}
use Rattle.laws.specs.Words.{agreed_inbound, agreed_outbound, awakened, connected, expired, released, has_id, is_dialing_phase, is_for_remote, is_live, is_negotiated, some_runs, agreed_sharing, Order, verdict_of, Verdict, Message, Item, FaultKind, Agreed, Off, Phase, Greeting, Negotiated, Deadline, Kind, watched, Seen, closing_entry, fires_as, fires, on_entry, role_of, Machine, Entry, entry_at, own_info, owing, paid}
use Rattle.laws.specs.Words.kind
use Rattle.laws.specs.Acts.{Act, fires_one, carries, ends_dial, stores, handles_item, ends_stream, is_closed, does}
use Rattle.laws.specs.Begun.{is_kind, is_reply_on, begun_where, ended_where, wait_fired, wait_ordered, wait_agreed, wait_asked, wait_handled, wait_after, WaitsBegin}
use Rattle.laws.specs.Moments.{IsOverAfter}
use Rattle.laws.specs.Parts.{IsNext}
use Rattle.laws.specs.Untouched.{is_about, IsAsItWas}
use Rattle.laws.specs.Waits.{until_unused, until_of, until_in, until_at}
use Rattle.laws.specs.Steady.{IsShaped, IsOwing, IsOrdered}
use Rattle.laws.proofs.Lists.{find_some}
use Rattle.laws.proofs.Shapes.{greeting-unnegotiated}
use Rattle.laws.proofs.Talks.{seen-known, woken-runs, runs-some}
use Rattle.laws.proofs.Turned.{turned_by_kind, turned_by_order, turned_by_verdict, turned_by_message, begun, stopped, turned_by_request, turned_by_item, turned, part-becomes}
use Rattle.laws.proofs.Waits.{owing-until, paid-until}
use Rattle.laws.proofs.Walk.{Finds, taken}
use Rattle.laws.proofs.WholeMoves.{negotiated-live}
use Rattle.laws.proofs.Cases.{by_option}

-- ---- a deadline

-- who has a grace has done its handshake
graced-negotiated : (e : Entry) (until : ℕ) → IsShaped e.facts → until_unused e.facts.grace ≡ Some until → is_negotiated e.facts ≡ true
graced-negotiated e until h waits = grind arith

expired-waits : (e : Entry) (m : Machine) → is_live e.facts ≡ true → (sort : Kind) →
    until_of sort (record e { facts = expired e.facts }) ≡ wait_fired kind.Grace sort e (record e { facts = expired e.facts }) m
expired-waits e m live kind.Handshake = rw live refl
expired-waits e m live other = rw live refl

-- nothing is owed on one that nobody uses
closed-waits : (e : Entry) (m : Machine) → e.owed ≡ [] → (sort : Kind) → until_of sort (closing_entry m e) ≡ wait_fired kind.Grace sort e (closing_entry m e) m
closed-waits e m none sort = grind arith

fired-waits : (fired : Kind) (until : ℕ) (e f : Entry) (m : Machine) → IsShaped e.facts → IsOwing e → until_of fired e ≡ Some until → turned_by_kind fired e m ≡ Some f →
    (sort : Kind) → until_of sort f ≡ wait_fired fired sort e f m
fired-waits kind.Grace until e f m shape owing_ waits is sort =
    let negotiated = negotiated-live e.facts.phase (graced-negotiated e until shape waits) in
    grind (arith, expired-waits e m negotiated sort, closed-waits e m, owing_.used)
fired-waits other until e f m shape owing_ waits is sort = absurd cc

-- ---- what is asked

owes-waits : (protocol asked : ℕ) (e : Entry) (m : Machine) (sort : Kind) → until_of sort (owing protocol asked m e) ≡ begun_where (is_reply_on protocol sort) sort e m
owes-waits protocol asked e m sort = grind (arith, owing-until)

owes_where-waits : (b : Bool) (protocol asked : ℕ) (e : Entry) (m : Machine) (sort : Kind) →
    until_of sort (if b then owing protocol asked m e else e) ≡ begun_where (b && is_reply_on protocol sort) sort e m
owes_where-waits true protocol asked e m sort = owes-waits protocol asked e m sort
owes_where-waits false protocol asked e m sort = refl

-- ---- an order

released-waits : (e : Entry) (m : Machine) (sort : Kind) →
    until_of sort (record e { facts = released (m.now + m.settings.idle) e.facts })
    ≡ begun_where (not (some_runs e.facts.running || is_for_remote e.facts.grace) && is_kind kind.Grace sort) sort e m
released-waits e m kind.Grace = grind arith
released-waits e m other = rw (and_right (not (some_runs e.facts.running || is_for_remote e.facts.grace)) false refl) refl

taken-waits : (e : Entry) (m : Machine) (sort : Kind) → until_of sort (taken (record e.facts { local = true }) e m) ≡ begun_where (is_reply_on 8 sort) sort e m
taken-waits e m sort = grind (arith, owing-until)

ordered-waits : (order : Order) (e : Entry) (m : Machine) (sort : Kind) → until_of sort (turned_by_order order e m) ≡ wait_ordered order sort e m
ordered-waits order e m sort = grind (arith, taken-waits, released-waits, owes_where-waits, taken)

-- ---- the end of a dial

dialed-waits : (opened : Bool) (e : Entry) (m : Machine) (sort : Kind) →
    until_of sort (if is_dialing_phase e.facts.phase && opened then record e { facts = connected (m.now + m.settings.handshake) e.facts } else e)
    ≡ begun_where (is_dialing_phase e.facts.phase && opened && is_kind kind.Handshake sort) sort e m
dialed-waits opened e m sort = grind arith

-- ---- the handshake

-- nobody uses a connection before its handshake is done
agreed_inbound-waits : (agreed : Agreed) (e : Entry) (m : Machine) → e.facts.local ≡ false → (sort : Kind) →
    until_of sort (record e { facts = agreed_inbound agreed (m.now + m.settings.idle) e.facts }) ≡ wait_agreed sort e (record e { facts = agreed_inbound agreed (m.now + m.settings.idle) e.facts }) m
agreed_inbound-waits agreed e m unused sort = grind arith

agreed_outbound-waits : (agreed : Agreed) (e : Entry) (m : Machine) (sort : Kind) →
    until_of sort (taken (agreed_outbound agreed (m.now + m.settings.idle) e.facts) e m) ≡ wait_agreed sort e (taken (agreed_outbound agreed (m.now + m.settings.idle) e.facts) e m) m
agreed_outbound-waits agreed e m sort = grind (arith, owing-until)

verdict-waits : (v : Verdict) (e f : Entry) (m : Machine) → e.facts.local ≡ false → turned_by_verdict v e m ≡ Some f → (sort : Kind) → until_of sort f ≡ wait_agreed sort e f m
verdict-waits v e f m unused is sort = grind (arith, agreed_inbound-waits, taken, agreed_outbound-waits)

message-waits : (o : Option Message) (e f : Entry) (m : Machine) → e.facts.local ≡ false → turned_by_message o e m ≡ Some f → (sort : Kind) → until_of sort f ≡ wait_agreed sort e f m
message-waits None e f m unused is sort = absurd cc
message-waits (Some message) e f m unused is sort = verdict-waits (verdict_of (role_of e.facts.provenance) (own_info m.settings) message) e f m unused is sort

-- ---- once the handshake is done

-- no grace runs while a protocol does that has begun
begun-off : (protocol : ℕ) (e : Entry) → IsShaped e.facts → (begun protocol e).facts.grace ≡ Off
begun-off protocol e h = grind (arith, runs-some)

begun-runs : (protocol : ℕ) (e : Entry) → some_runs (awakened protocol e.facts).running ≡ true → some_runs (begun protocol e).facts.running ≡ true
begun-runs protocol e wakes = grind arith

begun-same : (protocol : ℕ) (e : Entry) (sort : Kind) → is_kind kind.Grace sort ≡ false → until_of sort (begun protocol e) ≡ until_of sort e
begun-same protocol e sort other = grind arith

-- what has begun, and stops where it is done
asked-waits : (done : Bool) (protocol : ℕ) (e : Entry) (m : Machine) → IsShaped e.facts → some_runs (awakened protocol e.facts).running ≡ true → (sort : Kind) →
    until_of sort (stopped done protocol (m.now + m.settings.idle) (begun protocol e)) ≡ wait_asked sort e (stopped done protocol (m.now + m.settings.idle) (begun protocol e)) m
asked-waits done protocol e m h wakes sort =
    grind (arith, begun-off protocol e h, begun-runs protocol e wakes, begun-same protocol e)

paid-waits : (protocol : ℕ) (e : Entry) (sort : Kind) → until_of sort (paid protocol e) ≡ ended_where (is_reply_on protocol sort) sort e
paid-waits protocol e sort = grind (arith, paid-until)

requested-waits : (r : Result Seen FaultKind) (item : Item) (e f : Entry) (m : Machine) → watched item.id (agreed_sharing e.facts.agreed) item.body ≡ r → IsShaped e.facts →
    turned_by_request r item.id e m ≡ Some f → (sort : Kind) → until_of sort f ≡ wait_asked sort e f m
requested-waits (Err fault) item e f m seen_ h is sort = absurd cc
requested-waits (Ok seen) item e f m seen_ h is sort =
    grind (arith, is, asked-waits seen.done item.id e m h (woken-runs item.id e.facts (seen-known item.id (agreed_sharing e.facts.agreed) item.body seen seen_)) sort)

handled-waits : (p : Phase) (item : Item) (e f : Entry) (m : Machine) → e.facts.phase ≡ p → IsShaped e.facts → turned_by_item p item e m ≡ Some f → (sort : Kind) →
    until_of sort f ≡ wait_handled p item sort e f m
handled-waits (Greeting until) item e f m at h is sort = grind (arith, greeting-unnegotiated, message-waits)
handled-waits Negotiated item e f m at h is sort =
    grind (arith, requested-waits (watched item.id (agreed_sharing e.facts.agreed) item.body) item e f m refl h, paid-waits item.id e sort)
handled-waits other item e f m at h is sort = let it : e ≡ f = cc in ap (until_of sort) (sym it)

-- ---- each act

stored-waits : (undecoded : _) (e : Entry) (sort : Kind) → until_of sort (record e { undecoded = undecoded }) ≡ until_of sort e
stored-waits undecoded e kind.Handshake = refl
stored-waits undecoded e other = refl

shaped-at : (m : Machine) (cid : ℕ) (e : Entry) → IsOrdered m → entry_at cid m ≡ Some e → IsShaped e.facts × IsOwing e
shaped-at m cid e h is = grind (arith, find_some (λ x. has_id cid x.facts) m.connections e is)

-- what it has turned into waits so
turned-waits : (act : Act) (m : Machine) → IsNext act m → Finds act m → (cid : ℕ) (e f : Entry) → is_about act m cid ≡ true → entry_at cid m ≡ Some e → turned act e m ≡ Some f →
    (sort : Kind) → until_of sort f ≡ wait_after act sort e f m
turned-waits (fires_one d) m next found cid e f own at is sort =
    let h = shaped-at m cid e found at in
    fired-waits d.kind d.at e f m h.0 h.1
    (sym (ap (until_in d.kind) at) ∙ (ap (λ c. until_at d.kind c m) (sym (eqb-true d.cid.0 cid own)) ∙ next.waited)) is sort
turned-waits (carries order) m next found cid e f own at is sort = grind (arith, turned_by_order, ordered-waits)
turned-waits (ends_dial own_id opened) m next found cid e f own at is sort = grind (arith, dialed-waits)
turned-waits (stores entry undecoded) m next found cid e f own at is sort = grind arith
turned-waits (handles_item own_id item) m next found cid e f own at is sort = grind (arith, handled-waits, shaped-at)
turned-waits (ends_stream own_id fault) m next found cid e f own at is sort = let it : e ≡ f = cc in ap (until_of sort) (sym it)
turned-waits (is_closed own_id) m next found cid e f own at is sort = let it : e ≡ f = cc in ap (until_of sort) (sym it)
turned-waits other m next found cid e f own at is sort = absurd (false≢true own)

pub waits-begin : (act : Act) (m : Machine) → IsNext act m → Finds act m → WaitsBegin act m (does act m).machine
waits-begin act m next found cid own = grind (arith, own, part-becomes act m found cid, turned-waits act m next found cid)

-- ---- what has fired is over

fired-over : (fired : Kind) (e : Entry) (m : Machine) (o : Option Entry) → IsAsItWas (turned_by_kind fired e m) o → until_in fired o ≡ None
fired-over fired e m o becomes = grind arith

fires-over : (d : Deadline) (m : Machine) → IsOrdered m → until_at d.kind d.cid.0 (fires d m).machine ≡ None
fires-over d m h = by_option (entry_at d.cid.0 m) (λ o. until_at d.kind d.cid.0 (fires d m).machine ≡ None)
    (λ is. subst (λ o. until_at d.kind d.cid.0 (on_entry o (fires_as d.kind) m).machine ≡ None) (sym is) (ap (until_in d.kind) is))
    (λ e is. fired-over d.kind e m (entry_at d.cid.0 (fires d m).machine) (part-becomes (fires_one d) m h d.cid.0 e (eq-eqb d.cid.0 d.cid.0 refl) is))

pub over-after : (act : Act) (m : Machine) → Finds act m → IsOverAfter act (does act m).machine
over-after (fires_one d) m found = fires-over d m found
over-after other m found = tt
