-- A connection in its handshake: whatever comes in, the connections stay in order and within the limit.
use Rattle.std.proofs.Common.{ℕ, ◌+◌, ◌≤◌, ◌≡◌, Bool, true, false, List, [], Option, Some, None, refl, sym, subst, arith}
use Rattle.laws.proofs.Words.{both_ways}
use Rattle.laws.specs.Words.{accepts_info, agrees_on, meets_info, verdict_of, answer_of, Acceptor, Dialer, Verdict, VersionInfo, Info, Message, Offer, Item, CloseCause, Protocol, Agreed, Cid, Negotiated, Provenance, agreed_inbound, agreed_outbound, is_greeting, is_negotiated, is_outbound, is_outbound_by, Machine, Entry, counted_in, sends_as_responder, Effect, own_info, ending, role_of, sends_answer, judged, decided, greets}
use Rattle.laws.specs.Words.verdict
use Rattle.laws.specs.Words.message
use Rattle.laws.specs.Words.cause
use Rattle.laws.specs.AtMoves.{IsPrunedRightly, IsLawful, is_up_connection}
use Rattle.laws.specs.Steady.{IsShaped, IsOrdered}
use Rattle.laws.proofs.Keeping.{Keeps, keeps_nothing}
use Rattle.laws.proofs.Lawful.{IsQuiet, quiet-obeys, tells-quiet, turns-obeys, negotiated-forward, used-obeys}
use Rattle.laws.proofs.Lists.{StandsAt}
use Rattle.laws.proofs.Shapes.{greeting-unnegotiated}
use Rattle.laws.proofs.Trims.{Trimmed, keeps-trimmed, ending-trimmed, trimmed_then}
use Rattle.laws.proofs.WholeMoves.{stands-shaped, IsLost, greeting-live, agrees_inbound-keeps, agrees_outbound-keeps, greeting-opening}
use Rattle.laws.proofs.Walk.{answer-machine}
use Rattle.laws.proofs.ItemCases.{greets-cases}

-- ---- who comes to which verdict

abbrev is_accept : Verdict → Bool
is_accept (verdict.Accept agreed) = true
is_accept other = false

abbrev is_agree : Verdict → Bool
is_agree (verdict.Agree agreed) = true
is_agree other = false

accepts_info-no_agree : (own : VersionInfo) (version : ℕ) (info : Info) → is_agree (accepts_info own version info) ≡ false
accepts_info-no_agree own version info = grind arith

meets_info-no_accept : (own : VersionInfo) (version : ℕ) (info : Info) → is_accept (meets_info own version info) ≡ false
meets_info-no_accept own version info = grind arith

agrees_on-no_accept : (own : VersionInfo) (version : ℕ) (info : Info) → is_accept (agrees_on own version info) ≡ false
agrees_on-no_accept own version info = grind arith

-- a dialer accepts nothing, and an acceptor agrees to nothing
dialer-no_accept : (own : VersionInfo) (m : Message) → is_accept (verdict_of Dialer own m) ≡ false
dialer-no_accept own m = grind arith

acceptor-no_agree : (own : VersionInfo) (m : Message) → is_agree (verdict_of Acceptor own m) ≡ false
acceptor-no_agree own (message.Propose table) = grind (arith, λ (offer : Offer). accepts_info-no_agree own offer.version offer.info)
acceptor-no_agree own other = refl

-- ---- what a verdict does

pub answer-quiet : (o : Option (List ℕ)) (cid : Cid) (m : Machine) → IsQuiet m (sends_answer o cid m)
answer-quiet None cid m = tells-quiet [] m refl
answer-quiet (Some bytes) cid m = tells-quiet (sends_as_responder cid 0 bytes m).actions m refl

-- who answers a greeting: an acceptor was dialed, and a dialer has dialed
record Greets (m : Machine) (e : Entry) (k : ℕ) : Type 0 where
  ordered : IsOrdered m
  within : counted_in m ≤ m.settings.hard
  stands : StandsAt m.connections k e
  greeting : is_greeting e.facts ≡ true

-- that its handshake is not done is cause enough
ends : (cause : CloseCause) → IsLost cause → (m : Machine) (e : Entry) (k : ℕ) → Greets m e k → IsPrunedRightly cause e m → Trimmed IsLawful m (ending cause e m)
ends cause loses m e k g crowded =
    ending-trimmed cause loses m e k g.ordered g.within g.stands (greeting-live e.facts.phase g.greeting)
    (λ negotiated. absurd (both_ways (is_negotiated e.facts) (greeting-unnegotiated e.facts.phase g.greeting) negotiated)) crowded

-- who was dialed by the other side is not used
agreed_inbound-down : (agreed : Agreed) (until : ℕ) (e : Entry) → is_greeting e.facts ≡ true → IsShaped e.facts →
    is_up_connection (Some (record e { facts = agreed_inbound agreed until e.facts })) ≡ true → is_up_connection (Some e) ≡ true
agreed_inbound-down agreed until e greeting shape up = grind (arith, up, (shape.unused (greeting-unnegotiated e.facts.phase greeting)).local)

-- and who was dialed by this node is on its way
greeting-up : (e : Entry) → is_greeting e.facts ≡ true → is_outbound e.facts ≡ true → is_up_connection (Some e) ≡ true
greeting-up e greeting outbound = grind (arith, outbound, greeting-opening e.facts.phase greeting)

judged-trimmed : (v : Verdict) (m : Machine) (e : Entry) (k : ℕ) → Greets m e k → (is_accept v ≡ true → is_outbound e.facts ≡ false) →
    (is_agree v ≡ true → is_outbound e.facts ≡ true) → Trimmed IsLawful m (judged v e m)
judged-trimmed (verdict.Accept agreed) m e k g accepts agrees =
    let live = greeting-live e.facts.phase g.greeting in
    keeps-trimmed IsLawful m (judged (verdict.Accept agreed) e m) g.within (agrees_inbound-keeps agreed m e k g.ordered g.stands g.greeting (accepts refl))
    (turns-obeys IsLawful m e (record e { facts = agreed_inbound agreed (m.now + m.settings.idle) e.facts }) k g.ordered.orderly g.stands (grind (arith, live))
    (record { up = agreed_inbound-down agreed (m.now + m.settings.idle) e g.greeting (stands-shaped m e k g.ordered g.stands); asked = λ asked. asked })
    (negotiated-forward e.facts.phase Negotiated live refl))
judged-trimmed verdict.Query m e k g accepts agrees = ends cause.Query refl m e k g tt
judged-trimmed (verdict.Agree agreed) m e k g accepts agrees =
    keeps-trimmed IsLawful m (judged (verdict.Agree agreed) e m) g.within (agrees_outbound-keeps agreed m e k g.ordered g.stands g.greeting (agrees refl))
    (used-obeys IsLawful (agreed_outbound agreed (m.now + m.settings.idle) e.facts) m e k g.ordered.orderly g.stands refl refl
    (greeting-live e.facts.phase g.greeting) refl (greeting-up e g.greeting (agrees refl)))
judged-trimmed verdict.Wrong m e k g accepts agrees = ends (cause.Fault Protocol) refl m e k g tt
judged-trimmed other m e k g accepts agrees = ends cause.Refused refl m e k g tt

accepts-inbound : (own : VersionInfo) (p : Provenance) (msg : Message) → is_accept (verdict_of (role_of p) own msg) ≡ true → is_outbound_by p ≡ false
accepts-inbound own p msg h = grind (arith, h, dialer-no_accept own msg)

agrees-outbound : (own : VersionInfo) (p : Provenance) (msg : Message) → is_agree (verdict_of (role_of p) own msg) ≡ true → is_outbound_by p ≡ true
agrees-outbound own p msg h = grind (arith, h, acceptor-no_agree own msg)

decided-trimmed : (msg : Message) (m : Machine) (e : Entry) (k : ℕ) → Greets m e k →
    Trimmed IsLawful m (decided (verdict_of (role_of e.facts.provenance) (own_info m.settings) msg) e m)
decided-trimmed msg m e k g =
    let own : VersionInfo = own_info m.settings in
    let v : Verdict = verdict_of (role_of e.facts.provenance) own msg in
    let first : Effect = sends_answer (answer_of v own) e.facts.cid m in
    let same : m ≡ first.machine = sym (answer-machine (answer_of v own) e.facts.cid m) in
    trimmed_then IsLawful m first (judged v e)
    (keeps-trimmed IsLawful m first g.within (subst (Keeps 0 m) same (keeps_nothing m g.ordered))
    (quiet-obeys IsLawful m first (answer-quiet (answer_of v own) e.facts.cid m)))
    (subst (λ n. Trimmed IsLawful n (judged v e n)) same
    (judged-trimmed v m e k g (accepts-inbound own e.facts.provenance msg) (agrees-outbound own e.facts.provenance msg)))

-- an item comes in
pub greets-trimmed : (item : Item) (m : Machine) (e : Entry) (k : ℕ) → IsOrdered m → counted_in m ≤ m.settings.hard →
    StandsAt m.connections k e → is_greeting e.facts ≡ true → Trimmed IsLawful m (greets item e m)
greets-trimmed item m e k h within s greeting =
    let g : Greets m e k = record { ordered = h; within = within; stands = s; greeting = greeting } in
    greets-cases item e m (Trimmed IsLawful m) (λ fault. ends (cause.Fault fault) refl m e k g tt) (λ msg is. decided-trimmed msg m e k g)
