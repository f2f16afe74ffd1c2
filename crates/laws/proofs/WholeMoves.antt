-- The moves of connections in the whole machine: what each keeps, and by how much it may raise the counted ones.
use Rattle.std.proofs.Common.{ℕ, ◌+◌, ◌%◌, ◌≤◌, ◌≡◌, Bool, true, false, ◌||◌, nat_le, ◌==◌, if◌then◌else◌, count_by, Option, Some, None, is_some, subst, refl, sym, ap, ◌∙◌, arith}
use Rattle.laws.proofs.Words.{cond_both, and_from, false≢true}
use Rattle.laws.specs.Words.{CloseCause, Overwritten, Agreed, Cid, Facts, Undecoded, Grace, Off, ForRemote, ForLocal, Phase, Dialing, Greeting, Negotiated, Peer, Warm, Version, settings_tests, failed_peer, connected, agreed_inbound, agreed_outbound, acquired, released, awakened, idled, agreed_sharing, is_pending, opening_phase, is_negotiated, is_negotiated_phase, is_dialing, is_dialing_phase, is_greeting, is_greeting_phase, live_phase, is_outbound, is_for_remote, some_runs, is_acquirable, is_live, Machine, Entry, live_entry_at, nothing_more, peer_at, peer_fails, peer_succeeds, reply_on, owing, paid, is_owed_on, with_entry, without_entry, is_missed, lost, lost_by, ending, vanishes, is_used, is_agreed_inbound, is_agreed_outbound, acquire, idle, grace_deadlines}
use Rattle.laws.specs.AtMoves.{IsReady}
use Rattle.laws.specs.Steady.{IsShaped, IsUnused, TiedBy, IsTied, IsOwing, IsOrdered}
use Rattle.laws.proofs.Counts.{counted_of, late_of, one_if_counted, is_late, grace_late_of}
use Rattle.laws.proofs.Effects.{at_most_one, one_if-counted, one_if-not_counted, counted-connected, counted-greeting, counted-agreed_outbound, fewer-acquired, counted-running, phase_late_of, owed_late, late-fewer, ahead, phase-ahead, remote-ahead, local-ahead, owing-fewer, paid-fewer}
use Rattle.laws.proofs.Entries.{TurnsInto}
use Rattle.laws.proofs.Keeping.{Moves, Keeps, moves_nothing, moves_then, moves-keeps, turns-moves, goes-moves, changes-moves}
use Rattle.laws.proofs.Lists.{StandsAt, All-stands}
use Rattle.laws.proofs.Owing.{OwesNothing, nothing-owing, nothing_owed, alike-owing, paid-owing, owing-owing, with_reply-some, paid-some}
use Rattle.laws.proofs.Ties.{turned-ties, gone-ties, changed-ties, gone_here, gone_elsewhere, turned_here, turned_elsewhere, live_here}
use Rattle.laws.proofs.Settings.{first_failing-none, interval-positive, handshake-positive}
use Rattle.laws.proofs.Shapes.{connected-shaped, agreed_inbound-shaped, agreed_outbound-shaped, acquired-shaped, released-shaped, awakened-shaped, idled-shaped, running-negotiated, greeting-unnegotiated, serves_remote, can_acquire}

-- ---- intervals

idle-ahead : (m : Machine) → IsOrdered m → nat_le (m.now + m.settings.idle) m.now ≡ false
idle-ahead m h = ahead m.now m.settings.idle (interval-positive m.settings.idle (first_failing-none (settings_tests m.settings) h.orderly.settings 7 (Version, true) (omega arith)))

reply-ahead : (m : Machine) → IsOrdered m → nat_le (m.now + m.settings.reply) m.now ≡ false
reply-ahead m h = ahead m.now m.settings.reply (interval-positive m.settings.reply (first_failing-none (settings_tests m.settings) h.orderly.settings 10 (Version, true) (omega arith)))

-- a grace that goes on, or one that begins and is not late
grace-fewer : (now : ℕ) (cid : Cid) (stays : Bool) (grace new : Grace) → count_by (is_late now) (grace_deadlines cid new) ≡ 0 →
    count_by (is_late now) (grace_deadlines cid (if stays then grace else new)) ≤ count_by (is_late now) (grace_deadlines cid grace)
grace-fewer now cid true grace new none = omega arith
grace-fewer now cid false grace new none = omega (arith, none)

-- ---- one connection

-- what stands is in shape
pub stands-shaped : (m : Machine) (e : Entry) (k : ℕ) → IsOrdered m → StandsAt m.connections k e → IsShaped e.facts
stands-shaped m e k h s = All-stands (λ x. IsShaped x.facts) m.connections k e s h.formed.shaped

-- and owes only what it may
pub stands-owing : (m : Machine) (e : Entry) (k : ℕ) → IsOrdered m → StandsAt m.connections k e → IsOwing e
stands-owing m e k h s = All-stands IsOwing m.connections k e s h.formed.owing

pub pending-unnegotiated : (f : Facts) → is_pending f ≡ true → is_negotiated f ≡ false
pending-unnegotiated f h = grind arith

-- ---- a connection goes

missed-live : (f : Facts) → IsShaped f → is_missed f ≡ true → is_live f ≡ true
missed-live f shape missed = grind arith

not_missed-unused : (f : Facts) → is_missed f ≡ false → f.local ≡ false
not_missed-unused f h = grind arith

lost-ties : (m : Machine) (e : Entry) (k : ℕ) → IsOrdered m → StandsAt m.connections k e → IsTied m →
    IsTied (lost e.facts (without_entry e.facts.cid.0 m)).machine
lost-ties m e k h s ties =
    let n : Machine = without_entry e.facts.cid.0 m in
    let shape : IsShaped e.facts = stands-shaped m e k h s in
    cond_both (is_missed e.facts) (peer_fails e.facts.addr n) (nothing_more n) (λ effect. IsTied effect.machine)
    (λ missed.
    let none : live_entry_at e.facts.addr n ≡ None = gone_here m e k h.orderly s (missed-live e.facts shape missed) in
    changed-ties e.facts.addr (failed_peer n.now n.settings.backoff) m n (λ p. refl) refl refl (gone_elsewhere m e k h.orderly s) (grind (arith, none)) (grind (arith, none)) ties)
    (λ other. gone-ties m e k h.orderly s (λ live. not_missed-unused e.facts other) ties)

-- it is ended or has vanished, and its peer fails where it is missed
gone_lost-keeps : (m : Machine) (e : Entry) (k : ℕ) → IsOrdered m → StandsAt m.connections k e →
    Keeps 0 m (lost e.facts (without_entry e.facts.cid.0 m)).machine
gone_lost-keeps m e k h s =
    let n : Machine = without_entry e.facts.cid.0 m in
    let goes : Moves 0 m n = goes-moves m e k h s in
    let fails = changes-moves e.facts.addr (failed_peer n.now n.settings.backoff) n (λ p. refl) (λ p ordinary. ordinary) goes.ordered in
    moves-keeps 0 m (lost e.facts n).machine (moves_then 0 0 m n (lost e.facts n).machine goes (grind (arith, fails, moves_nothing n goes.ordered))) (lost-ties m e k h s)

-- a cause for which a peer fails
abbrev pub IsLost : CloseCause → Type 0
IsLost cause = lost_by cause ≡ lost

pub ending-keeps : (cause : CloseCause) → IsLost cause → (m : Machine) (e : Entry) (k : ℕ) → IsOrdered m → StandsAt m.connections k e →
    Keeps 0 m (ending cause e m).machine
ending-keeps cause loses m e k h s = grind (arith, gone_lost-keeps)

-- one that gives way to another
pub overwritten-keeps : (m : Machine) (e : Entry) (k : ℕ) → IsOrdered m → StandsAt m.connections k e → is_pending e.facts ≡ true →
    Keeps 0 m (ending Overwritten e m).machine
overwritten-keeps m e k h s pending = grind (arith, moves-keeps, goes-moves, gone-ties, stands-shaped, pending-unnegotiated)

pub vanishes-keeps : (m : Machine) (e : Entry) (k : ℕ) → IsOrdered m → StandsAt m.connections k e →
    Keeps 0 m (vanishes e m).machine
vanishes-keeps m e k h s = gone_lost-keeps m e k h s

-- ---- a connection turns

-- what is as it was for its peer
pub record IsAlike (old new : Entry) : Type 0 where
  pub local : new.facts.local ≡ old.facts.local
  pub pending : is_pending new.facts ≡ is_pending old.facts
  pub live : is_live new.facts ≡ is_live old.facts
  pub asked : is_some (reply_on 2 new) ≡ true → is_some (reply_on 2 old) ≡ true

alike-tied : (now : ℕ) (o : Option Peer) (old new : Entry) → IsAlike old new → TiedBy now o (Some old) → TiedBy now o (Some new)
alike-tied now o old new a tie = grind arith

-- one that turns into what is as it was for its peer
pub alike-keeps : (raised : ℕ) (m : Machine) (e new : Entry) (k : ℕ) → IsOrdered m → StandsAt m.connections k e → TurnsInto e new → IsAlike e new →
    IsShaped new.facts → IsOwing new → counted_of new ≤ counted_of e + raised → late_of m.now new ≤ late_of m.now e → Keeps raised m (with_entry new m)
alike-keeps raised m e new k h s t a shaped owes more later = grind (arith, turns-moves raised m e new k h s t shaped owes more later, moves-keeps, turned-ties, alike-tied)

pub dialing-live : (p : Phase) → is_dialing_phase p ≡ true → live_phase p ≡ true
dialing-live Dialing h = refl
dialing-live other h = absurd (false≢true h)

pub greeting-live : (p : Phase) → is_greeting_phase p ≡ true → live_phase p ≡ true
greeting-live (Greeting until) h = refl
greeting-live other h = absurd (false≢true h)

pub negotiated-live : (p : Phase) → is_negotiated_phase p ≡ true → live_phase p ≡ true
negotiated-live Negotiated h = refl
negotiated-live other h = absurd (false≢true h)

pub dialing-opening : (p : Phase) → is_dialing_phase p ≡ true → opening_phase p ≡ true
dialing-opening Dialing h = refl
dialing-opening other h = absurd (false≢true h)

-- the dialed socket is open
pub connects-keeps : (m : Machine) (e : Entry) (k : ℕ) → IsOrdered m → StandsAt m.connections k e → is_dialing e.facts ≡ true →
    Keeps 0 m (with_entry (record e { facts = connected (m.now + m.settings.handshake) e.facts }) m)
connects-keeps m e k h s dials =
    let until : ℕ = m.now + m.settings.handshake in
    let new : Entry = record e { facts = connected until e.facts } in
    let shape : IsShaped e.facts = stands-shaped m e k h s in
    let none = one_if-not_counted new.facts (counted-connected until e.facts (shape.dialing dials)) in
    let later = phase-ahead m.now until e.facts.cid (ahead m.now m.settings.handshake (handshake-positive m.settings h.orderly.settings)) in
    let live = dialing-live e.facts.phase dials in
    alike-keeps 0 m e new k h s (grind (arith, live)) (grind (arith, dials, live, shape.dialing dials, dialing-opening)) (connected-shaped until e.facts shape dials)
    (alike-owing e new refl refl refl (stands-owing m e k h s)) (omega (arith, none)) (late-fewer m.now e new (omega (arith, later)) (omega arith) (omega arith))

-- the handshake of a peer that connected is done
pub agrees_inbound-keeps : (agreed : Agreed) (m : Machine) (e : Entry) (k : ℕ) → IsOrdered m → StandsAt m.connections k e →
    is_greeting e.facts ≡ true → is_outbound e.facts ≡ false → Keeps 0 m (is_agreed_inbound agreed e m).machine
agrees_inbound-keeps agreed m e k h s greets inbound =
    let until : ℕ = m.now + m.settings.idle in
    let new : Entry = record e { facts = agreed_inbound agreed until e.facts } in
    let shape : IsShaped e.facts = stands-shaped m e k h s in
    let counted = one_if-counted e.facts (counted-greeting e.facts greets inbound) in
    let later = remote-ahead m.now until e.facts.cid (idle-ahead m h) in
    let live = greeting-live e.facts.phase greets in
    alike-keeps 0 m e new k h s (grind (arith, live)) (grind (arith, inbound, live)) (agreed_inbound-shaped agreed until e.facts shape greets inbound)
    (nothing-owing new ((stands-owing m e k h s).used (shape.unused (greeting-unnegotiated e.facts.phase greets)).local)) (omega (arith, counted, at_most_one new.facts))
    (late-fewer m.now e new (omega arith) (omega (arith, later)) (omega arith))

-- a connection comes into use, with facts that are in shape and raise nothing
record Uses (m : Machine) (e : Entry) (f : Facts) : Type 0 where
  cid : f.cid ≡ e.facts.cid
  addr : f.addr ≡ e.facts.addr
  was_live : is_live e.facts ≡ true
  unused : e.facts.local ≡ false
  live : is_live f ≡ true
  local : f.local ≡ true
  shaped : IsShaped f
  fewer : one_if_counted f ≤ one_if_counted e.facts
  phase : phase_late_of m.now (record e { facts = f }) ≤ phase_late_of m.now e
  grace : grace_late_of m.now (record e { facts = f }) ≤ grace_late_of m.now e
  ready : (o : Option Peer) → peer_at e.facts.addr m ≡ o → TiedBy m.now o (Some e) → IsReady m.now o

used-keeps : (f : Facts) (m : Machine) (e : Entry) (k : ℕ) → IsOrdered m → StandsAt m.connections k e → Uses m e f → Keeps 0 m (is_used f e m).machine
used-keeps f m e k h s u =
    let cookie : ℕ = f.cid.0 % 65536 in
    let new : Entry = owing 8 cookie m (record e { facts = f }) in
    let n : Machine = with_entry new m in
    let owed : owed_late m.now f.cid new.owed ≤ owed_late m.now f.cid e.owed =
    owing-fewer m.now f.cid (record { protocol = 8; until = m.now + m.settings.reply; asked = cookie }) e.owed (reply-ahead m h) in
    let same : owed_late m.now f.cid e.owed ≡ owed_late m.now e.facts.cid e.owed = ap (λ c. owed_late m.now c e.owed) u.cid in
    let turns : TurnsInto e new = record { same_id = u.cid; same_addr = u.addr; live = λ l. u.was_live } in
    let turned : Moves 0 m n = turns-moves 0 m e new k h s turns u.shaped
    (owing-owing 8 cookie m (record e { facts = f }) refl u.local (λ on_10. absurd (false≢true on_10))
    (nothing-owing (record e { facts = f }) ((stands-owing m e k h s).used u.unused))) (let fewer = u.fewer in omega (arith, fewer))
    (late-fewer m.now e new u.phase u.grace (omega (arith, owed, same))) in
    let warm : Peer → Peer = λ p. record p { temp = Warm; failures = 0 } in
    let here : live_entry_at e.facts.addr n ≡ Some new =
    turned_here m e new k h.orderly s turns u.was_live ∙ ap (λ b. if b then Some new else None) u.live in
    let was : live_entry_at e.facts.addr m ≡ Some e = live_here m e k h.orderly s u.was_live in
    subst (λ a. Keeps 0 m (peer_succeeds a n).machine) (sym u.addr)
    (moves-keeps 0 m (peer_succeeds e.facts.addr n).machine
    (moves_then 0 0 m n (peer_succeeds e.facts.addr n).machine turned (changes-moves e.facts.addr warm n (λ p. refl) (λ p ordinary. ordinary) turned.ordered))
    (changed-ties e.facts.addr warm m n (λ p. refl) refl refl (turned_elsewhere m e new k h.orderly s turns)
    (λ none alone. grind (arith, was, alone, u.ready None)) (λ p found tie. grind (arith, here, was, tie, u.local, u.ready (Some p) found))))

-- this node takes a connection that stands into use
pub acquire-keeps : (m : Machine) (e : Entry) (k : ℕ) → IsOrdered m → StandsAt m.connections k e → is_acquirable e.facts ≡ true →
    IsReady m.now (peer_at e.facts.addr m) → Keeps 0 m (acquire e m).machine
acquire-keeps m e k h s may ready = used-keeps (acquired e.facts) m e k h s
    (grind (arith, can_acquire e.facts may, negotiated-live e.facts.phase, acquired-shaped e.facts (stands-shaped m e k h s) may, fewer-acquired e.facts, ready))

pub greeting-opening : (p : Phase) → is_greeting_phase p ≡ true → opening_phase p ≡ true
greeting-opening (Greeting until) h = refl
greeting-opening other h = absurd (false≢true h)

-- the handshake of a peer that was dialed is done
pub agrees_outbound-keeps : (agreed : Agreed) (m : Machine) (e : Entry) (k : ℕ) → IsOrdered m → StandsAt m.connections k e →
    is_greeting e.facts ≡ true → is_outbound e.facts ≡ true → Keeps 0 m (is_agreed_outbound agreed e m).machine
agrees_outbound-keeps agreed m e k h s greets outbound =
    let until : ℕ = m.now + m.settings.idle in
    let f : Facts = agreed_outbound agreed until e.facts in
    let shape : IsShaped e.facts = stands-shaped m e k h s in
    let unused : IsUnused e.facts = shape.unused (greeting-unnegotiated e.facts.phase greets) in
    let none = one_if-not_counted f (counted-agreed_outbound agreed until e.facts outbound unused.running) in
    let later = grace-fewer m.now e.facts.cid agreed.initiator_only Off (ForRemote until) (remote-ahead m.now until e.facts.cid (idle-ahead m h)) in
    let live : is_live e.facts ≡ true = greeting-live e.facts.phase greets in
    let pending : is_pending e.facts ≡ true = and_from (is_outbound e.facts) (opening_phase e.facts.phase) outbound (greeting-opening e.facts.phase greets) in
    used-keeps f m e k h s (record {
      cid = refl;
      addr = refl;
      was_live = live;
      unused = unused.local;
      live = refl;
      local = refl;
      shaped = agreed_outbound-shaped agreed until e.facts shape greets outbound;
      fewer = omega (arith, none);
      phase = omega arith;
      grace = omega (arith, later);
      ready = λ o is tie. grind (arith, tie, pending);
    })

-- a responder starts: one connection more may be counted
pub awakes-keeps : (protocol : ℕ) (m : Machine) (e : Entry) (k : ℕ) → IsOrdered m → StandsAt m.connections k e →
    is_negotiated e.facts ≡ true → serves_remote e.facts ≡ true → some_runs (awakened protocol e.facts).running ≡ true →
    Keeps 1 m (with_entry (record e { facts = awakened protocol e.facts }) m)
awakes-keeps protocol m e k h s negotiated serves runs =
    let new : Entry = record e { facts = awakened protocol e.facts } in
    let after : counted_of new ≤ 1 = at_most_one new.facts in
    alike-keeps 1 m e new k h s (record { same_id = refl; same_addr = refl; live = λ l. l }) (record { local = refl; pending = refl; live = refl; asked = λ asked. asked })
    (awakened-shaped protocol e.facts (stands-shaped m e k h s) negotiated serves runs) (alike-owing e new refl refl refl (stands-owing m e k h s)) (omega arith)
    (late-fewer m.now e new (omega arith) (omega arith) (omega arith))

-- a responder stops, while one runs
pub idles-keeps : (protocol : ℕ) (m : Machine) (e : Entry) (k : ℕ) → IsOrdered m → StandsAt m.connections k e →
    some_runs e.facts.running ≡ true → Keeps 0 m (idle protocol e m).machine
idles-keeps protocol m e k h s runs =
    let until : ℕ = m.now + m.settings.idle in
    let new : Entry = record e { facts = idled protocol until e.facts } in
    let shape : IsShaped e.facts = stands-shaped m e k h s in
    let before = one_if-counted e.facts (counted-running e.facts (running-negotiated e.facts shape runs) runs) in
    let grace = grace-fewer m.now e.facts.cid (some_runs new.facts.running) e.facts.grace (ForRemote until) (remote-ahead m.now until e.facts.cid (idle-ahead m h)) in
    alike-keeps 0 m e new k h s (grind arith) (grind arith) (idled-shaped protocol until e.facts shape runs)
    (alike-owing e new refl refl refl (stands-owing m e k h s)) (omega (arith, before, at_most_one new.facts))
    (late-fewer m.now e new (omega arith) (omega (arith, grace)) (omega arith))

-- this node gives a connection out of its use, where nothing is owed: one more may be counted
pub releases-moves : (m : Machine) (e : Entry) (k : ℕ) → IsOrdered m → StandsAt m.connections k e → e.facts.local ≡ true → OwesNothing e →
    Moves 1 m (with_entry (record e { facts = released (m.now + m.settings.idle) e.facts }) m)
releases-moves m e k h s local owes =
    let until : ℕ = m.now + m.settings.idle in
    let new : Entry = record e { facts = released until e.facts } in
    let grace = grace-fewer m.now e.facts.cid (some_runs e.facts.running || is_for_remote e.facts.grace) e.facts.grace (ForLocal until)
    (local-ahead m.now until e.facts.cid (idle-ahead m h)) in
    turns-moves 1 m e new k h s (grind arith) (released-shaped until e.facts (stands-shaped m e k h s) local)
    (nothing-owing new (nothing_owed e (stands-owing m e k h s) owes)) (omega (arith, at_most_one new.facts))
    (late-fewer m.now e new (omega arith) (omega (arith, grace)) (omega arith))

-- a reply is paid
pub pays-keeps : (protocol : ℕ) (m : Machine) (e : Entry) (k : ℕ) → IsOrdered m → StandsAt m.connections k e →
    Keeps 0 m (with_entry (paid protocol e) m)
pays-keeps protocol m e k h s =
    alike-keeps 0 m e (paid protocol e) k h s (record { same_id = refl; same_addr = refl; live = λ l. l })
    (record { local = refl; pending = refl; live = refl; asked = paid-some (λ o. o.protocol == 2) protocol e.owed })
    (stands-shaped m e k h s) (paid-owing protocol e (stands-owing m e k h s)) (omega arith)
    (late-fewer m.now e (paid protocol e) (omega arith) (omega arith) (paid-fewer m.now protocol e.facts.cid e.owed))

-- what may be asked on a protocol, and where
pub record MayOwe (protocol : ℕ) (e : Entry) : Type 0 where
  pub known : is_owed_on protocol ≡ true
  pub local : e.facts.local ≡ true
  pub sharing : (protocol == 10) ≡ true → agreed_sharing e.facts.agreed ≡ true

-- a reply comes to be owed
owes-moves : (protocol asked : ℕ) (m : Machine) (e : Entry) (k : ℕ) → IsOrdered m → StandsAt m.connections k e → MayOwe protocol e →
    Moves 0 m (with_entry (owing protocol asked m e) m)
owes-moves protocol asked m e k h s may =
    turns-moves 0 m e (owing protocol asked m e) k h s (record { same_id = refl; same_addr = refl; live = λ l. l })
    (stands-shaped m e k h s) (owing-owing protocol asked m e may.known may.local may.sharing (stands-owing m e k h s)) (omega arith)
    (late-fewer m.now e (owing protocol asked m e) (omega arith) (omega arith)
    (owing-fewer m.now e.facts.cid (record { protocol = protocol; until = m.now + m.settings.reply; asked = asked }) e.owed (reply-ahead m h)))

-- where that leaves its peer tied to it
owed-keeps : (protocol asked : ℕ) (m : Machine) (e : Entry) (k : ℕ) → IsOrdered m → StandsAt m.connections k e → MayOwe protocol e →
    ((o : Option Peer) → peer_at e.facts.addr m ≡ o → TiedBy m.now o (Some e) → TiedBy m.now o (Some (owing protocol asked m e))) →
    Keeps 0 m (with_entry (owing protocol asked m e) m)
owed-keeps protocol asked m e k h s may tied = grind (arith, owes-moves protocol asked m e k h s may, moves-keeps, turned-ties)

-- but on chain-sync
pub owes-keeps : (protocol asked : ℕ) (m : Machine) (e : Entry) (k : ℕ) → IsOrdered m → StandsAt m.connections k e → MayOwe protocol e → (protocol == 2) ≡ false →
    Keeps 0 m (with_entry (owing protocol asked m e) m)
owes-keeps protocol asked m e k h s may other = owed-keeps protocol asked m e k h s may
    (λ o is tie. alike-tied m.now o e (owing protocol asked m e) (record {
      local = refl;
      pending = refl;
      live = refl;
      asked = with_reply-some (λ o. o.protocol == 2) (record { protocol = protocol; until = m.now + m.settings.reply; asked = asked }) e.owed other;
    }) tie)

-- On chain-sync only a peer that is warm is asked.
abbrev pub IsWarm : Option Peer → Type 0
IsWarm None = ⊥
IsWarm (Some p) = p.temp ≡ Warm

pub asks_warm-keeps : (asked : ℕ) (m : Machine) (e : Entry) (k : ℕ) → IsOrdered m → StandsAt m.connections k e → e.facts.local ≡ true →
    IsWarm (peer_at e.facts.addr m) → Keeps 0 m (with_entry (owing 2 asked m e) m)
asks_warm-keeps asked m e k h s local warm =
    owed-keeps 2 asked m e k h s (record { known = refl; local = local; sharing = λ on_10. absurd (false≢true on_10) }) (λ o is tie. grind (arith, is, warm, tie))

-- what is not decoded is no matter of the counts
pub decodes-keeps : (undecoded : Undecoded) (m : Machine) (e : Entry) (k : ℕ) → IsOrdered m → StandsAt m.connections k e →
    Keeps 0 m (with_entry (record e { undecoded = undecoded }) m)
decodes-keeps undecoded m e k h s =
    let new : Entry = record e { undecoded = undecoded } in
    alike-keeps 0 m e new k h s (record { same_id = refl; same_addr = refl; live = λ l. l }) (record { local = refl; pending = refl; live = refl; asked = λ asked. asked })
    (stands-shaped m e k h s) (alike-owing e new refl refl refl (stands-owing m e k h s)) (omega arith)
    (late-fewer m.now e new (omega arith) (omega arith) (omega arith))
