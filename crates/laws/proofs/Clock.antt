-- The moves of the clock: a reply is late, a grace is over, a handshake was not done in time, a time-wait is over.
use Rattle.std.proofs.Common.{ℕ, zero, suc, ◌≡◌, ◌≤◌, arith, true, false, [], ◌∷◌, Some, All, Contains, refl, sym, ap, subst, leb-true}
use Rattle.laws.proofs.Words.{cond_both, All-weaker, All-contains_itself}
use Rattle.laws.specs.Words.{Close, Unused, Fault, HandshakeWait, ReplyWait, Facts, Deadline, Kind, Handshake, TimeWait, expired, is_live, live_phase, is_greeting, is_greeting_phase, is_negotiated, Machine, Entry, Owed, Effect, unused, gone, tells, then_do, as_move, entry_turns, entry_goes, closing_entry, grace_over, wait_over, deadlines_of, reply_deadline, due, fires_as, fires, fires_some, fire_due}
use Rattle.net_base.specs.declared.timer.Kind.TheVariants.{Grace as GraceKind}
use Rattle.laws.specs.AtMoves.{is_missed, FailsWhere, IsPast, IsOver, IsLawful}
use Rattle.laws.specs.Sound.{IsOrderly}
use Rattle.laws.specs.Telling.{IsTold}
use Rattle.laws.specs.Steady.{IsShaped, IsOrdered}
use Rattle.laws.proofs.Counts.{is_late}
use Rattle.laws.proofs.Firing.{due_of, deadlines-by}
use Rattle.laws.proofs.Keeping.{Keeps}
use Rattle.laws.proofs.Lawful.{Obeys, obeys_then, obeys_nothing, accounts_turned, accounts_gone, live_stage, stands-stage, ending-obeys, on_stands, turns-obeys, as_move-obeys}
use Rattle.laws.proofs.Entries.{TurnsInto}
use Rattle.laws.proofs.Lists.{StandsAt}
use Rattle.laws.proofs.Telling.{told_move}
use Rattle.laws.proofs.ToldMoves.{turned-told, turned-stage, goes-told, ended-told}
use Rattle.laws.proofs.WholeEvents.{fires-keeps}
use Rattle.laws.proofs.WholeMoves.{stands-shaped, greeting-live, negotiated-live}
use Rattle.laws.proofs.Cases.{by_option}

-- ---- what it is that is late

-- a reply is owed, and its time is over
record IsLate (now : ℕ) (e : Entry) : Type 0 where
  owed : Owed
  among : Contains e.owed owed
  late : owed.until ≤ now

-- by the kind of the deadline
abbrev LateAs : ℕ → Entry → Kind → Type 0
LateAs now e Handshake = is_greeting e.facts ≡ true
LateAs now e GraceKind = IsPast now e.facts.grace
LateAs now e TimeWait = is_live e.facts ≡ false
LateAs now e other = IsLate now e

abbrev MeansLate : ℕ → Entry → Deadline → Type 0
MeansLate now e d = is_late now d ≡ true → LateAs now e d.kind

reply-late : (now : ℕ) (e : Entry) (owed : Owed) → Contains e.owed owed → MeansLate now e (reply_deadline e.facts.cid owed)
reply-late now e owed among late = grind arith

deadlines_of-late : (now : ℕ) (e : Entry) → All (MeansLate now e) (deadlines_of e)
deadlines_of-late now e = deadlines-by (MeansLate now e) e (λ until is late. ap is_greeting_phase is) (λ until is late. ap live_phase is)
    (λ until is late. subst (IsPast now) (sym is) (leb-true until now late)) (λ until is late. subst (IsPast now) (sym is) (leb-true until now late))
    (All-weaker (Contains e.owed) (λ owed. MeansLate now e (reply_deadline e.facts.cid owed)) (reply-late now e) e.owed (All-contains_itself e.owed))

-- ---- one deadline

-- nobody uses a connection whose grace is over but this side
over : (now : ℕ) (f : Facts) → IsShaped f → f.local ≡ false → IsPast now f.grace → IsOver now f
over now f shape idle past = record { local = idle; running = grind (arith, shape.remote, past); grace = past }

-- a grace runs only while the handshake is done
past-negotiated : (now : ℕ) (f : Facts) → IsShaped f → IsPast now f.grace → is_negotiated f ≡ true
past-negotiated now f shape past = grind (arith, past, λ (is : is_negotiated f ≡ false). (shape.unused is).grace)

grace_over-told : (m : Machine) (e : Entry) (k : ℕ) → IsOrderly m → StandsAt m.connections k e → is_live e.facts ≡ true →
    IsTold m (as_move (unused e.facts.cid.0) m (then_do (tells (Close e.facts.cid Unused ∷ []) m) (entry_turns e (closing_entry m e))))
grace_over-told m e k h s live =
    let inner : Effect = entry_turns e (closing_entry m e) m in
    let early = live_stage e.facts.phase live in
    let before = stands-stage m e k h s in
    let turns : TurnsInto e (closing_entry m e) = grind arith in
    ended-told (unused e.facts.cid.0) e.facts.cid Unused m inner refl refl (turned-told m e (closing_entry m e) k h s turns (omega (arith, early))) refl
    (omega (arith, before, early)) (let after = turned-stage m e (closing_entry m e) k h s turns in omega (arith, after)) (λ open_. tt)

grace_over-obeys : (m : Machine) (e : Entry) (k : ℕ) → IsOrdered m → StandsAt m.connections k e → IsPast m.now e.facts.grace →
    Obeys IsLawful m (grace_over e m)
grace_over-obeys m e k h s past =
    let closes : Effect = then_do (tells (Close e.facts.cid Unused ∷ []) m) (entry_turns e (closing_entry m e)) in
    let closed : Effect = as_move (unused e.facts.cid.0) m closes in
    cond_both e.facts.local (entry_turns e (record e { facts = expired e.facts }) m) closed (Obeys IsLawful m)
    (λ local. turns-obeys IsLawful m e (record e { facts = expired e.facts }) k h.orderly s (grind arith) (grind arith) (omega arith))
    (λ idle. as_move-obeys IsLawful (unused e.facts.cid.0) m closes refl
    (record {
      back_off = tt;
      targets = tt;
      cause = on_stands (λ x. IsOver m.now x.facts) m e k h.orderly s (over m.now e.facts (stands-shaped m e k h s) idle past);
    })
    (accounts_turned m e (closing_entry m e) k closed h.orderly s (grind arith) (grind arith) refl
    (grace_over-told m e k h.orderly s (negotiated-live e.facts.phase (past-negotiated m.now e.facts (stands-shaped m e k h s) past)))))

live-negotiated : (f : Facts) → is_live f ≡ false → is_negotiated f ≡ false
live-negotiated f dead = grind (arith, dead)

-- nobody misses one that this side has closed
dead-unmissed : (f : Facts) → IsShaped f → is_live f ≡ false → is_missed f ≡ false
dead-unmissed f shape dead = grind (arith, dead, (shape.unused (live-negotiated f dead)).local)

wait_over-obeys : (m : Machine) (e : Entry) (k : ℕ) → IsOrdered m → StandsAt m.connections k e → is_live e.facts ≡ false →
    Obeys IsLawful m (wait_over e m)
wait_over-obeys m e k h s dead =
    let right = on_stands (λ x. (is_negotiated x.facts ≡ false) × FailsWhere (is_missed x.facts) x m (wait_over e m).machine) m e k h.orderly s
    (live-negotiated e.facts dead, rw (dead-unmissed e.facts (stands-shaped m e k h s) dead) refl) in
    as_move-obeys IsLawful (gone e.facts.cid.0) m (entry_goes e m) refl (record { back_off = tt; targets = tt; cause = right })
    (accounts_gone m e k (wait_over e m) h.orderly s refl (λ addr hot. hot) (λ addr known. known)
    (told_move (gone e.facts.cid.0) m (entry_goes e m) refl refl (goes-told m e k h.orderly s)))

-- a reply is owed only while the connection is used
late-live : (m : Machine) (e : Entry) (k : ℕ) → IsOrdered m → StandsAt m.connections k e → IsLate m.now e → is_live e.facts ≡ true
late-live m e k h s late = grind arith

fires_as-obeys : (kind : Kind) (m : Machine) (e : Entry) (k : ℕ) → IsOrdered m → StandsAt m.connections k e → LateAs m.now e kind →
    Obeys IsLawful m (fires_as kind e m)
fires_as-obeys Handshake m e k h s late = grind (arith, ending-obeys (Fault HandshakeWait) m e k h.orderly s (greeting-live e.facts.phase late) (λ negotiated. tt) tt, greeting-live e.facts.phase late)
fires_as-obeys GraceKind m e k h s late = grace_over-obeys m e k h s late
fires_as-obeys TimeWait m e k h s late = wait_over-obeys m e k h s late
fires_as-obeys other m e k h s late = ending-obeys (Fault ReplyWait) m e k h.orderly s (late-live m e k h s late) (λ negotiated. tt) tt

-- ---- all that are due

pub fires-obeys : (d : Deadline) (m : Machine) → IsOrdered m → due m ≡ Some d → Obeys IsLawful m (fires d m)
fires-obeys d m h is = grind (arith, due_of m d h.orderly is, fires_as-obeys, deadlines_of-late)

pub fire_due-obeys : (n : ℕ) (m : Machine) → IsOrdered m → Obeys IsLawful m (fire_due n m)
unfolding fire_due
fire_due-obeys zero m h = obeys_nothing IsLawful m
fire_due-obeys (suc n) m h = by_option (due m)
    (λ o. ((w : Machine) → IsOrdered w → Obeys IsLawful w (fire_due n w)) → Obeys IsLawful m (fires_some o (fire_due n) m))
    (λ is later. obeys_nothing IsLawful m)
    (λ d is later.
    let first : Keeps 0 m (fires d m).machine = fires-keeps d m h is in
    obeys_then IsLawful m (fires d m) (fire_due n) (fires-obeys d m h is) (later (fires d m).machine first.ordered)) (fire_due-obeys n)
