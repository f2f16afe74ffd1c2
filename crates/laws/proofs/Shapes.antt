-- Each move keeps the facts of a connection in shape.
use Rattle.std.proofs.Common.{ℕ, ◌≡◌, Bool, true, false, not, ◌||◌, if◌then◌else◌, refl, arith}
use Rattle.laws.proofs.Words.{false≢true, both_ways}
use Rattle.laws.specs.Words.{Addr, Agreed, Facts, Grace, Off, ForRemote, ForLocal, Phase, Negotiated, accepted, dialing, connected, agreed_inbound, agreed_outbound, acquired, released, awakened, idled, expired, closing, is_negotiated, is_negotiated_phase, is_dialing, is_dialing_phase, is_greeting, is_greeting_phase, is_outbound, is_duplex, is_for_remote, is_for_local, some_runs, is_acquirable}
use Rattle.laws.specs.Steady.{IsShaped, IsUnused}

-- ---- phases exclude each other

pub dialing-unnegotiated : (p : Phase) → is_dialing_phase p ≡ true → is_negotiated_phase p ≡ false
dialing-unnegotiated Negotiated h = absurd (false≢true h)
dialing-unnegotiated other h = refl

pub greeting-unnegotiated : (p : Phase) → is_greeting_phase p ≡ true → is_negotiated_phase p ≡ false
greeting-unnegotiated Negotiated h = absurd (false≢true h)
greeting-unnegotiated other h = refl

-- ---- an unused one

-- whatever stands before the handshake or after the end
pub unused-shaped : (f : Facts) → IsUnused f → is_negotiated f ≡ false → (is_dialing f ≡ true → is_outbound f ≡ true) → IsShaped f
unused-shaped f u phase dials = grind arith

pub accepted-shaped : (cid : ℕ) (addr : Addr) (until : ℕ) → IsShaped (accepted cid addr until)
accepted-shaped cid addr until = grind (arith, unused-shaped)

pub dialing-shaped : (cid : ℕ) (addr : Addr) → IsShaped (dialing cid addr)
dialing-shaped cid addr = grind arith

pub connected-shaped : (until : ℕ) (f : Facts) → IsShaped f → is_dialing f ≡ true → IsShaped (connected until f)
connected-shaped until f h dials = grind (arith, h.unused (dialing-unnegotiated f.phase dials), dialing-unnegotiated f.phase dials, unused-shaped)

pub closing-shaped : (until : ℕ) (f : Facts) → IsShaped (closing until f)
closing-shaped until f = grind (arith, unused-shaped)

-- ---- the end of a handshake

pub agreed_inbound-shaped : (agreed : Agreed) (until : ℕ) (f : Facts) → IsShaped f → is_greeting f ≡ true →
    is_outbound f ≡ false → IsShaped (agreed_inbound agreed until f)
agreed_inbound-shaped agreed until f h greets inbound = grind (arith, greeting-unnegotiated f.phase greets)

or_false : (b : Bool) → (b || false) ≡ true → b ≡ true
or_false true e = refl
or_false false e = e

outbound_grace-serves : (uni out runs : Bool) (until : ℕ) → runs ≡ false →
    (runs || is_for_remote (if uni then Off else ForRemote until)) ≡ true → (not out || not uni) ≡ true
outbound_grace-serves true out runs until none serves = absurd (both_ways runs none (or_false runs serves))
outbound_grace-serves false true runs until none serves = refl
outbound_grace-serves false false runs until none serves = refl

pub agreed_outbound-shaped : (agreed : Agreed) (until : ℕ) (f : Facts) → IsShaped f → is_greeting f ≡ true →
    is_outbound f ≡ true → IsShaped (agreed_outbound agreed until f)
agreed_outbound-shaped agreed until f h greets outbound = grind arith

-- ---- what is in use is negotiated

pub local-negotiated : (f : Facts) → IsShaped f → f.local ≡ true → is_negotiated f ≡ true
local-negotiated f h local = grind arith

pub running-negotiated : (f : Facts) → IsShaped f → some_runs f.running ≡ true → is_negotiated f ≡ true
running-negotiated f h runs = grind arith

abbrev pub serves_remote : Facts → Bool
serves_remote f = not (is_outbound f) || is_duplex f

-- ---- moves of one that is negotiated

pub record CanAcquire (f : Facts) : Type 0 where
  pub negotiated : is_negotiated f ≡ true
  pub duplex : is_duplex f ≡ true
  pub idle : f.local ≡ false
  pub not_kept : is_for_local f.grace ≡ false

pub can_acquire : (f : Facts) → is_acquirable f ≡ true → CanAcquire f
can_acquire f h = grind arith

pub acquired-shaped : (f : Facts) → IsShaped f → is_acquirable f ≡ true → IsShaped (acquired f)
acquired-shaped f h may = grind (arith, can_acquire f may)

released-serves : (runs : Bool) (grace : Grace) (until : ℕ) →
    (runs || is_for_remote (if runs || is_for_remote grace then grace else ForLocal until)) ≡ true →
    (runs || is_for_remote grace) ≡ true
released-serves false Off until e = e
released-serves false (ForLocal at) until e = e
released-serves runs grace until e = refl

pub released-shaped : (until : ℕ) (f : Facts) → IsShaped f → f.local ≡ true → IsShaped (released until f)
released-shaped until f h local = grind (arith, local-negotiated, released-serves)

-- A responder starts. That one of a known protocol then runs is handed in.
pub awakened-shaped : (protocol : ℕ) (f : Facts) → IsShaped f → is_negotiated f ≡ true → serves_remote f ≡ true →
    some_runs (awakened protocol f).running ≡ true → IsShaped (awakened protocol f)
awakened-shaped protocol f h negotiated serves runs = grind arith

-- A responder stops, while one ran.
pub idled-shaped : (protocol until : ℕ) (f : Facts) → IsShaped f → some_runs f.running ≡ true → IsShaped (idled protocol until f)
idled-shaped protocol until f h runs = grind (arith, running-negotiated f h runs)

pub expired-shaped : (f : Facts) → IsShaped f → f.local ≡ true → IsShaped (expired f)
expired-shaped f h local = grind (arith, local-negotiated f h local, or_false)
