-- A part of a step in which no connection comes.
use Rattle.std.proofs.Common.{ℕ, ◌+◌, ◌≤◌, ◌≡◌, true, Option, Some, None, refl, ap, ◌∙◌, arith, sym}
use Rattle.laws.proofs.Words.{false≢true, sum_by_push}
use Rattle.laws.specs.Words.{CloseCause, Facts, Peer, failed_peer, expired, Machine, Entry, counted_in, turns_at, peer_at, with_entry, without_entry, entry_turns, lost, lost_by, ending, closing_entry, grace_over, wait_over}
use Rattle.machine.specs.Peers.{with_peer}
use Rattle.laws.specs.Sound.{IsOrderly}
use Rattle.laws.proofs.Lists.{StandsAt}
use Rattle.laws.proofs.Entries.{TurnsInto, turned-orderly, turned-sum, gone-orderly, gone-sum, with_new}
use Rattle.laws.proofs.Counts.{counted_of, counted_in-sum, late_of, late_in, late_in-sum, grace_late_of, late-expired, late-closing, counted-expired, counted-closing}
use Rattle.laws.proofs.Settings.{timewait-positive}

-- From one record to another: what holds at every moment still holds, no more connections are counted, and so many
-- late deadlines are gone.
pub record Lowers (gone : ℕ) (before after : Machine) : Type 0 where
  pub orderly : IsOrderly after
  pub settings : after.settings ≡ before.settings
  pub now : after.now ≡ before.now
  pub counted : counted_in after ≤ counted_in before
  pub late : late_in after + gone ≤ late_in before

pub lowers_nothing : (m : Machine) → IsOrderly m → Lowers 0 m m
lowers_nothing m h = grind arith

-- one part after another
pub lowers_then : (i j : ℕ) (m n o : Machine) → Lowers i m n → Lowers j n o → Lowers (i + j) m o
lowers_then i j m n o first second = grind arith

pub lowers_less : (i j : ℕ) (m n : Machine) → i ≤ j → Lowers j m n → Lowers i m n
lowers_less i j m n le h = grind arith

-- what is counted, and what is late, where a connection added so much before and adds so much after
pub record Recounted (counted_before counted_after late_before late_after : ℕ) (before after : Machine) : Type 0 where
  pub counted : counted_in after + counted_before ≡ counted_in before + counted_after
  pub late : late_in after + late_before ≡ late_in before + late_after

pub turned-counts : (m : Machine) (old new : Entry) (k : ℕ) → IsOrderly m → StandsAt m.connections k old → TurnsInto old new →
    Recounted (counted_of old) (counted_of new) (late_of m.now old) (late_of m.now new) m (with_entry new m)
turned-counts m old new k h s t =
    let n : Machine = with_entry new m in
    record {
      counted = ap (λ c. c + counted_of old) (counted_in-sum n) ∙ (turned-sum counted_of m old new k h s t ∙ ap (λ c. c + counted_of new) (sym (counted_in-sum m)));
      late = ap (λ c. c + late_of m.now old) (late_in-sum n) ∙ (turned-sum (late_of m.now) m old new k h s t ∙ ap (λ c. c + late_of m.now new) (sym (late_in-sum m)));
    }

pub gone-counts : (m : Machine) (e : Entry) (k : ℕ) → IsOrderly m → StandsAt m.connections k e →
    Recounted (counted_of e) 0 (late_of m.now e) 0 m (without_entry e.facts.cid.0 m)
gone-counts m e k h s =
    let n : Machine = without_entry e.facts.cid.0 m in
    record {
      counted = let sum = ap (λ c. c + counted_of e) (counted_in-sum n) ∙ (gone-sum counted_of m e k h s ∙ sym (counted_in-sum m)) in omega (arith, sum);
      late = let sum = ap (λ c. c + late_of m.now e) (late_in-sum n) ∙ (gone-sum (late_of m.now) m e k h s ∙ sym (late_in-sum m)) in omega (arith, sum);
    }

pub come-counts : (m : Machine) (new : Entry) → Recounted 0 (counted_of new) 0 (late_of m.now new) m (with_new new m)
come-counts m new =
    let n : Machine = with_new new m in
    record {
      counted = let sum = counted_in-sum n ∙ (sum_by_push counted_of m.connections new ∙ ap (λ c. c + counted_of new) (sym (counted_in-sum m))) in omega (arith, sum);
      late = let sum = late_in-sum n ∙ (sum_by_push (late_of m.now) m.connections new ∙ ap (λ c. c + late_of m.now new) (sym (late_in-sum m))) in omega (arith, sum);
    }

pub goes-lowers : (m : Machine) (e : Entry) (k : ℕ) → IsOrderly m → StandsAt m.connections k e →
    Lowers (late_of m.now e) m (without_entry e.facts.cid.0 m)
goes-lowers m e k h s =
    grind (arith, gone-counts m e k h s, late_in (without_entry e.facts.cid.0 m) + late_of m.now e ≤ late_in m, late_of m.now e ≤ late_in m, late_in m, gone-orderly m e.facts.cid.0 h)

-- a connection turns into one that isn't counted where it wasn't, and has fewer late deadlines
pub turns-lowers : (gone : ℕ) (m : Machine) (old new : Entry) (k : ℕ) → IsOrderly m → StandsAt m.connections k old →
    TurnsInto old new → counted_of new ≤ counted_of old → late_of m.now new + gone ≤ late_of m.now old →
    Lowers gone m (with_entry new m)
turns-lowers gone m old new k h s t fewer earlier = grind (arith, turned-counts m old new k h s t, late_in (with_entry new m) + gone ≤ late_in m, late_in m, turned-orderly m old new k h s t)

-- the book is no matter of the connections
pub with_peer-lowers : (m : Machine) (p : Peer) → IsOrderly m → Lowers 0 m (with_peer p m)
with_peer-lowers m p h = record { orderly = assumption; settings = refl; now = refl; counted = omega arith; late = omega arith }

turns_at-lowers : (o : Option Peer) (change : Peer → Peer) (m : Machine) → IsOrderly m → Lowers 0 m (turns_at o change m).machine
turns_at-lowers None change m h = lowers_nothing m h
turns_at-lowers (Some p) change m h = with_peer-lowers m (change p) h

pub lost-lowers : (f : Facts) (m : Machine) → IsOrderly m → Lowers 0 m (lost f m).machine
lost-lowers f m h = grind (arith, turns_at-lowers (peer_at f.addr m) (failed_peer m.now m.settings.backoff) m h, lowers_nothing m h)

lost_by-lowers : (cause : CloseCause) (f : Facts) (m : Machine) → IsOrderly m → Lowers 0 m (lost_by cause f m).machine
lost_by-lowers cause f m h = grind (arith, lowers_nothing m h, lost-lowers f m h)

pub ending-lowers : (cause : CloseCause) (m : Machine) (e : Entry) (k : ℕ) → IsOrderly m → StandsAt m.connections k e →
    Lowers (late_of m.now e) m (ending cause e m).machine
ending-lowers cause m e k h s =
    let n : Machine = without_entry e.facts.cid.0 m in
    let goes : Lowers (late_of m.now e) m n = goes-lowers m e k h s in
    let after : Lowers 0 n (lost_by cause e.facts n).machine = lost_by-lowers cause e.facts n goes.orderly in
    lowers_less (late_of m.now e) (late_of m.now e + 0) m (lost_by cause e.facts n).machine (omega arith)
    (lowers_then (late_of m.now e) 0 m n (lost_by cause e.facts n).machine goes after)

expired-turns : (e : Entry) → TurnsInto e (record e { facts = expired e.facts })
expired-turns e = record { same_id = refl; same_addr = refl; live = λ live. live }

closing-turns : (m : Machine) (e : Entry) → TurnsInto e (closing_entry m e)
closing-turns m e = record { same_id = refl; same_addr = refl; live = λ live. absurd (false≢true live) }

-- in local use the connection goes on, and no deadline takes the place of the one that is over
pub expires-lowers : (m : Machine) (e : Entry) (k : ℕ) → IsOrderly m → StandsAt m.connections k e →
    e.facts.local ≡ true →
    Lowers (grace_late_of m.now e) m (entry_turns e (record e { facts = expired e.facts }) m).machine
expires-lowers m e k h s in_use =
    let new : Entry = record e { facts = expired e.facts } in
    turns-lowers (grace_late_of m.now e) m e new k h s (expired-turns e) (grind (arith, counted-expired e.facts in_use)) (omega (arith, late-expired m.now e))

-- a connection that this side closes has the time-wait ahead, and isn't counted
pub closes-lowers : (m : Machine) (e : Entry) (k : ℕ) → IsOrderly m → StandsAt m.connections k e →
    Lowers (grace_late_of m.now e) m (entry_turns e (closing_entry m e) m).machine
closes-lowers m e k h s =
    turns-lowers (grace_late_of m.now e) m e (closing_entry m e) k h s (closing-turns m e) (grind (arith, counted-closing (m.now + m.settings.timewait) e.facts))
    (late-closing m e (timewait-positive m.settings h.settings))

pub grace_over-lowers : (m : Machine) (e : Entry) (k : ℕ) → IsOrderly m → StandsAt m.connections k e →
    Lowers (grace_late_of m.now e) m (grace_over e m).machine
grace_over-lowers m e k h s = grind (arith, expires-lowers m e k h s, closes-lowers m e k h s)

pub wait_over-lowers : (m : Machine) (e : Entry) (k : ℕ) → IsOrderly m → StandsAt m.connections k e →
    Lowers (late_of m.now e) m (wait_over e m).machine
wait_over-lowers = goes-lowers
