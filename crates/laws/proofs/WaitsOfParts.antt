-- How long is waited, what is set, and what is left as it was, in each part of an event.
use Rattle.std.proofs.Common.{ℕ, ◌+◌, ◌≡◌, ◌⊎◌, false, Option, Some, None, refl, sym, subst, inl, inr, arith}
use Rattle.laws.proofs.Words.{both_ways}
use Rattle.laws.specs.Words.{dialing, accepted, agreed_inbound, awakened, expired, Undecoded, CloseCause, Overwritten, Addr, Facts, Negotiated, Peer, entry_of, entered, new_peer, without_entry, lost, lost_by, ending, vanishes, closing_entry, dial, Effect, admitted, Machine, Entry, fresh_entry, peer_at, turns_at, peer_goes, owing, paid, Order}
use Rattle.laws.specs.Words.kind
use Rattle.laws.specs.Acts.{Act, carries, does}
use Rattle.laws.specs.CarriedOut.{IsUnset, IsSet}
use Rattle.laws.specs.Parts.{IsNext}
use Rattle.laws.specs.Steady.{IsOrdered}
use Rattle.laws.specs.Untouched.{LeavesRest}
use Rattle.laws.specs.Waits.{until_of, until_unused, length_of, IsWait, WaitsRight}
use Rattle.laws.proofs.Keeping.{note-machine}
use Rattle.laws.proofs.RootsAsked.{roots-set}
use Rattle.laws.proofs.Waits.{Waits, TurnsRight, kept, waits_then, waits_peers, waits_nothing, waits_turned, waits_gone, waits_come, owing-right, paid-right, was_same, bytes_same}
use Rattle.laws.proofs.Walk.{allows-order, Scope, Turn, opens, agrees_inbound, agrees_outbound, is_acquired, is_released, awakes, idles, expires, owes, is_paid, turned_by, turned-cid, turned-undecoded, Kept, IsChange, Finds, scope_of, orderly-finds, orders-walk, walk}

-- ---- whatever a connection turns into waits as it did, or for a whole length

same-right : (m : Machine) (e : Entry) → TurnsRight m e e
same-right m e kind = kept (m.now + length_of kind m.settings) (until_of kind e)

-- the phase stays, and what is owed
graced-right : (m : Machine) (e : Entry) (f : Facts) → f.phase ≡ e.facts.phase → IsWait (m.now + m.settings.idle) (until_unused e.facts.grace) (until_unused f.grace) →
    TurnsRight m e (record e { facts = f })
graced-right m e f phase grace sort = grind (arith, kept)

-- nothing of it waits but what does by its phase
negotiated-right : (m : Machine) (e : Entry) (f : Facts) → f.phase ≡ Negotiated → IsWait (m.now + m.settings.idle) (until_unused e.facts.grace) (until_unused f.grace) →
    TurnsRight m e (record e { facts = f })
negotiated-right m e f phase grace sort = grind (arith, kept)

-- a reply comes to be owed besides
owing_too-right : (protocol asked : ℕ) (m : Machine) (e : Entry) (f : Facts) → TurnsRight m e (record e { facts = f }) → TurnsRight m e (owing protocol asked m (record e { facts = f }))
owing_too-right protocol asked m e f right sort = grind (arith, owing-right)

paid_off-right : (protocol : ℕ) (m : Machine) (e : Entry) → TurnsRight m e (paid protocol e)
paid_off-right protocol m e kind.Reply2 = paid-right 2 protocol (m.now + m.settings.reply) e
paid_off-right protocol m e kind.Reply8 = paid-right 8 protocol (m.now + m.settings.reply) e
paid_off-right protocol m e kind.Reply10 = paid-right 10 protocol (m.now + m.settings.reply) e
paid_off-right protocol m e other = same-right m e other

opens-right : (m : Machine) (e : Entry) → TurnsRight m e (turned_by opens e m)
opens-right m e sort = grind (arith, kept)

closing-right : (m : Machine) (e : Entry) → TurnsRight m e (closing_entry m e)
closing-right m e sort = grind (arith, kept)

decodes-right : (m : Machine) (e : Entry) (undecoded : Undecoded) → TurnsRight m e (record e { undecoded = undecoded })
decodes-right m e undecoded kind.Handshake = same-right m e kind.Handshake
decodes-right m e undecoded other = same-right m e other

turned-right : (turn : Turn) (e : Entry) (m : Machine) → TurnsRight m e (turned_by turn e m)
turned-right opens e m = opens-right m e
turned-right (agrees_inbound agreed) e m = negotiated-right m e (agreed_inbound agreed (m.now + m.settings.idle) e.facts) refl (inr refl)
turned-right (agrees_outbound agreed) e m = grind (arith, owing_too-right, negotiated-right)
turned-right is_acquired e m = grind (arith, owing_too-right, graced-right, kept)
turned-right is_released e m = grind arith
turned-right (awakes protocol) e m = graced-right m e (awakened protocol e.facts) refl tt
turned-right (idles protocol) e m = grind arith
turned-right expires e m = graced-right m e (expired e.facts) refl tt
turned-right (owes protocol asked) e m = owing_too-right protocol asked m e e.facts (same-right m e)
turned-right (is_paid protocol) e m = paid_off-right protocol m e

-- ---- each change

module _ (scope : Scope) where
  abbrev pub Waited : Machine → Effect → Type 0
  Waited m effect = Waits scope m effect.machine

  pub changed-waits : (o : Option Peer) (change : Peer → Peer) (m : Machine) → Waited m (turns_at o change m)
  changed-waits None change m = waits_nothing scope m
  changed-waits (Some p) change m = waits_peers scope (turns_at (Some p) change m).machine.peers m

  lost-waits : (f : Facts) (m : Machine) → Waited m (lost f m)
  lost-waits f m = grind (arith, changed-waits, waits_nothing)

  lost_by-waits : (cause : CloseCause) (f : Facts) (m : Machine) → Waited m (lost_by cause f m)
  lost_by-waits Overwritten f m = waits_nothing scope m
  lost_by-waits other f m = lost-waits f m

  -- it goes, and something follows
  goes-waits : (e : Entry) (m n : Machine) → Waits scope (without_entry e.facts.cid.0 m) n → Waits scope m n
  goes-waits e m n follows = waits_then scope m (without_entry e.facts.cid.0 m) n (waits_gone scope m e.facts.cid.0) follows

  pub dial-waits : (addr : Addr) (m : Machine) → Waited m (dial addr m)
  dial-waits addr m = waits_come scope m (fresh_entry (dialing m.next_id addr)) refl (λ kind. grind arith)

  admitted-waits : (addr : Addr) (m : Machine) → Waited m (admitted addr m)
  admitted-waits addr m = waits_come scope m (fresh_entry (accepted m.next_id addr (m.now + m.settings.handshake))) refl (λ kind. grind arith)

  pub waits-kept : Kept scope Waited
  waits-kept = record {
    when_nothing = λ m. waits_nothing scope m;
    when_both = λ m first next one two. waits_then scope m first.machine (next first.machine).machine one two;
    when_moved = λ happened m effect none h. h;
    when_sent = λ cid bytes m may. waits_nothing scope m;
    when_turned = λ turn e m stands. waits_turned scope m e (turned_by turn e m) stands.found stands.own (turned-cid turn e m) (turned-right turn e m)
        (λ none. inl (turned-undecoded turn e m));
    when_stored = λ undecoded e m stands came. waits_turned scope m e (record e { undecoded = undecoded }) stands.found stands.own refl (decodes-right m e undecoded)
        (λ none. absurd (both_ways (scope.comes e.facts.cid.0) none came));
    when_shut = λ e m stands drops. waits_turned scope m e (closing_entry m e) stands.found stands.own refl (closing-right m e) (λ none. inr (drops, refl));
    when_ended = λ cause e m. goes-waits e m (ending cause e m).machine (lost_by-waits cause e.facts (without_entry e.facts.cid.0 m));
    when_gone = λ e m itself. goes-waits e m (vanishes e m).machine (lost-waits e.facts (without_entry e.facts.cid.0 m));
    when_over = λ e m stands drops closed. waits_gone scope m e.facts.cid.0;
    when_dialed = λ addr m may. dial-waits addr m;
    when_admitted = λ addr m may. admitted-waits addr m;
    when_turned_away = λ away m may. waits_nothing scope m;
    when_changed = λ addr change m same. changed-waits (peer_at addr m) change m;
    when_made = λ addr m may. changed-waits (peer_at addr m) (λ p. record p { big = false }) m;
    when_known = λ big addr m may. let n : Machine = record m { peers = entered (new_peer big addr) m.peers } in
        subst (Waits scope m) (sym (note-machine (entry_of addr m.peers) addr n)) (waits_peers scope n.peers m);
    when_forgotten = λ addr m may. waits_peers scope (peer_goes addr m).machine.peers m;
  }

-- ---- each act

-- either no connection changes, or nothing is set
pub sets_or_changes : (act : Act) (m : Machine) → ((does act m).machine.connections ≡ m.connections) ⊎ IsChange act
sets_or_changes act m = grind (arith, roots-set m)

act-waits : (act : Act) (m : Machine) → IsChange act → IsNext act m → Finds act m → Waits (scope_of act m) m (does act m).machine
act-waits act m change next found = walk act m (Waited (scope_of act m)) change next found (waits-kept (scope_of act m))

-- ---- what follows

right : (scope : Scope) (m n : Machine) → Waits scope m n → WaitsRight m n
right scope m n h kind cid = grind arith

pub waits-right : (act : Act) (m : Machine) → IsNext act m → Finds act m → WaitsRight m (does act m).machine
waits-right act m next found = grind (arith, sets_or_changes act m, scope_of act m, kept, right, act-waits)

pub leaves-rest : (act : Act) (m : Machine) → IsNext act m → Finds act m → LeavesRest act m (does act m).machine
leaves-rest act m next found = grind (arith, sets_or_changes, was_same, bytes_same, act-waits)

-- nothing is set by an order
pub order-waits : (order : Order) (m : Machine) → IsOrdered m → Waits (scope_of (carries order) m) m (does (carries order) m).machine
order-waits order m h =
    let scope : Scope = scope_of (carries order) m in
    orders-walk scope (Waited scope) (waits-kept scope) order m refl (allows-order order m) (orderly-finds order m h.orderly)

pub order-unset : (order : Order) (m : Machine) → IsOrdered m → IsUnset m (does (carries order) m).machine
order-unset order m h = (order-waits order m h).unset

pub is-set : (act : Act) (m : Machine) → IsNext act m → Finds act m → IsSet act m (does act m).machine
is-set act m next found = grind (arith, roots-set, act-waits)
