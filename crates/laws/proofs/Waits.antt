-- How long is waited, and what is left as it was, through each change of a connection.
use Rattle.std.proofs.Common.{ℕ, ◌+◌, ◌<◌, ◌≤◌, ◌≡◌, ◌⊎◌, Bool, true, false, not, ◌==◌, nat_lt, if◌then◌else◌, List, [], ◌∷◌, ◌++◌, filter, Option, Some, None, refl, ap, subst, inl, arith, eqb-true}
use Rattle.laws.proofs.Words.{find-append}
use Rattle.laws.specs.Words.{nothing_undecoded, Peer, Kind, with_entry, without_entry, Machine, Entry, Owed, entry_at, reply_on, owing, paid}
use Rattle.laws.specs.CarriedOut.{IsUnset}
use Rattle.laws.specs.Untouched.{IsAsItWas, KeepsBytes}
use Rattle.laws.specs.Waits.{until_paid, until_of, until_in, length_of, IsWait}
use Rattle.laws.proofs.Walk.{Scope}
pub use Rattle.laws.proofs.Finds.{replaced, gone-found}
use Rattle.laws.proofs.Finds.{found-filter}

-- ---- one wait

pub kept : (whole : ℕ) (o : Option ℕ) → IsWait whole o o
kept whole None = tt
kept whole (Some until) = inl refl

wait_then : (whole : ℕ) (a b c : Option ℕ) → IsWait whole a b → IsWait whole b c → IsWait whole a c
wait_then whole a b c one two = grind arith

-- ---- what is left as it was

pub was_same : (o : Option Entry) → IsAsItWas o o
was_same None = tt
was_same (Some e) = refl

pub was_then : (a b c : Option Entry) → IsAsItWas a b → IsAsItWas b c → IsAsItWas a c
was_then a b None one two = tt
was_then a b (Some f) one two = subst (IsAsItWas a) two one

pub bytes_same : (drops : Bool) (o : Option Entry) → KeepsBytes drops o o
bytes_same drops None = tt
bytes_same drops (Some e) = inl refl

bytes_then : (drops : Bool) (a b c : Option Entry) → KeepsBytes drops a b → KeepsBytes drops b c → KeepsBytes drops a c
bytes_then drops a b c one two = grind arith

-- ---- a part of a step

-- how long one connection waits, and what of it is left as it was
pub record GoesOn (scope : Scope) (m : Machine) (cid : ℕ) (before after : Option Entry) : Type 0 where
  pub waits : (kind : Kind) → IsWait (m.now + length_of kind m.settings) (until_in kind before) (until_in kind after)
  pub others : scope.own cid ≡ false → cid < m.next_id → IsAsItWas before after
  pub bytes : scope.comes cid ≡ false → cid < m.next_id → KeepsBytes scope.drops before after

on_same : (scope : Scope) (m : Machine) (cid : ℕ) (o : Option Entry) → GoesOn scope m cid o o
on_same scope m cid o = grind arith

-- where nothing is set
pub record Waits (scope : Scope) (before after : Machine) : Type 0 where
  pub unset : IsUnset before after
  pub next : before.next_id ≤ after.next_id
  pub each : (cid : ℕ) → GoesOn scope before cid (entry_at cid before) (entry_at cid after)

pub waits_then : (scope : Scope) (m n o : Machine) → Waits scope m n → Waits scope n o → Waits scope m o
waits_then scope m n o one two = grind arith

-- connections and peers may be others
unchanged : (es : List Entry) (ps : List Peer) (next : ℕ) (m : Machine) → IsUnset m (record m { connections = es; peers = ps; next_id = next })
unchanged es ps next m = record { now = refl; settings = refl; targets = refl; big_targets = refl; groups = refl; roots = refl }

-- no connection changes
pub waits_peers : (scope : Scope) (ps : List Peer) (m : Machine) → Waits scope m (record m { peers = ps })
waits_peers scope ps m = record { unset = unchanged m.connections ps m.next_id m; next = omega arith; each = λ cid. on_same scope m cid (entry_at cid m) }

pub waits_nothing : (scope : Scope) (m : Machine) → Waits scope m m
waits_nothing scope m = waits_peers scope m.peers m

-- ---- a connection that comes, goes or turns

-- what one turns into waits as it did, or for a whole length
abbrev pub TurnsRight : Machine → Entry → Entry → Type 0
TurnsRight m e new = (kind : Kind) → IsWait (m.now + length_of kind m.settings) (until_of kind e) (until_of kind new)

-- what is not decoded stays so, or is dropped where it may be
abbrev pub BytesStay : Bool → Entry → Entry → Type 0
BytesStay drops e new = (new.undecoded ≡ e.undecoded) ⊎ ((drops ≡ true) × (new.undecoded ≡ nothing_undecoded))

pub waits_turned : (scope : Scope) (m : Machine) (e new : Entry) → entry_at e.facts.cid.0 m ≡ Some e → scope.own e.facts.cid.0 ≡ true → new.facts.cid ≡ e.facts.cid →
    TurnsRight m e new → (scope.comes e.facts.cid.0 ≡ false → BytesStay scope.drops e new) → Waits scope m (with_entry new m)
waits_turned scope m e new found mine same right stay = record {
  unset = unchanged (with_entry new m).connections m.peers m.next_id m;
  next = omega arith;
  each = λ cid. grind (arith, replaced cid new m.connections, found, mine, same, right, stay, on_same scope m cid (entry_at cid m));
}

pub waits_gone : (scope : Scope) (m : Machine) (cid : ℕ) → Waits scope m (without_entry cid m)
waits_gone scope m cid = record {
  unset = unchanged (without_entry cid m).connections m.peers m.next_id m;
  next = omega arith;
  each = λ c. grind (arith, gone-found c cid m.connections, on_same scope m c (entry_at c m));
}

pub waits_come : (scope : Scope) (m : Machine) (new : Entry) → new.facts.cid.0 ≡ m.next_id →
    ((kind : Kind) → IsWait (m.now + length_of kind m.settings) None (until_of kind new)) →
    Waits scope m (record m { connections = m.connections ++ new ∷ []; next_id = m.next_id + 1 })
waits_come scope m new id right = grind (arith, unchanged, find-append, on_same)

-- ---- what is owed

-- a reply comes to be owed
pub owing-until : (p protocol asked : ℕ) (m : Machine) (e : Entry) →
    until_paid (reply_on p (owing protocol asked m e)) ≡ (if protocol == p then Some (m.now + m.settings.reply) else until_paid (reply_on p e))
owing-until p protocol asked m e =
    let new : Owed = record { protocol = protocol; until = m.now + m.settings.reply; asked = asked } in
    let before = found-filter (λ o. o.protocol == p) (λ o. nat_lt o.protocol protocol) (nat_lt p protocol) (λ o is. ap (λ n. nat_lt n protocol) (eqb-true o.protocol p is)) e.owed in
    let behind = found-filter (λ o. o.protocol == p) (λ o. nat_lt protocol o.protocol) (nat_lt protocol p) (λ o is. ap (λ n. nat_lt protocol n) (eqb-true o.protocol p is)) e.owed in
    grind (arith, find-append (λ o. o.protocol == p) (filter (λ o. nat_lt o.protocol protocol) e.owed) (new ∷ filter (λ o. nat_lt protocol o.protocol) e.owed), before, behind)

pub owing-right : (p protocol asked : ℕ) (m : Machine) (e : Entry) →
    IsWait (m.now + m.settings.reply) (until_paid (reply_on p e)) (until_paid (reply_on p (owing protocol asked m e)))
owing-right p protocol asked m e = grind (arith, owing-until, kept)

-- it is paid
pub paid-until : (p protocol : ℕ) (e : Entry) → until_paid (reply_on p (paid protocol e)) ≡ (if protocol == p then None else until_paid (reply_on p e))
paid-until p protocol e =
    grind (arith, found-filter (λ o. o.protocol == p) (λ o. not (o.protocol == protocol)) (not (p == protocol)) (λ o is. ap (λ n. not (n == protocol)) (eqb-true o.protocol p is)) e.owed)

pub paid-right : (p protocol : ℕ) (whole : ℕ) (e : Entry) → IsWait whole (until_paid (reply_on p e)) (until_paid (reply_on p (paid protocol e)))
paid-right p protocol whole e = grind (arith, paid-until, kept)
