-- The leases of the connections in local use are kept through every move.
use Rattle.std.proofs.Common.{◌≡◌, ℕ, ◌==◌, Bool, true, false, if◌then◌else◌, List, [], ◌∷◌, ◌++◌, Option, Some, None, refl, sym, subst, ap, ◌∙◌, inl, inr, ◌⊎◌, ◌||◌, ◌&&◌, not, ◌<◌, get_or, length, nat_lt, arith}
use Rattle.std.specs.List.{position, position_or_len, swap_remove}
use Rattle.std.proofs.lemmas.List.Quantifiers.{position-Some}
use Rattle.std.proofs.lemmas.List.Sorted.{list_any-IsPermutation, IsPermutation-swap_remove}
use Rattle.std.specs.Option.{option_map}
use Rattle.std.proofs.lemmas.Bool.{cases_Bool, false≢true, and_parts}
use Rattle.std.proofs.lemmas.Bool.Decides.{nat_tests}
use Rattle.net_base.specs.declared.connection.Cid.{Cid}
use Rattle.net_base.specs.declared.connection.Facts.{Facts}
use Rattle.conn_state.specs.Use.{has_id, facts_at, is_outbound}
use Rattle.net_base.specs.declared.connection.Agreed.{Agreed}
use Rattle.conn_table.specs.Choices.{negotiated, grace_ended}
use Rattle.conn_table.specs.Table.{Table, moved_at, without_at}
use Rattle.conn_table.proofs.IdPlaces.{found_id}
use Rattle.lease_law.proofs.Found.{turned, found-moved, found-without, found-gone, found_in_push}
use Rattle.conn_table.specs.Answers.{after_acquire, lease_of}
use Rattle.conn_table.specs.Calls.{after_acquire_at, acquire_at, lease_at, negotiated_lease}
use Rattle.conn_table.specs.declared.acquire.Acquire.TheVariants as acquire
use Rattle.conn_state.specs.Moves.{acquired}
use Rattle.net_base.specs.declared.address.Addr.{Addr}
use Rattle.shared_table.specs.Calls.{is_moment, passes, stands_with, is_greeting_in, is_greeting_out, lease_reply}
use Rattle.shared_table.specs.declared.reply.TableReply.TheVariants as reply
use Rattle.shared_table.specs.Leases.{is_kept, AreKept, OthersStay}

-- a connection that comes in is in no local use
pub kept-push : (leases : List Cid) (fs : List Facts) (new : Facts) → new.local ≡ false → AreKept leases fs → AreKept leases (fs ++ new ∷ [])
kept-push leases fs new unused kept c f found used = elim (found_in_push c fs new f found) [
  | inl old ↦ kept c f old used
  | inr same ↦ absurd (false≢true (sym unused ∙ (ap (λ g. g.local) same ∙ used)))
]

is_found : (g f : Facts) → Some g ≡ Some f → g ≡ f
is_found g f e = cc

same_id : (c cid : ℕ) (f : Facts) → f.cid.0 ≡ c → has_id cid f ≡ true → c ≡ cid
same_id c cid f h k = grind (arith, nat_tests)

other_id : (c cid : ℕ) (f : Facts) → f.cid.0 ≡ c → has_id cid f ≡ false → (c == cid) ≡ false
other_id c cid f h k = grind (arith, nat_tests)

-- One connection makes a move: where it is in local use then, its lease is among the new ones.
pub kept-moved : (leases new : List Cid) (cid : ℕ) (move : Facts → Facts) (fs : List Facts) → ((f : Facts) → (move f).cid ≡ f.cid) →
    OthersStay cid leases new → ((f : Facts) → facts_at cid fs ≡ Some f → (move f).local ≡ true → is_kept cid new ≡ true) →
    AreKept leases fs → AreKept new (moved_at cid move fs)
kept-moved leases new cid move fs keeps others itself kept c g found used =
    at (facts_at c fs) refl (sym (found-moved c cid move fs keeps) ∙ found)
  where
    which : (f : Facts) → facts_at c fs ≡ Some f → turned cid move f ≡ g → (has_id cid f ≡ true) ⊎ (has_id cid f ≡ false) → is_kept c new ≡ true
    which f e is (inl here) =
        let after : move f ≡ g = rw here at is in
        let one : c ≡ cid = same_id c cid f (found_id c fs f e) here in
        subst (λ n. is_kept n new ≡ true) (sym one)
        (itself f (subst (λ n. facts_at n fs ≡ Some f) one e) (ap (λ x. x.local) after ∙ used))
    which f e is (inr apart) =
        let after : f ≡ g = rw apart at is in
        others c (other_id c cid f (found_id c fs f e) apart) (kept c f e (ap (λ x. x.local) after ∙ used))

    at : (o : Option Facts) → facts_at c fs ≡ o → option_map (turned cid move) o ≡ Some g → is_kept c new ≡ true
    at None e h = cc
    at (Some f) e h = which f e (is_found (turned cid move f) g h) (cases_Bool (has_id cid f))

-- one connection goes
pub kept-without : (leases new : List Cid) (cid : ℕ) (fs : List Facts) → OthersStay cid leases new → AreKept leases fs → AreKept new (without_at cid fs)
kept-without leases new cid fs others kept c g found used = by_id (cases_Bool (c == cid))
  where
    nothing : None ≡ Some g → ⊥
    nothing h = cc

    same : (c == cid) ≡ true → c ≡ cid
    same h = grind (arith, nat_tests)

    turned_round : (c == cid) ≡ false → (cid == c) ≡ false
    turned_round h = grind (arith, nat_tests)

    by_id : ((c == cid) ≡ true) ⊎ ((c == cid) ≡ false) → is_kept c new ≡ true
    by_id (inl one) = absurd (nothing (sym (found-gone cid fs) ∙ subst (λ n. facts_at n (without_at cid fs) ≡ Some g) (same one) found))
    by_id (inr apart) = others c apart (kept c g (sym (found-without c cid fs (turned_round apart)) ∙ found) used)

-- ---- the leases

same_test : (c : ℕ) → (c == c) ≡ true
same_test c = grind (arith, nat_tests)

pub is_kept-push : (c : ℕ) (leases : List Cid) (lease : Cid) → is_kept c leases ≡ true → is_kept c (leases ++ lease ∷ []) ≡ true
is_kept-push c [] lease h = absurd (false≢true h)
is_kept-push c (l ∷ ls) lease h = elim (cases_Bool (l.0 == c)) [
  | inl here ↦ rw here refl
  | inr other ↦ rw other (is_kept-push c ls lease (rw other at h))
]

pub is_kept-last : (leases : List Cid) (lease : Cid) → is_kept lease.0 (leases ++ lease ∷ []) ≡ true
is_kept-last [] lease = rw (same_test lease.0) refl
is_kept-last (l ∷ ls) lease = elim (cases_Bool (l.0 == lease.0)) [
  | inl here ↦ rw here refl
  | inr other ↦ rw other (is_kept-last ls lease)
]

-- the leases stay
pub all_stay : (cid : ℕ) (leases : List Cid) → OthersStay cid leases leases
all_stay cid leases other apart h = h

-- one more
pub stay-push : (cid : ℕ) (leases : List Cid) (lease : Cid) → OthersStay cid leases (leases ++ lease ∷ [])
stay-push cid leases lease other apart h = is_kept-push other leases lease h

-- ---- a lease that is taken out

found_within : (cid : ℕ) (leases : List Cid) → is_kept cid leases ≡ true → position_or_len (λ lease. lease.0 == cid) leases < length leases
found_within cid [] kept = absurd (false≢true kept)
found_within cid (l ∷ ls) kept = elim (cases_Bool (l.0 == cid)) [
  | inl here ↦ rw here (omega arith)
  | inr other ↦ rw other (let later : position_or_len (λ lease. lease.0 == cid) ls < length ls = found_within cid ls (rw other at kept) in omega arith)
]

-- a lease that is there is found
pub found_place : (cid : ℕ) (leases : List Cid) → is_kept cid leases ≡ true → position (λ lease. lease.0 == cid) leases ≡ None → ⊥
found_place cid leases kept none = at _ _ (found_within cid leases kept) none
  where
    at : (m n : ℕ) → m < n → (if nat_lt m n then Some m else None) ≡ None → ⊥
    at m n below h = elim (cases_Bool (nat_lt m n)) [
      | inl yes_below ↦ nothing m (rw yes_below at h)
      | inr not_below ↦ absurd (grind (arith, nat_tests))
    ]
      where
        nothing : (k : ℕ) → Some k ≡ None → ⊥
        nothing k e = cc

pub stay-swap_remove : (cid : ℕ) (leases : List Cid) (i : ℕ) (x : Cid) → i < length leases → x ≡ get_or leases i x → x.0 ≡ cid → OthersStay cid leases (swap_remove leases i x)
stay-swap_remove cid leases i x within at is other apart kept =
    left (x.0 == other) _ (not_it x.0 other is apart) (sym (list_any-IsPermutation (λ lease. lease.0 == other) leases (x ∷ swap_remove leases i x) (IsPermutation-swap_remove leases i x within at)) ∙ kept)
  where
    not_it : (n other : ℕ) → n ≡ cid → (other == cid) ≡ false → (n == other) ≡ false
    not_it n other e h = grind (arith, nat_tests)

    left : (a b : Bool) → a ≡ false → (a || b) ≡ true → b ≡ true
    left a b off either = rw off at either

abbrev id_of : ℕ → Cid
id_of n = record { 0 = n }

-- the lease at the place that was found is that of the connection
pub lease_found : (cid : Cid) (leases : List Cid) (i : ℕ) (x : Cid) → position (λ lease. lease.0 == cid.0) leases ≡ Some i → x ≡ get_or leases i x →
    (i < length leases) × (x ≡ cid)
lease_found cid leases i x found at =
    let there = position-Some (λ lease. lease.0 == cid.0) leases i x found in
    (there.0, ap id_of (same x.0 cid.0 (ap (λ l. l.0 == cid.0) at ∙ there.1)))
  where
    same : (m n : ℕ) → (m == n) ≡ true → m ≡ n
    same m n h = grind (arith, nat_tests)

-- ---- local use after a move

-- a handshake of a connection that the other side dialed brings no local use
pub negotiated_in : (agreed : Agreed) (until : ℕ) (f : Facts) → is_outbound f ≡ false → (negotiated agreed until f).local ≡ true → f.local ≡ true
negotiated_in agreed until f inbound used = rw inbound at used

pub grace_ended_used : (until : ℕ) (f : Facts) → (grace_ended until f).local ≡ true → f.local ≡ true
grace_ended_used until f used = elim (cases_Bool f.local) [
  | inl here ↦ here
  | inr none ↦ absurd (false≢true (rw none at used))
]

pub negotiated_id : (agreed : Agreed) (until : ℕ) (f : Facts) → (negotiated agreed until f).cid ≡ f.cid
negotiated_id agreed until f = elim (cases_Bool (is_outbound f)) [ inl out ↦ rw out refl | inr inbound ↦ rw inbound refl ]

pub grace_ended_id : (until : ℕ) (f : Facts) → (grace_ended until f).cid ≡ f.cid
grace_ended_id until f = elim (cases_Bool f.local) [ inl used ↦ rw used refl | inr none ↦ rw none refl ]

pub unused : {P : Type 0} → false ≡ true → P
unused h = absurd (false≢true h)

-- a lease that is given brings its connection into local use
pub kept-acquired : (new : List Cid) (lease : Cid) (addr : Addr) (t : Table) → acquire.Leased lease ≡ acquire_at addr t →
    AreKept new (moved_at lease.0 acquired t.facts) → AreKept new (after_acquire_at addr t).facts
kept-acquired new lease addr t answer kept = subst (λ a. AreKept new (after_acquire a t).facts) answer kept

-- what the calls at the end of a handshake ask for
pub inbound_there : (now cid : ℕ) (t : Table) (f : Facts) → facts_at cid t.facts ≡ Some f → (is_moment now && stands_with is_greeting_in cid t) ≡ true →
    is_outbound f ≡ false
inbound_there now cid t f found met = off (is_outbound f) (and_parts _ _ (subst (λ o. passes is_greeting_in o ≡ true) found (and_parts _ _ met).1)).1
  where
    off : (b : Bool) → not b ≡ true → b ≡ false
    off true h = absurd (false≢true h)
    off false h = refl

pub outbound_there : (now cid : ℕ) (t : Table) (f : Facts) → facts_at cid t.facts ≡ Some f → (is_moment now && stands_with is_greeting_out cid t) ≡ true →
    is_outbound f ≡ true
outbound_there now cid t f found met = (and_parts _ _ (subst (λ o. passes is_greeting_out o ≡ true) found (and_parts _ _ met).1)).1

-- the lease that comes with a handshake is that of the connection
pub lease_there : (now cid : ℕ) (t : Table) (lease : Cid) → (is_moment now && stands_with is_greeting_out cid t) ≡ true →
    Some lease ≡ negotiated_lease cid t → lease.0 ≡ cid
lease_there now cid t lease met comes = at (facts_at cid t.facts) refl comes
  where
    by_id : (f : Facts) → facts_at cid t.facts ≡ Some f → Some lease ≡ lease_of f → lease.0 ≡ cid
    by_id f found is = ap (λ l. l.0) (same (rw (outbound_there now cid t f found met) at is)) ∙ found_id cid t.facts f found
      where
        same : Some lease ≡ Some f.cid → lease ≡ f.cid
        same e = cc

    at : (o : Option Facts) → facts_at cid t.facts ≡ o → Some lease ≡ lease_at o → lease.0 ≡ cid
    at None e h = absurd (missing (subst (λ o. passes is_greeting_out o ≡ true) e (and_parts _ _ met).1))
      where
        missing : false ≡ true → ⊥
        missing h = false≢true h
    at (Some f) e h = by_id f e h

pub agreed_reply : (now : ℕ) (cid : Cid) (t : Table) (lease : Cid) → (is_moment now && stands_with is_greeting_out cid.0 t) ≡ true →
    Some lease ≡ negotiated_lease cid.0 t → reply.Leased cid ≡ lease_reply (negotiated_lease cid.0 t)
agreed_reply now cid t lease met comes = ap (λ n. reply.Leased (id_of n)) (sym (lease_there now cid.0 t lease met comes)) ∙ ap lease_reply comes
