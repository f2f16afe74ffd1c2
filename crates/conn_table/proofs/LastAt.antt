-- The last of a rising list that has an address stands before the first above it.
use Rattle.std.proofs.Common.{◌≡◌, ℕ, suc, zero, ◌+◌, Bool, true, false, ◌||◌, List, [], ◌∷◌, slice_get, None, Some, refl, sym, subst, ap, ◌∙◌, inl, inr, ◌⊎◌, arith}
use Rattle.std.specs.List.{AllByRecursion, prefix_len}
use Rattle.std.proofs.lemmas.Bool.{cases_Bool, true≢false, and_parts}
use Rattle.net_base.specs.Address.{same_address, address_below}
use Rattle.net_base.specs.declared.address.Addr.{Addr}
use Rattle.conn_table.specs.Index.{placed_below, IsRising, placed_at, last_at, found_at, up_to, before}
use Rattle.conn_table.specs.declared.placed.Placed.{Placed}
use Rattle.net_base.proofs.AddressOrder.{address_transitive, address_connected, address_turned, same_address-is}
use Rattle.conn_table.proofs.PlacedPlaces.{AllAbove}

one_more : (n : ℕ) → 1 + n ≡ suc n
one_more n = omega arith

abbrev is_at : Addr → Placed → Bool
is_at addr p = same_address p.addr addr

-- ---- one and a later one

same_after : (p q : Placed) → placed_below p q ≡ true → address_below p.addr q.addr ≡ false → same_address p.addr q.addr ≡ true
same_after p q h apart = (and_parts _ _ (rw apart at h)).0

-- what is up to an address is so of what stands before it
pub up_to-earlier : (addr : Addr) (p q : Placed) → placed_below p q ≡ true → up_to addr q ≡ true → up_to addr p ≡ true
up_to-earlier addr p q h k = elim (cases_Bool (address_below p.addr q.addr)) [
  | inl below ↦ elim (cases_Bool (address_below q.addr addr)) [
    | inl under ↦ rw (address_transitive p.addr q.addr addr below under) refl
    | inr over ↦
        let at : same_address q.addr addr ≡ true = rw over at k in
        rw (subst (λ a. address_below p.addr a ≡ true) (same_address-is q.addr addr at) below) refl
  ]
  | inr apart ↦ subst (λ a. (address_below a addr || same_address a addr) ≡ true)
      (sym (same_address-is p.addr q.addr (same_after p q h apart))) k
]

above-later : (addr : Addr) (p q : Placed) → address_below addr p.addr ≡ true → placed_below p q ≡ true → address_below addr q.addr ≡ true
above-later addr p q h k = elim (cases_Bool (address_below p.addr q.addr)) [
  | inl below ↦ address_transitive addr p.addr q.addr h below
  | inr apart ↦ subst (λ a. address_below addr a ≡ true) (same_address-is p.addr q.addr (same_after p q k apart)) h
]

-- what stands behind one at an address, and is up to it, is at it
at-later : (addr : Addr) (p q : Placed) → is_at addr p ≡ true → placed_below p q ≡ true → up_to addr q ≡ true → is_at addr q ≡ true
at-later addr p q at h k = elim (cases_Bool (address_below q.addr addr)) [
  | inl under ↦ elim (cases_Bool (address_below p.addr q.addr)) [
    | inl below ↦ absurd (true≢false (sym at ∙ below_is_other below under))
    | inr apart ↦ subst (λ a. same_address a addr ≡ true) (same_address-is p.addr q.addr (same_after p q h apart)) at
  ]
  | inr over ↦ rw over at k
]
  where
    below_is_other : address_below p.addr q.addr ≡ true → address_below q.addr addr ≡ true → is_at addr p ≡ false
    below_is_other below under =
        let lower = address_transitive p.addr q.addr addr below under in
        let self : p.addr ≡ addr = same_address-is p.addr addr at in
        address_turned p.addr addr (subst (λ a. address_below addr a ≡ true) (sym self) (subst (λ a. address_below a addr ≡ true) self lower))

over_is_above : (addr : Addr) (p : Placed) → up_to addr p ≡ false → address_below addr p.addr ≡ true
over_is_above addr p h = elim (cases_Bool (address_below p.addr addr)) [
  | inl under ↦ absurd (true≢false (rw under at h))
  | inr over ↦ address_connected p.addr addr (rw over at h) over
]

-- ---- what is above an address isn't at it

abbrev AreAbove : Addr → List Placed → Type 0
AreAbove addr ps = AllByRecursion (λ q. address_below addr q.addr ≡ true) ps

above-all : (addr : Addr) (p : Placed) (ps : List Placed) → address_below addr p.addr ≡ true → AllAbove p ps → AreAbove addr ps
above-all addr p [] h k = tt
above-all addr p (q ∷ qs) h k = (above-later addr p q h k.0, above-all addr p qs h k.1)

none_above : (addr : Addr) (ps : List Placed) → AreAbove addr ps → placed_at addr ps ≡ false
none_above addr [] h = refl
none_above addr (p ∷ ps) h = rw (address_turned p.addr addr h.0) (none_above addr ps h.1)

no_last : (addr : Addr) (ps : List Placed) → placed_at addr ps ≡ false → last_at addr ps ≡ None
no_last addr [] h = refl
no_last addr (p ∷ ps) h = elim (cases_Bool (is_at addr p)) [
  | inl at ↦ absurd (true≢false (rw at at h))
  | inr other ↦
      let later : placed_at addr ps ≡ false = rw other at h in
      rw (later, other) refl
]

-- where none of the front is up to an address, all is above it
front_above : (addr : Addr) (ps : List Placed) → IsRising ps → zero ≡ prefix_len (up_to addr) ps → AreAbove addr ps
front_above addr [] rises h = tt
front_above addr (p ∷ ps) rises h = elim (cases_Bool (up_to addr p)) [
  | inl upto ↦ absurd (nothing (prefix_len (up_to addr) ps) (rw upto at h))
  | inr over ↦ let above = over_is_above addr p over in (above, above-all addr p ps above rises.0)
]
  where
    nothing : (n : ℕ) → zero ≡ 1 + n → ⊥
    nothing n h = omega (arith, h)

-- where one of the front is up to an address, the first is
front_up_to : (addr : Addr) (p : Placed) (ps : List Placed) (k : ℕ) → suc k ≡ prefix_len (up_to addr) (p ∷ ps) → up_to addr p ≡ true
front_up_to addr p ps k h = elim (cases_Bool (up_to addr p)) [
  | inl upto ↦ upto
  | inr over ↦ absurd (nothing (rw over at h))
]
  where
    nothing : suc k ≡ 0 → ⊥
    nothing h = omega (arith, h)

-- ---- the last at an address

last_at-later : (addr : Addr) (p : Placed) (ps : List Placed) (k : ℕ) → IsRising (p ∷ ps) → suc k ≡ prefix_len (up_to addr) ps →
    last_at addr (p ∷ ps) ≡ last_at addr ps
last_at-later addr p [] k rises h = absurd (omega (arith, h))
last_at-later addr p (q ∷ qs) k rises h = elim (cases_Bool (placed_at addr (q ∷ qs))) [
  | inl there ↦ rw there refl
  | inr none ↦
      let other : is_at addr p ≡ false = first_is_other (cases_Bool (is_at addr p)) none in
      rw (none, other) (sym (no_last addr (q ∷ qs) none))
]
  where
    first_is_other : (is_at addr p ≡ true) ⊎ (is_at addr p ≡ false) → placed_at addr (q ∷ qs) ≡ false → is_at addr p ≡ false
    first_is_other (inr other) none = other
    first_is_other (inl at) none =
        let here = at-later addr p q at rises.0.0 (front_up_to addr q qs k h) in
        absurd (true≢false (rw here at none))

found_behind : (addr : Addr) (p : Placed) (ps : List Placed) → IsRising (p ∷ ps) →
    last_at addr ps ≡ found_at addr (before (prefix_len (up_to addr) ps) ps) →
    (n : ℕ) → n ≡ prefix_len (up_to addr) ps → last_at addr (p ∷ ps) ≡ found_at addr (slice_get (p ∷ ps) n)
found_behind addr p ps rises later zero h = rw (none_above addr ps (front_above addr ps rises.1 h)) refl
found_behind addr p ps rises later (suc k) h =
    last_at-later addr p ps k rises h ∙ (later ∙ ap (λ n. found_at addr (before n ps)) (sym h))

pub last_at-found : (addr : Addr) (ps : List Placed) → IsRising ps → last_at addr ps ≡ found_at addr (before (prefix_len (up_to addr) ps) ps)
last_at-found addr [] rises = refl
last_at-found addr (p ∷ ps) rises = elim (cases_Bool (up_to addr p)) [
  | inl upto ↦ rw (upto, one_more (prefix_len (up_to addr) ps))
      (found_behind addr p ps rises (last_at-found addr ps rises.1) (prefix_len (up_to addr) ps) refl)
  | inr over ↦
      let above = over_is_above addr p over in
      rw (over, none_above addr ps (above-all addr p ps above rises.0), address_turned p.addr addr above) refl
]

-- ---- its address

pub last_at-address : (addr : Addr) (ps : List Placed) (p : Placed) → last_at addr ps ≡ Some p → p.addr ≡ addr
last_at-address addr [] p h = cc
last_at-address addr (q ∷ qs) p h = elim (cases_Bool (placed_at addr qs)) [
  | inl later ↦ last_at-address addr qs p (rw later at h)
  | inr none ↦ elim (cases_Bool (is_at addr q)) [
    | inl here ↦ sym (ap (λ r. r.addr) (some_is (rw (none, here) at h))) ∙ same_address-is q.addr addr here
    | inr other ↦ absurd (some_none (rw (none, other) at h))
  ]
]
  where
    some_is : Some q ≡ Some p → q ≡ p
    some_is h = cc

    some_none : None ≡ Some p → ⊥
    some_none h = cc
