-- The index of connections after a change of them, and what it finds.
use Rattle.std.proofs.Common.{◌≡◌, ℕ, ◌+◌, ◌<◌, ◌≤◌, ◌==◌, nat_lt, ◌||◌, Bool, true, false, cond, List, [], ◌∷◌, ◌++◌, Some, None, is_some, refl, sym, subst, ap, ◌∙◌, inl, inr, ◌⊎◌, arith}
use Rattle.std.specs.List.{AllByRecursion, find}
use Rattle.std.specs.Option.{option_map}
use Rattle.std.proofs.lemmas.Bool.{cases_Bool, true≢false, and_parts}
use Rattle.std.proofs.lemmas.Bool.Decides.{nat_tests}
use Rattle.net_base.specs.Address.{same_address, address_below}
use Rattle.net_base.specs.declared.address.Addr.{Addr}
use Rattle.net_base.specs.declared.connection.Facts.{Facts}
use Rattle.conn_state.specs.Use.{has_id, facts_at}
use Rattle.conn_table.specs.Answers.{has_address, any_at}
use Rattle.conn_table.specs.Index.{placed_below, same_placed, IsRising, put_in, taken_out, stands, placed_of, index_of, placed_at, last_at}
use Rattle.conn_table.specs.Finds.{newest}
use Rattle.conn_table.specs.Table.{IdsRise, moved_at, without_at}
use Rattle.conn_table.specs.declared.placed.Placed.{Placed}
use Rattle.net_base.proofs.AddressOrder.{address_turned, same_address-itself, same_address-is}
use Rattle.conn_table.proofs.IdPlaces.{found_here, found_later, found_id, without_at-above}
use Rattle.conn_table.proofs.PlacedOrder.{placed_transitive, placed_connected, never_both, same_placed-itself, same_placed-is}
use Rattle.conn_table.proofs.PlacedPlaces.{IsRising-put_in, filter-put_in, taken_out-put_in}

-- ---- two that are put in, in either order

before_second : (p q r : Placed) → placed_below r p ≡ true → placed_below r q ≡ false → placed_below q p ≡ true
before_second p q r low high = elim (cases_Bool (same_placed r q)) [
  | inl same ↦ subst (λ x. placed_below x p ≡ true) (same_placed-is r q same) low
  | inr other ↦ placed_transitive q r p (placed_connected r q other high) low
]

put_both : (p q : Placed) (ps : List Placed) → same_placed p q ≡ false →
    cond (placed_below q p) (q ∷ p ∷ ps) (p ∷ q ∷ ps) ≡ cond (placed_below p q) (p ∷ q ∷ ps) (q ∷ p ∷ ps)
put_both p q ps other = elim (cases_Bool (placed_below p q)) [
  | inl lower ↦ rw (lower, never_both p q lower) refl
  | inr over ↦ rw (over, placed_connected p q other over) refl
]

put_in-put_in : (p q : Placed) (ps : List Placed) → same_placed p q ≡ false → same_placed q p ≡ false →
    put_in p (put_in q ps) ≡ put_in q (put_in p ps)
put_in-put_in p q [] other back = put_both p q [] other
put_in-put_in p q (r ∷ rs) other back = elim (cases_Bool (placed_below r p)) [
  | inl under_p ↦ elim (cases_Bool (placed_below r q)) [
    | inl under_q ↦ rw (under_q, under_p, under_q) (ap (λ l. r ∷ l) (put_in-put_in p q rs other back))
    | inr over_q ↦ rw (over_q, under_p, over_q, before_second p q r under_p over_q) refl
  ]
  | inr over_p ↦ elim (cases_Bool (placed_below r q)) [
    | inl under_q ↦ rw (under_q, over_p, before_second q p r under_q over_p, under_q) refl
    | inr over_q ↦ rw (over_q, over_p, over_q) (put_both p q (r ∷ rs) other)
  ]
]

-- ---- the ids of an index

abbrev AreIdsAbove : ℕ → List Placed → Type 0
AreIdsAbove above ps = AllByRecursion (λ p. above < p.cid.0) ps

ids-put_in : (above : ℕ) (new : Placed) (ps : List Placed) → above < new.cid.0 → AreIdsAbove above ps → AreIdsAbove above (put_in new ps)
ids-put_in above new [] lt h = (lt, tt)
ids-put_in above new (p ∷ ps) lt h = elim (cases_Bool (placed_below p new)) [
  | inl under ↦ rw under (h.0, ids-put_in above new ps lt h.1)
  | inr over ↦ rw over (lt, h)
]

ids_lower : (below above : ℕ) (ps : List Placed) → below < above → AreIdsAbove above ps → AreIdsAbove below ps
ids_lower below above [] lt h = tt
ids_lower below above (p ∷ ps) lt h = (omega (arith, lt, h.0), ids_lower below above ps lt h.1)

pub index_ids : (above most : ℕ) (fs : List Facts) → IdsRise above most fs → AreIdsAbove above (index_of fs)
index_ids above most [] rises = tt
index_ids above most (f ∷ fs) rises =
    ids-put_in above (placed_of f) (index_of fs) rises.0 (ids_lower above f.cid.0 (index_of fs) rises.0 (index_ids f.cid.0 most fs rises.1))

another_id : (p q : Placed) → q.cid.0 < p.cid.0 → (p.cid.0 == q.cid.0) ≡ false
another_id p q h = grind (arith, nat_tests)

other_by_id : (p q : Placed) → (p.cid.0 == q.cid.0) ≡ false → same_placed p q ≡ false
other_by_id p q h = elim (cases_Bool (same_placed p q)) [
  | inl same ↦ absurd (true≢false (sym (and_parts _ _ same).1 ∙ h))
  | inr other ↦ other
]

absent : (new : Placed) (ps : List Placed) → AreIdsAbove new.cid.0 ps → stands new ps ≡ false
absent new [] h = refl
absent new (p ∷ ps) h = rw (other_by_id p new (another_id p new h.0)) (absent new ps h.1)

pub index_rises : (above most : ℕ) (fs : List Facts) → IdsRise above most fs → IsRising (index_of fs)
index_rises above most [] rises = tt
index_rises above most (f ∷ fs) rises =
    IsRising-put_in (placed_of f) (index_of fs) (index_rises f.cid.0 most fs rises.1)
    (absent (placed_of f) (index_of fs) (index_ids f.cid.0 most fs rises.1))

-- ---- a change of the connections

up_to_most : (above most : ℕ) (fs : List Facts) → IdsRise above most fs → above ≤ most
up_to_most above most [] rises = rises
up_to_most above most (f ∷ fs) rises = omega (arith, rises.0, up_to_most f.cid.0 most fs rises.1)

pub index_of-push : (above most : ℕ) (fs : List Facts) (f : Facts) → IdsRise above most fs → f.cid.0 ≡ most + 1 →
    index_of (fs ++ f ∷ []) ≡ put_in (placed_of f) (index_of fs)
index_of-push above most [] f rises next = refl
index_of-push above most (g ∷ gs) f rises next =
    let higher : g.cid.0 < f.cid.0 = omega (arith, up_to_most g.cid.0 most gs rises.1, next) in
    let other : same_placed (placed_of f) (placed_of g) ≡ false = other_by_id (placed_of f) (placed_of g) (another_id (placed_of f) (placed_of g) higher) in
    let back : same_placed (placed_of g) (placed_of f) ≡ false = other_by_id (placed_of g) (placed_of f) (lower_id higher) in
    ap (put_in (placed_of g)) (index_of-push g.cid.0 most gs f rises.1 next)
    ∙ put_in-put_in (placed_of g) (placed_of f) (index_of gs) back other
  where
    lower_id : g.cid.0 < f.cid.0 → (g.cid.0 == f.cid.0) ≡ false
    lower_id h = grind (arith, nat_tests)

pub index_of-moved : (cid : ℕ) (move : Facts → Facts) (fs : List Facts) → ((f : Facts) → placed_of (move f) ≡ placed_of f) →
    index_of (moved_at cid move fs) ≡ index_of fs
index_of-moved cid move [] keeps = refl
index_of-moved cid move (f ∷ fs) keeps = elim (cases_Bool (has_id cid f)) [
  | inl here ↦ rw (here, keeps f) (ap (put_in (placed_of f)) (index_of-moved cid move fs keeps))
  | inr other ↦ rw other (ap (put_in (placed_of f)) (index_of-moved cid move fs keeps))
]

has_id_is : (cid : ℕ) (f : Facts) → has_id cid f ≡ true → f.cid.0 ≡ cid
has_id_is cid f h = grind (arith, nat_tests)

pub index_of-without : (cid above most : ℕ) (fs : List Facts) (f : Facts) → IdsRise above most fs → facts_at cid fs ≡ Some f →
    index_of (without_at cid fs) ≡ taken_out (placed_of f) (index_of fs)
index_of-without cid above most [] f rises found = cc
index_of-without cid above most (g ∷ gs) f rises found = elim (cases_Bool (has_id cid g)) [
  | inl here ↦
      let same : g ≡ f = found_here cid g f gs found here in
      rw (here, without_at-above cid g.cid.0 most gs rises.1 (at_most (has_id_is cid g here)), sym same)
      (sym (taken_out-put_in (placed_of g) (index_of gs) (same_placed-itself (placed_of g))
      (absent (placed_of g) (index_of gs) (index_ids g.cid.0 most gs rises.1))))
  | inr other ↦
      let later = found_later cid g f gs found other in
      let apart : same_placed (placed_of g) (placed_of f) ≡ false = other_by_id (placed_of g) (placed_of f) (another other (found_id cid gs f later)) in
      rw other (ap (put_in (placed_of g)) (index_of-without cid g.cid.0 most gs f rises.1 later)
      ∙ sym (filter-put_in _ (placed_of g) (index_of gs) (index_rises g.cid.0 most gs rises.1) (rw apart refl)))
]
  where
    at_most : g.cid.0 ≡ cid → cid ≤ g.cid.0
    at_most h = omega (arith, h)

    another : has_id cid g ≡ false → f.cid.0 ≡ cid → (g.cid.0 == f.cid.0) ≡ false
    another h k = grind (arith, nat_tests)

-- ---- what stands in an index

pub stands-put_in : (old new : Placed) (ps : List Placed) → stands old (put_in new ps) ≡ (same_placed new old || stands old ps)
stands-put_in old new [] = elim (cases_Bool (same_placed new old)) [ inl same ↦ rw same refl | inr other ↦ rw other refl ]
stands-put_in old new (p ∷ ps) = elim (cases_Bool (placed_below p new)) [
  | inl under ↦ elim (cases_Bool (same_placed p old)) [
    | inl here ↦ rw (under, here) (either (same_placed new old))
    | inr there ↦ rw (under, there) (stands-put_in old new ps)
  ]
  | inr over ↦ rw over (first (same_placed new old))
]
  where
    either : (b : Bool) → true ≡ (b || true)
    either true = refl
    either false = refl

    first : (b : Bool) → is_some (cond b (Some new) (find (λ x. same_placed x old) (p ∷ ps))) ≡ (b || stands old (p ∷ ps))
    first true = refl
    first false = refl

pub put_in-stands : (new : Placed) (ps : List Placed) → stands new (put_in new ps) ≡ true
put_in-stands new ps = stands-put_in new new ps ∙ ap (λ b. b || stands new ps) (same_placed-itself new)

-- the next id is none of theirs
pub next-absent : (new : Placed) (above most : ℕ) (fs : List Facts) → IdsRise above most fs → most < new.cid.0 → stands new (index_of fs) ≡ false
next-absent new above most [] rises next = refl
next-absent new above most (f ∷ fs) rises next =
    stands-put_in new (placed_of f) (index_of fs)
    ∙ (ap (λ b. b || stands new (index_of fs)) (other_by_id (placed_of f) new (lower f.cid.0 new.cid.0 (omega (arith, up_to_most f.cid.0 most fs rises.1, next))))
    ∙ next-absent new f.cid.0 most fs rises.1 next)
  where
    lower : (n m : ℕ) → n < m → (n == m) ≡ false
    lower n m h = grind (arith, nat_tests)

pub index_stands : (cid : ℕ) (fs : List Facts) (f : Facts) → facts_at cid fs ≡ Some f → stands (placed_of f) (index_of fs) ≡ true
index_stands cid [] f found = cc
index_stands cid (g ∷ gs) f found = elim (cases_Bool (has_id cid g)) [
  | inl here ↦
      let same : g ≡ f = found_here cid g f gs found here in
      stands-put_in (placed_of f) (placed_of g) (index_of gs)
      ∙ ap (λ b. b || stands (placed_of f) (index_of gs)) (subst (λ h. same_placed (placed_of g) (placed_of h) ≡ true) same (same_placed-itself (placed_of g)))
  | inr other ↦
      stands-put_in (placed_of f) (placed_of g) (index_of gs)
      ∙ (ap (λ b. same_placed (placed_of g) (placed_of f) || b) (index_stands cid gs f (found_later cid g f gs found other))
      ∙ either (same_placed (placed_of g) (placed_of f)))
]
  where
    either : (b : Bool) → (b || true) ≡ true
    either true = refl
    either false = refl

-- ---- the last of an address

placed_at-put_in : (addr : Addr) (new : Placed) (ps : List Placed) → placed_at addr (put_in new ps) ≡ (same_address new.addr addr || placed_at addr ps)
placed_at-put_in addr new [] = elim (cases_Bool (same_address new.addr addr)) [ inl same ↦ rw same refl | inr other ↦ rw other refl ]
placed_at-put_in addr new (p ∷ ps) = elim (cases_Bool (placed_below p new)) [
  | inl under ↦ elim (cases_Bool (same_address p.addr addr)) [
    | inl here ↦ rw (under, here) (either (same_address new.addr addr))
    | inr there ↦ rw (under, there) (placed_at-put_in addr new ps)
  ]
  | inr over ↦ rw over (first (same_address new.addr addr))
]
  where
    either : (b : Bool) → true ≡ (b || true)
    either true = refl
    either false = refl

    first : (b : Bool) → is_some (cond b (Some new) (find (λ x. same_address x.addr addr) (p ∷ ps))) ≡ (b || placed_at addr (p ∷ ps))
    first true = refl
    first false = refl

pub placed_at-index : (addr : Addr) (fs : List Facts) → placed_at addr (index_of fs) ≡ any_at addr fs
placed_at-index addr [] = refl
placed_at-index addr (f ∷ fs) =
    placed_at-put_in addr (placed_of f) (index_of fs)
    ∙ (ap (λ b. same_address f.addr addr || b) (placed_at-index addr fs) ∙ first (same_address f.addr addr))
  where
    first : (b : Bool) → (b || any_at addr fs) ≡ is_some (cond b (Some f) (find (has_address addr) fs))
    first true = refl
    first false = refl

-- of one address, what stands below has a lower id
lower_id : (p q : Placed) (addr : Addr) → placed_below q p ≡ true → same_address p.addr addr ≡ true → same_address q.addr addr ≡ true → q.cid.0 < p.cid.0
lower_id p q addr low p_at q_at =
    let one : q.addr ≡ p.addr = same_address-is q.addr addr q_at ∙ sym (same_address-is p.addr addr p_at) in
    let not_below : address_below q.addr p.addr ≡ false = not_itself one in
    lower (and_parts _ _ (rw not_below at low)).1
  where
    not_itself : q.addr ≡ p.addr → address_below q.addr p.addr ≡ false
    not_itself e = elim (cases_Bool (address_below q.addr p.addr)) [
      | inl below ↦ absurd (true≢false (sym (subst (λ a. same_address p.addr a ≡ true) (sym e) (same_address-itself p.addr)) ∙ address_turned p.addr q.addr below))
      | inr over ↦ over
    ]

    lower : nat_lt q.cid.0 p.cid.0 ≡ true → q.cid.0 < p.cid.0
    lower h = grind (arith, nat_tests)

last_at-put_in : (addr : Addr) (new : Placed) (ps : List Placed) → AreIdsAbove new.cid.0 ps → last_at addr (put_in new ps) ≡ last_at addr (new ∷ ps)
last_at-put_in addr new [] ids = refl
last_at-put_in addr new (p ∷ ps) ids = elim (cases_Bool (placed_below p new)) [
  | inl under ↦
      let rest : last_at addr (put_in new ps) ≡ last_at addr (new ∷ ps) = last_at-put_in addr new ps ids.1 in
      rw (under, placed_at-put_in addr new ps, rest) (same_last under (cases_Bool (placed_at addr ps)) (cases_Bool (same_address new.addr addr)) (cases_Bool (same_address p.addr addr)))
  | inr over ↦ rw over refl
]
  where
    same_last : placed_below p new ≡ true → (placed_at addr ps ≡ true) ⊎ (placed_at addr ps ≡ false) →
        (same_address new.addr addr ≡ true) ⊎ (same_address new.addr addr ≡ false) → (same_address p.addr addr ≡ true) ⊎ (same_address p.addr addr ≡ false) →
        cond (same_address new.addr addr || placed_at addr ps) (last_at addr (new ∷ ps)) (cond (same_address p.addr addr) (Some p) None) ≡ last_at addr (new ∷ p ∷ ps)
    same_last under (inl later) (inl n) (inl h) = rw (h, n, later) refl
    same_last under (inl later) (inl n) (inr h) = rw (h, n, later) refl
    same_last under (inl later) (inr n) (inl h) = rw (h, n, later) refl
    same_last under (inl later) (inr n) (inr h) = rw (h, n, later) refl
    same_last under (inr none) (inl n) (inl h) = absurd (omega (arith, ids.0, lower_id new p addr under n h))
    same_last under (inr none) (inl n) (inr h) = rw (h, n, none) refl
    same_last under (inr none) (inr n) (inl h) = rw (h, n, none) refl
    same_last under (inr none) (inr n) (inr h) = rw (h, n, none) refl

pub last_at-index : (addr : Addr) (above most : ℕ) (fs : List Facts) → IdsRise above most fs → last_at addr (index_of fs) ≡ option_map placed_of (newest addr fs)
last_at-index addr above most [] rises = refl
last_at-index addr above most (f ∷ fs) rises =
    last_at-put_in addr (placed_of f) (index_of fs) (index_ids f.cid.0 most fs rises.1)
    ∙ (ap (λ b. cond b (last_at addr (index_of fs)) (cond (same_address f.addr addr) (Some (placed_of f)) None)) (placed_at-index addr fs)
    ∙ (ap (λ l. cond (any_at addr fs) l (cond (same_address f.addr addr) (Some (placed_of f)) None)) (last_at-index addr f.cid.0 most fs rises.1)
    ∙ mapped (any_at addr fs) (same_address f.addr addr)))
  where
    mapped : (later here : Bool) → cond later (option_map placed_of (newest addr fs)) (cond here (Some (placed_of f)) None)
        ≡ option_map placed_of (cond later (newest addr fs) (cond here (Some f) None))
    mapped true here = refl
    mapped false true = refl
    mapped false false = refl
