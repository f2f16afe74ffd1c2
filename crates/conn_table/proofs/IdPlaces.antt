-- Where a connection stands in the order of ids, and what a change there leaves.
use Rattle.std.proofs.Common.{◌≡◌, ℕ, suc, zero, ◌+◌, ◌<◌, ◌≤◌, nat_lt, Bool, true, false, cond, if◌then◌else◌, List, [], ◌∷◌, ◌++◌, map, length, get_or, set, Option, Some, None, is_some, slice_get, refl, sym, subst, ap, ◌∙◌, inl, inr, arith}
use Rattle.std.specs.List.{prefix_len, filter, remove, count_by}
use Rattle.std.specs.List.Sorted.{IsPartitionedBy}
use Rattle.std.proofs.lemmas.Bool.{cases_Bool, cases_order, false≢true}
use Rattle.std.proofs.lemmas.Bool.Decides.{nat_tests}
use Rattle.std.proofs.lemmas.List.Sums.{sum_by-cons}
use Rattle.net_base.specs.declared.connection.Facts.{Facts}
use Rattle.conn_state.specs.State.{facts_of}
use Rattle.conn_state.specs.Use.{has_id, facts_at}
use Rattle.conn_state.specs.declared.state.ConnState.{ConnState}
use Rattle.conn_table.specs.Finds.{found_with, id_place}
use Rattle.conn_table.specs.Table.{IdsRise, moved_at, without_at}

one_more : (n : ℕ) → 1 + n ≡ suc n
one_more n = omega arith

abbrev under : ℕ → Facts → Bool
under cid f = nat_lt f.cid.0 cid

under_is : (cid : ℕ) (f : Facts) → under cid f ≡ true → f.cid.0 < cid
under_is cid f h = grind (arith, nat_tests)

over_is : (cid : ℕ) (f : Facts) → under cid f ≡ false → cid ≤ f.cid.0
over_is cid f h = grind (arith, nat_tests)

has_id_is : (cid : ℕ) (f : Facts) → has_id cid f ≡ true → f.cid.0 ≡ cid
has_id_is cid f h = grind (arith, nat_tests)

other_id : (cid : ℕ) (f : Facts) → f.cid.0 < cid → has_id cid f ≡ false
other_id cid f h = grind (arith, nat_tests)

higher_id : (cid : ℕ) (f : Facts) → cid < f.cid.0 → has_id cid f ≡ false
higher_id cid f h = grind (arith, nat_tests)

not_id : (cid : ℕ) (f : Facts) → has_id cid f ≡ false → cid ≤ f.cid.0 → cid < f.cid.0
not_id cid f h k = grind (arith, nat_tests)

-- ---- the order of the states

above_all : (above most : ℕ) (xs : List ConnState) → IdsRise above most (map facts_of xs) → (j : ℕ) (d : ConnState) → j < length xs →
    above < (facts_of (get_or xs j d)).cid.0
above_all above most [] rises j d inside = absurd (omega (arith, inside))
above_all above most (x ∷ xs) rises zero d inside = rises.0
above_all above most (x ∷ xs) rises (suc j) d inside =
    omega (arith, rises.0, above_all (facts_of x).cid.0 most xs rises.1 j d (omega arith))

rising_pairs : (above most : ℕ) (xs : List ConnState) → IdsRise above most (map facts_of xs) → (i j : ℕ) (d : ConnState) → i < j → j < length xs →
    (facts_of (get_or xs i d)).cid.0 < (facts_of (get_or xs j d)).cid.0
rising_pairs above most [] rises i j d lt inside = absurd (omega (arith, inside))
rising_pairs above most (x ∷ xs) rises i zero d lt inside = absurd (omega (arith, lt))
rising_pairs above most (x ∷ xs) rises zero (suc j) d lt inside = above_all (facts_of x).cid.0 most xs rises.1 j d (omega arith)
rising_pairs above most (x ∷ xs) rises (suc i) (suc j) d lt inside = rising_pairs (facts_of x).cid.0 most xs rises.1 i j d (omega arith) (omega arith)

abbrev pub state_under : ℕ → ConnState → Bool
state_under cid x = nat_lt (facts_of x).cid.0 cid

pub parted : (cid above most : ℕ) (xs : List ConnState) → IdsRise above most (map facts_of xs) → IsPartitionedBy (state_under cid) xs
parted cid above most xs rises i j d upto inside holds = elim (cases_order i j) [
  | inl e ↦ subst (λ n. state_under cid (get_or xs n d) ≡ true) (sym e) holds
  | inr apart ↦ elim apart [
    | inl lt ↦ lower (facts_of (get_or xs i d)) (facts_of (get_or xs j d)) (rising_pairs above most xs rises i j d lt inside) holds
    | inr gt ↦ absurd (omega (arith, gt, upto))
  ]
]
  where
    lower : (f g : Facts) → f.cid.0 < g.cid.0 → under cid g ≡ true → under cid f ≡ true
    lower f g h k = grind (arith, nat_tests)

pub id_place-map : (cid : ℕ) (xs : List ConnState) → prefix_len (state_under cid) xs ≡ id_place cid (map facts_of xs)
id_place-map cid [] = refl
id_place-map cid (x ∷ xs) = ap (λ n. cond (under cid (facts_of x)) (1 + n) 0) (id_place-map cid xs)

-- ---- what stands behind an id has another

pub none_above : (cid above most : ℕ) (fs : List Facts) → IdsRise above most fs → cid ≤ above → facts_at cid fs ≡ None
none_above cid above most [] rises le = refl
none_above cid above most (f ∷ fs) rises le =
    rw (higher_id cid f (omega (arith, rises.0, le))) (none_above cid f.cid.0 most fs rises.1 (omega (arith, rises.0, le)))

pub moved_at-above : (cid above most : ℕ) (move : Facts → Facts) (fs : List Facts) → IdsRise above most fs → cid ≤ above → moved_at cid move fs ≡ fs
moved_at-above cid above most move [] rises le = refl
moved_at-above cid above most move (f ∷ fs) rises le =
    rw (higher_id cid f (omega (arith, rises.0, le)))
    (ap (λ l. f ∷ l) (moved_at-above cid f.cid.0 most move fs rises.1 (omega (arith, rises.0, le))))

pub without_at-above : (cid above most : ℕ) (fs : List Facts) → IdsRise above most fs → cid ≤ above → without_at cid fs ≡ fs
without_at-above cid above most [] rises le = refl
without_at-above cid above most (f ∷ fs) rises le =
    rw (higher_id cid f (omega (arith, rises.0, le)))
    (ap (λ l. f ∷ l) (without_at-above cid f.cid.0 most fs rises.1 (omega (arith, rises.0, le))))

-- the first that has no lower id is the one with the id, or nothing is
pub find-place : (cid above most : ℕ) (fs : List Facts) → IdsRise above most fs → facts_at cid fs ≡ found_with cid (slice_get fs (id_place cid fs))
find-place cid above most [] rises = refl
find-place cid above most (f ∷ fs) rises = elim (cases_Bool (under cid f)) [
  | inl low ↦ rw (low, other_id cid f (under_is cid f low), one_more (id_place cid fs)) (find-place cid f.cid.0 most fs rises.1)
  | inr high ↦ elim (cases_Bool (has_id cid f)) [
    | inl here ↦ rw (high, here) refl
    | inr other ↦ rw (high, other) (none_above cid f.cid.0 most fs rises.1 (over_is cid f high))
  ]
]

found_is : (cid : ℕ) (found : Option Facts) (f : Facts) → found_with cid found ≡ Some f → found ≡ Some f
found_is cid None f h = cc
found_is cid (Some g) f h = elim (cases_Bool (has_id cid g)) [
  | inl here ↦ rw here at h
  | inr other ↦ absurd (nothing (rw other at h))
]
  where
    nothing : None ≡ Some f → ⊥
    nothing h = cc

pub get-place : (cid above most : ℕ) (fs : List Facts) (f : Facts) → IdsRise above most fs → facts_at cid fs ≡ Some f →
    slice_get fs (id_place cid fs) ≡ Some f
get-place cid above most fs f rises found = found_is cid (slice_get fs (id_place cid fs)) f (sym (find-place cid above most fs rises) ∙ found)

-- ---- what stands at a place is the one with its id

is_found : (g f : Facts) → Some g ≡ Some f → g ≡ f
is_found g f e = cc

above_get : (above most : ℕ) (fs : List Facts) (place : ℕ) (f : Facts) → IdsRise above most fs → slice_get fs place ≡ Some f → above < f.cid.0
above_get above most [] place f rises found = absurd (nothing place found)
  where
    nothing : (n : ℕ) → slice_get [] n ≡ Some f → ⊥
    nothing zero h = cc
    nothing (suc n) h = cc
above_get above most (g ∷ gs) zero f rises found = subst (λ h. above < h.cid.0) (is_found g f found) rises.0
above_get above most (g ∷ gs) (suc place) f rises found = omega (arith, rises.0, above_get g.cid.0 most gs place f rises.1 found)

under_above : (f g : Facts) → g.cid.0 < f.cid.0 → under f.cid.0 g ≡ true
under_above f g h = grind (arith, nat_tests)

over_itself : (f : Facts) → under f.cid.0 f ≡ false
over_itself f = grind (arith, nat_tests)

has_its_id : (f : Facts) → has_id f.cid.0 f ≡ true
has_its_id f = grind (arith, nat_tests)

pub place-get : (above most : ℕ) (fs : List Facts) (place : ℕ) (f : Facts) → IdsRise above most fs → slice_get fs place ≡ Some f →
    id_place f.cid.0 fs ≡ place
place-get above most [] place f rises found = absurd (nothing place found)
  where
    nothing : (n : ℕ) → slice_get [] n ≡ Some f → ⊥
    nothing zero h = cc
    nothing (suc n) h = cc
place-get above most (g ∷ gs) zero f rises found = rw (is_found g f found, over_itself f) refl
place-get above most (g ∷ gs) (suc place) f rises found =
    rw (under_above f g (above_get g.cid.0 most gs place f rises.1 found), one_more (id_place f.cid.0 gs))
    (ap (λ n. suc n) (place-get g.cid.0 most gs place f rises.1 found))

-- a move keeps places
pub id_place-moved : (cid own : ℕ) (move : Facts → Facts) (fs : List Facts) → ((f : Facts) → (move f).cid ≡ f.cid) →
    id_place cid (moved_at own move fs) ≡ id_place cid fs
id_place-moved cid own move [] keeps = refl
id_place-moved cid own move (f ∷ fs) keeps = elim (cases_Bool (has_id own f)) [
  | inl here ↦ rw (here, keeps f, id_place-moved cid own move fs keeps) refl
  | inr other ↦ rw (other, id_place-moved cid own move fs keeps) refl
]

pub found-get : (above most : ℕ) (fs : List Facts) (place : ℕ) (f : Facts) → IdsRise above most fs → slice_get fs place ≡ Some f →
    facts_at f.cid.0 fs ≡ Some f
found-get above most fs place f rises found =
    find-place f.cid.0 above most fs rises
    ∙ (ap (λ n. found_with f.cid.0 (slice_get fs n)) (place-get above most fs place f rises found)
    ∙ (ap (found_with f.cid.0) found ∙ ap (λ b. if b then Some f else None) (has_its_id f)))

-- ---- the one with an id, and then the rest

pub found_here : (cid : ℕ) (g f : Facts) (fs : List Facts) → facts_at cid (g ∷ fs) ≡ Some f → has_id cid g ≡ true → g ≡ f
found_here cid g f fs found here = is_found g f (rw here at found)

pub found_later : (cid : ℕ) (g f : Facts) (fs : List Facts) → facts_at cid (g ∷ fs) ≡ Some f → has_id cid g ≡ false → facts_at cid fs ≡ Some f
found_later cid g f fs found other = rw other at found

pub found_id : (cid : ℕ) (fs : List Facts) (f : Facts) → facts_at cid fs ≡ Some f → f.cid.0 ≡ cid
found_id cid [] f found = cc
found_id cid (g ∷ gs) f found = elim (cases_Bool (has_id cid g)) [
  | inl here ↦ subst (λ h. h.cid.0 ≡ cid) (found_here cid g f gs found here) (has_id_is cid g here)
  | inr other ↦ found_id cid gs f (found_later cid g f gs found other)
]

-- what has the id isn't under it
here_is_over : (cid : ℕ) (f : Facts) → has_id cid f ≡ true → under cid f ≡ false
here_is_over cid f h = grind (arith, nat_tests)

under_when_later : (cid above most : ℕ) (g f : Facts) (fs : List Facts) → IdsRise above most (g ∷ fs) → facts_at cid fs ≡ Some f → under cid g ≡ true
under_when_later cid above most g f fs rises found = elim (cases_Bool (under cid g)) [
  | inl low ↦ low
  | inr high ↦ absurd (nothing (sym (none_above cid g.cid.0 most fs rises.1 (over_is cid g high)) ∙ found))
]
  where
    nothing : None ≡ Some f → ⊥
    nothing h = cc

pub set-place : (cid above most : ℕ) (move : Facts → Facts) (fs : List Facts) (f : Facts) → IdsRise above most fs → facts_at cid fs ≡ Some f →
    set fs (id_place cid fs) (move f) ≡ moved_at cid move fs
set-place cid above most move [] f rises found = cc
set-place cid above most move (g ∷ gs) f rises found = elim (cases_Bool (has_id cid g)) [
  | inl here ↦
      let same : g ≡ f = found_here cid g f gs found here in
      rw (here_is_over cid g here, here, sym same)
      (ap (λ l. move g ∷ l) (sym (moved_at-above cid g.cid.0 most move gs rises.1 (at_most (has_id_is cid g here)))))
  | inr other ↦
      let later = found_later cid g f gs found other in
      rw (under_when_later cid above most g f gs rises later, other, one_more (id_place cid gs))
      (ap (λ l. g ∷ l) (set-place cid g.cid.0 most move gs f rises.1 later))
]
  where
    at_most : g.cid.0 ≡ cid → cid ≤ g.cid.0
    at_most h = omega (arith, h)

pub remove-place : (cid above most : ℕ) (fs : List Facts) (f : Facts) → IdsRise above most fs → facts_at cid fs ≡ Some f →
    remove fs (id_place cid fs) ≡ without_at cid fs
remove-place cid above most [] f rises found = cc
remove-place cid above most (g ∷ gs) f rises found = elim (cases_Bool (has_id cid g)) [
  | inl here ↦ rw (here_is_over cid g here, here) (sym (without_at-above cid g.cid.0 most gs rises.1 (at_most (has_id_is cid g here))))
  | inr other ↦
      let later = found_later cid g f gs found other in
      rw (under_when_later cid above most g f gs rises later, other, one_more (id_place cid gs))
      (ap (λ l. g ∷ l) (remove-place cid g.cid.0 most gs f rises.1 later))
]
  where
    at_most : g.cid.0 ≡ cid → cid ≤ g.cid.0
    at_most h = omega (arith, h)

-- ---- ids go on rising

pub IdsRise-push : (above most : ℕ) (fs : List Facts) (f : Facts) → IdsRise above most fs → f.cid.0 ≡ most + 1 →
    IdsRise above (most + 1) (fs ++ f ∷ [])
IdsRise-push above most [] f h e = (omega arith, omega arith)
IdsRise-push above most (g ∷ gs) f h e = (h.0, IdsRise-push g.cid.0 most gs f h.1 e)

IdsRise-lower : (below above most : ℕ) (fs : List Facts) → below ≤ above → IdsRise above most fs → IdsRise below most fs
IdsRise-lower below above most [] le h = omega arith
IdsRise-lower below above most (f ∷ fs) le h = (omega arith, h.1)

IdsRise-pass : (passes : Bool) (above most : ℕ) (f : Facts) (fs : List Facts) → above < f.cid.0 → IdsRise f.cid.0 most fs →
    IdsRise above most (if passes then f ∷ fs else fs)
IdsRise-pass true above most f fs lt h = (lt, h)
IdsRise-pass false above most f fs lt h = IdsRise-lower above f.cid.0 most fs (omega arith) h

pub IdsRise-filter : (p : Facts → Bool) (above most : ℕ) (fs : List Facts) → IdsRise above most fs → IdsRise above most (filter p fs)
IdsRise-filter p above most [] h = h
IdsRise-filter p above most (f ∷ fs) h = IdsRise-pass (p f) above most f (filter p fs) h.0 (IdsRise-filter p f.cid.0 most fs h.1)

pub IdsRise-moved : (cid above most : ℕ) (move : Facts → Facts) (fs : List Facts) → ((f : Facts) → (move f).cid ≡ f.cid) → IdsRise above most fs →
    IdsRise above most (moved_at cid move fs)
IdsRise-moved cid above most move [] keeps h = h
IdsRise-moved cid above most move (f ∷ fs) keeps h = elim (cases_Bool (has_id cid f)) [
  | inl here ↦
      let same : (move f).cid.0 ≡ f.cid.0 = ap (λ c. c.0) (keeps f) in
      rw here (rw same (h.0, IdsRise-moved cid f.cid.0 most move fs keeps h.1))
  | inr other ↦ rw other (h.0, IdsRise-moved cid f.cid.0 most move fs keeps h.1)
]

-- ---- counts

pub count-moved : (p : Facts → Bool) (cid above most : ℕ) (move : Facts → Facts) (fs : List Facts) (f : Facts) → IdsRise above most fs →
    facts_at cid fs ≡ Some f → count_by p (moved_at cid move fs) + cond (p f) 1 0 ≡ count_by p fs + cond (p (move f)) 1 0
count-moved p cid above most move [] f rises found = cc
count-moved p cid above most move (g ∷ gs) f rises found = elim (cases_Bool (has_id cid g)) [
  | inl here ↦
      let same : g ≡ f = found_here cid g f gs found here in
      rw (here, moved_at-above cid g.cid.0 most move gs rises.1 (at_most (has_id_is cid g here)), sym same)
      (omega (arith, sum_by-cons (λ x. cond (p x) 1 0) (move g) gs, sum_by-cons (λ x. cond (p x) 1 0) g gs))
  | inr other ↦ rw other (omega (
    arith,
    count-moved p cid g.cid.0 most move gs f rises.1 (found_later cid g f gs found other),
    sum_by-cons (λ x. cond (p x) 1 0) g (moved_at cid move gs),
    sum_by-cons (λ x. cond (p x) 1 0) g gs,
  ))
]
  where
    at_most : g.cid.0 ≡ cid → cid ≤ g.cid.0
    at_most h = omega (arith, h)

pub count-without : (p : Facts → Bool) (cid above most : ℕ) (fs : List Facts) (f : Facts) → IdsRise above most fs →
    facts_at cid fs ≡ Some f → count_by p (without_at cid fs) + cond (p f) 1 0 ≡ count_by p fs
count-without p cid above most [] f rises found = cc
count-without p cid above most (g ∷ gs) f rises found = elim (cases_Bool (has_id cid g)) [
  | inl here ↦
      let same : g ≡ f = found_here cid g f gs found here in
      rw (here, without_at-above cid g.cid.0 most gs rises.1 (at_most (has_id_is cid g here)), sym same)
      (omega (arith, sum_by-cons (λ x. cond (p x) 1 0) g gs))
  | inr other ↦ rw other (omega (
    arith,
    count-without p cid g.cid.0 most gs f rises.1 (found_later cid g f gs found other),
    sum_by-cons (λ x. cond (p x) 1 0) g (without_at cid gs),
    sum_by-cons (λ x. cond (p x) 1 0) g gs,
  ))
]
  where
    at_most : g.cid.0 ≡ cid → cid ≤ g.cid.0
    at_most h = omega (arith, h)
