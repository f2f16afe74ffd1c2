-- What is found by an id after a change of the list.
use Rattle.std.proofs.Common.{◌≡◌, ℕ, ◌≤◌, ◌==◌, Bool, true, false, if◌then◌else◌, List, [], ◌∷◌, ◌++◌, Some, None, refl, sym, ap, ◌∙◌, inl, inr, ◌⊎◌, arith}
use Rattle.std.specs.Option.{option_map}
use Rattle.std.proofs.lemmas.Bool.{cases_Bool}
use Rattle.std.proofs.lemmas.Bool.Decides.{nat_tests}
use Rattle.net_base.specs.declared.address.Addr.{Addr}
use Rattle.net_base.specs.declared.connection.Facts.{Facts}
use Rattle.conn_state.specs.Use.{has_id, facts_at, is_live_at, live_at}
use Rattle.conn_table.specs.Table.{IdsRise, moved_at, without_at}
use Rattle.conn_table.proofs.IdPlaces.{none_above}

-- what a move makes of the one with an id
abbrev pub turned : ℕ → (Facts → Facts) → Facts → Facts
turned cid move f = if has_id cid f then move f else f

turned_id : (c cid : ℕ) (move : Facts → Facts) (f : Facts) → (move f).cid ≡ f.cid → has_id c (turned cid move f) ≡ has_id c f
turned_id c cid move f keeps = elim (cases_Bool (has_id cid f)) [
  | inl here ↦ rw here (ap (λ i. i.0 == c) keeps)
  | inr other ↦ rw other refl
]

pub found-moved : (c cid : ℕ) (move : Facts → Facts) (fs : List Facts) → ((f : Facts) → (move f).cid ≡ f.cid) →
    facts_at c (moved_at cid move fs) ≡ option_map (turned cid move) (facts_at c fs)
found-moved c cid move [] keeps = refl
found-moved c cid move (f ∷ fs) keeps = step _ _ (turned_id c cid move f (keeps f)) (found-moved c cid move fs keeps)
  where
    step : (a b : Bool) → a ≡ b → facts_at c (moved_at cid move fs) ≡ option_map (turned cid move) (facts_at c fs) →
        (if a then Some (turned cid move f) else facts_at c (moved_at cid move fs)) ≡ option_map (turned cid move) (if b then Some f else facts_at c fs)
    step a true e later = rw e refl
    step a false e later = rw e later

other_id : (c cid : ℕ) (f : Facts) → has_id c f ≡ true → (cid == c) ≡ false → has_id cid f ≡ false
other_id c cid f h k = grind (arith, nat_tests)

pub found-without : (c cid : ℕ) (fs : List Facts) → (cid == c) ≡ false → facts_at c (without_at cid fs) ≡ facts_at c fs
found-without c cid [] apart = refl
found-without c cid (f ∷ fs) apart = elim (cases_Bool (has_id c f)) [
  | inl here ↦ rw (other_id c cid f here apart, here) refl
  | inr other ↦ elim (cases_Bool (has_id cid f)) [
    | inl gone ↦ rw (gone, other) (found-without c cid fs apart)
    | inr stays ↦ rw (stays, other) (found-without c cid fs apart)
  ]
]

pub found-gone : (cid : ℕ) (fs : List Facts) → facts_at cid (without_at cid fs) ≡ None
found-gone cid [] = refl
found-gone cid (f ∷ fs) = elim (cases_Bool (has_id cid f)) [
  | inl here ↦ rw here (found-gone cid fs)
  | inr other ↦ rw (other, other) (found-gone cid fs)
]

pub found-push : (c : ℕ) (fs : List Facts) (new f : Facts) → facts_at c fs ≡ Some f → facts_at c (fs ++ new ∷ []) ≡ Some f
found-push c [] new f found = cc
found-push c (g ∷ gs) new f found = elim (cases_Bool (has_id c g)) [
  | inl here ↦ rw here (rw here at found)
  | inr other ↦ rw other (found-push c gs new f (rw other at found))
]

is_found : (g f : Facts) → Some g ≡ Some f → g ≡ f
is_found g f e = cc

pub found_in_push : (c : ℕ) (fs : List Facts) (new f : Facts) → facts_at c (fs ++ new ∷ []) ≡ Some f → (facts_at c fs ≡ Some f) ⊎ (new ≡ f)
found_in_push c [] new f found = elim (cases_Bool (has_id c new)) [
  | inl here ↦ inr (is_found new f (rw here at found))
  | inr other ↦ absurd (nothing (rw other at found))
]
  where
    nothing : None ≡ Some f → ⊥
    nothing h = cc
found_in_push c (g ∷ gs) new f found = elim (cases_Bool (has_id c g)) [
  | inl here ↦ inl (rw here (rw here at found))
  | inr other ↦ later other (found_in_push c gs new f (rw other at found))
]
  where
    later : has_id c g ≡ false → (facts_at c gs ≡ Some f) ⊎ (new ≡ f) → (facts_at c (g ∷ gs) ≡ Some f) ⊎ (new ≡ f)
    later other (inl old) = inl (rw other old)
    later other (inr e) = inr e

-- what is live at an address is found by its id
pub live_by_id : (addr : Addr) (above most : ℕ) (fs : List Facts) (f : Facts) → IdsRise above most fs → live_at addr fs ≡ Some f → facts_at f.cid.0 fs ≡ Some f
live_by_id addr above most [] f rises found = cc
live_by_id addr above most (g ∷ gs) f rises found = elim (cases_Bool (is_live_at addr g)) [
  | inl here ↦ first (is_found g f (rw here at found))
  | inr other ↦ behind (live_by_id addr g.cid.0 most gs f rises.1 (rw other at found)) (cases_Bool (has_id f.cid.0 g))
]
  where
    nothing : None ≡ Some f → ⊥
    nothing h = cc

    itself : (h : Facts) → has_id h.cid.0 h ≡ true
    itself h = grind (arith, nat_tests)

    first : g ≡ f → facts_at f.cid.0 (g ∷ gs) ≡ Some f
    first same = rw (sym same) (rw (itself g) refl)

    at_most : has_id f.cid.0 g ≡ true → f.cid.0 ≤ g.cid.0
    at_most h = grind (arith, nat_tests)

    behind : facts_at f.cid.0 gs ≡ Some f → (has_id f.cid.0 g ≡ true) ⊎ (has_id f.cid.0 g ≡ false) → facts_at f.cid.0 (g ∷ gs) ≡ Some f
    behind later (inr other) = rw other later
    behind later (inl here) = absurd (nothing (sym (none_above f.cid.0 g.cid.0 most gs rises.1 (at_most here)) ∙ later))
