-- Distinct addresses, and things that have them.
use Rattle.std.proofs.Common.{◌≡◌, ℕ, ◌≤◌, ◌+◌, Bool, true, false, cond, List, [], ◌∷◌, map, sym, ap, ◌∙◌, subst, inl, inr, ◌⊎◌, arith}
use Rattle.std.specs.List.{AllByRecursion, IsDistinct, count_by}
use Rattle.std.specs.List.Sorted.{IsPermutation}
use Rattle.std.proofs.lemmas.Bool.{cases_Bool}
use Rattle.std.proofs.lemmas.List.Sorted.{sum_by-IsPermutation}
use Rattle.std.proofs.lemmas.List.Sums.{sum_by-cons}
use Rattle.net_base.specs.Address.{same_address}
use Rattle.net_base.specs.declared.address.Addr.{Addr}
use Rattle.net_base.proofs.AddressOrder.{same_address-is, same_address-itself}
use Rattle.pick_policy.proofs.LeastLaws.{AreComparable, count_none}

abbrev times : Addr → List Addr → ℕ
times a = count_by (same_address a)

times-cons : (a x : Addr) (xs : List Addr) (b : Bool) → same_address a x ≡ b → times a (x ∷ xs) ≡ cond b 1 0 + times a xs
times-cons a x xs b e = sum_by-cons (λ y. cond (same_address a y) 1 0) x xs ∙ ap (λ v. cond v 1 0 + times a xs) e

-- each distinct address stands there once at most
at_most_once : (xs : List Addr) → IsDistinct same_address xs → (a : Addr) → times a xs ≤ 1
unfolding IsDistinct
at_most_once [] h a = omega arith
at_most_once (x ∷ xs) h a = elim (cases_Bool (same_address a x)) [
  | inl e ↦
      let none : times a xs ≡ 0 = count_none (same_address a) xs (subst (λ v. AllByRecursion (λ y. same_address v y ≡ false) xs) (sym (same_address-is a x e)) h.0) in
      omega (arith, times-cons a x xs true e)
  | inr e ↦ omega (arith, times-cons a x xs false e, at_most_once xs h.1 a)
]

none_there : (a : Addr) (xs : List Addr) → times a xs ≡ 0 → AllByRecursion (λ y. same_address a y ≡ false) xs
none_there a [] h = tt
none_there a (x ∷ xs) h = elim (cases_Bool (same_address a x)) [
  | inl e ↦ absurd (omega (arith, times-cons a x xs true e))
  | inr e ↦ (e, none_there a xs (omega (arith, times-cons a x xs false e)))
]

distinct_from_times : (xs : List Addr) → ((a : Addr) → times a xs ≤ 1) → IsDistinct same_address xs
unfolding IsDistinct
distinct_from_times [] h = tt
distinct_from_times (x ∷ xs) h = (
  none_there x xs (omega (arith, times-cons x x xs true (same_address-itself x), h x)),
  distinct_from_times xs (λ a. omega (arith, sum_by-cons (λ y. cond (same_address a y) 1 0) x xs, h a)),
)

pub IsDistinct-permutation : (xs ys : List Addr) → IsPermutation xs ys → IsDistinct same_address xs → IsDistinct same_address ys
IsDistinct-permutation xs ys moved h = distinct_from_times ys
    (λ a. omega (arith, sum_by-IsPermutation (λ y. cond (same_address a y) 1 0) xs ys moved, at_most_once xs h a))

-- ---- things with distinct addresses are told apart by an order that tells apart what has other addresses

abbrev pub Connects : {X : Type 0} → (X → Addr) → (X → X → Bool) → Type 0
Connects {X} key below = (x y : X) → same_address (key x) (key y) ≡ false → below x y ≡ false → below y x ≡ true

told_from_one : {X : Type 0} (key : X → Addr) (below : X → X → Bool) → Connects key below → (x : X) (xs : List X) →
    AllByRecursion (λ a. same_address (key x) a ≡ false) (map key xs) →
    AllByRecursion (λ y. (below x y ≡ true) ⊎ (below y x ≡ true)) xs
told_from_one key below connected x [] h = tt
told_from_one key below connected x (y ∷ ys) h = (
  elim (cases_Bool (below x y)) [ inl e ↦ inl e | inr e ↦ inr (connected x y h.0 e) ],
  told_from_one key below connected x ys h.1,
)

pub AreComparable-from_distinct : {X : Type 0} (key : X → Addr) (below : X → X → Bool) → Connects key below → (xs : List X) →
    IsDistinct same_address (map key xs) → AreComparable below xs
unfolding IsDistinct
AreComparable-from_distinct key below connected [] h = tt
AreComparable-from_distinct key below connected (x ∷ xs) h =
    (told_from_one key below connected x xs h.0, AreComparable-from_distinct key below connected xs h.1)
