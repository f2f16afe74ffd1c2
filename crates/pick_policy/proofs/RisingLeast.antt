-- The least of several things are the first of them in rising order.
use Rattle.std.proofs.Common.{◌≡◌, ℕ, suc, zero, ◌≤◌, Bool, true, false, List, [], ◌∷◌, take, length, refl, sym, ap, ◌∙◌, subst, inl, inr, ◌⊎◌, arith}
use Rattle.std.specs.List.{filter, best_of, AllByRecursion}
use Rattle.std.proofs.lemmas.Bool.{false≢true}
use Rattle.std.proofs.lemmas.List.{length-take}
use Rattle.pick_policy.specs.Least.{least_by}
use Rattle.pick_policy.proofs.Members.{Has, Has-filter, Has-from_filter, All-at_Has, All-from_Has}
use Rattle.pick_policy.proofs.LeastLemmas.{IsStrict, Rises, SameMembers, best_is_in, best_is_least}

-- things of a list in rising order, at most so many, and as many where some of the list are above them all
pub record AreFirst {X : Type 0} (below : X → X → Bool) (k : ℕ) (xs firsts : List X) : Type 0 where
  pub rising : Rises below firsts
  pub number : length firsts ≤ k
  pub within : (x : X) → Has firsts x → Has xs x
  pub others : (x : X) → Has xs x → Has firsts x ⊎ (AllByRecursion (λ y. below y x ≡ true) firsts × (length firsts ≡ k))

module _ {X : Type 0} {below : X → X → Bool} (strict : IsStrict below) where
  is_first : (a b : X) (S : List X) → Rises below (a ∷ S) → Has (a ∷ S) b → below a b ≡ false → b ≡ a
  is_first a b S rises (inl e) least = sym e
  is_first a b S rises (inr h) least = absurd (false≢true (sym least ∙ All-at_Has (λ y. below a y ≡ true) S b rises.0 h))

  is_later : (a x : X) (S : List X) → Has (a ∷ S) x → below a x ≡ true → Has S x
  is_later a x S (inl e) above = absurd (false≢true (sym (subst (λ v. below a v ≡ false) e (strict.irreflexive a)) ∙ above))
  is_later a x S (inr h) above = h

  best_is_first : (k : ℕ) (x a : X) (xs S : List X) → AreFirst below k (x ∷ xs) (a ∷ S) → best_of below x xs ≡ a
  best_is_first k x a xs S first =
      let b : X = best_of below x xs in
      let least : below a b ≡ false = best_is_least strict x xs a (first.within a (inl refl)) in
      elim (first.others b (best_is_in below x xs)) [
        | inl h ↦ is_first a b S first.rising h least
        | inr above ↦ absurd (false≢true (sym least ∙ above.0.0))
      ]

  later_first : (k : ℕ) (xs S : List X) (a : X) → AreFirst below (suc k) xs (a ∷ S) → AreFirst below k (filter (below a) xs) S
  later_first k xs S a first = record {
    rising = first.rising.1;
    number = omega (arith, first.number);
    within = λ x h. Has-filter (below a) xs x (first.within x (inr h)) (All-at_Has (λ y. below a y ≡ true) S x first.rising.0 h);
    others = λ x h.
        let kept = Has-from_filter (below a) xs x h in
        elim (first.others x kept.0) [
          | inl there ↦ inl (is_later a x S there kept.1)
          | inr above ↦ inr (above.0.1, omega (arith, above.1))
        ];
  }

  pub least_by-first : (k : ℕ) (xs S : List X) → AreFirst below k xs S → least_by below k xs ≡ S
  unfolding least_by
  least_by-first zero xs [] first = refl
  least_by-first zero xs (a ∷ S) first = absurd (omega (arith, first.number))
  least_by-first (suc k) [] [] first = refl
  least_by-first (suc k) [] (a ∷ S) first = absurd (first.within a (inl refl))
  least_by-first (suc k) (x ∷ xs) [] first = elim (first.others x (inl refl)) [
    | inl none ↦ absurd none
    | inr above ↦ absurd (omega (arith, above.1))
  ]
  least_by-first (suc k) (x ∷ xs) (a ∷ S) first =
      let rest = least_by-first k (filter (below a) (x ∷ xs)) S (later_first k (x ∷ xs) S a first) in
      ap (λ v. v ∷ least_by below k (filter (below v) (x ∷ xs))) (best_is_first (suc k) x a xs S first) ∙ ap (λ l. a ∷ l) rest

  -- ---- of the same things in rising order, the first so many

  pub Has-take : (k : ℕ) (S : List X) (x : X) → Has (take k S) x → Has S x
  Has-take zero S x h = absurd h
  Has-take (suc k) [] x h = absurd h
  Has-take (suc k) (a ∷ S) x (inl e) = inl e
  Has-take (suc k) (a ∷ S) x (inr h) = inr (Has-take k S x h)

  pub Rises-take : (k : ℕ) (S : List X) → Rises below S → Rises below (take k S)
  Rises-take zero S rises = tt
  Rises-take (suc k) [] rises = tt
  Rises-take (suc k) (a ∷ S) rises = (
    All-from_Has (λ y. below a y ≡ true) (take k S) (λ y h. All-at_Has (λ z. below a z ≡ true) S y rises.0 (Has-take k S y h)),
    Rises-take k S rises.1,
  )

  pub taken_or_above : (k : ℕ) (S : List X) (x : X) → Rises below S → Has S x →
      Has (take k S) x ⊎ (AllByRecursion (λ y. below y x ≡ true) (take k S) × (length (take k S) ≡ k))
  taken_or_above zero S x rises h = inr (tt, refl)
  taken_or_above (suc k) [] x rises h = absurd h
  taken_or_above (suc k) (a ∷ S) x rises (inl e) = inl (inl e)
  taken_or_above (suc k) (a ∷ S) x rises (inr h) = elim (taken_or_above k S x rises.1 h) [
    | inl there ↦ inl (inr there)
    | inr above ↦ inr ((All-at_Has (λ y. below a y ≡ true) S x rises.0 h, above.0), omega (arith, above.1))
  ]

  pub least_by-rising : (k : ℕ) (xs S : List X) → SameMembers xs S → Rises below S → least_by below k xs ≡ take k S
  least_by-rising k xs S same rises = least_by-first k xs (take k S) (record {
    rising = Rises-take k S rises;
    number = omega (arith, length-take k S);
    within = λ x h. same.back x (Has-take k S x h);
    others = λ x h. taken_or_above k S x rises (same.forth x h);
  })
