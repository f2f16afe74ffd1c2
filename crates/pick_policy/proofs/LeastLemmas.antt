-- The least of several things, by a strict order.
use Rattle.std.proofs.Common.{◌≡◌, Bool, true, false, cond, List, [], ◌∷◌, refl, sym, ◌∙◌, subst, inl, inr, ◌⊎◌}
use Rattle.std.specs.List.{best_of, AllByRecursion}
use Rattle.std.specs.List.Sorted.{IsPermutation}
use Rattle.std.proofs.lemmas.Bool.{false≢true, cases_Bool, false_from_ne_true}
use Rattle.std.proofs.lemmas.List.Sorted.{IsPermutation-sym, Contains-permutation}
use Rattle.pick_policy.proofs.Members.{Has, Has-from_Contains, Contains-from_Has}

pub record IsStrict {X : Type 0} (below : X → X → Bool) : Type 0 where
  pub irreflexive : (x : X) → below x x ≡ false
  pub transitive : (x y z : X) → below x y ≡ true → below y z ≡ true → below x z ≡ true

-- each is below all after it
abbrev pub Rises : {X : Type 0} → (X → X → Bool) → List X → Type 0
Rises below [] = Unit {0}
Rises below (x ∷ xs) = AllByRecursion (λ y. below x y ≡ true) xs × Rises below xs

pub record SameMembers {X : Type 0} (xs ys : List X) : Type 0 where
  pub forth : (x : X) → Has xs x → Has ys x
  pub back : (x : X) → Has ys x → Has xs x

pub same_members : {X : Type 0} (xs ys : List X) → IsPermutation xs ys → SameMembers xs ys
same_members xs ys moved = record {
  forth = λ x h. Has-from_Contains ys x (Contains-permutation xs ys x moved (Contains-from_Has xs x h));
  back = λ x h. Has-from_Contains xs x (Contains-permutation ys xs x (IsPermutation-sym xs ys moved) (Contains-from_Has ys x h));
}

-- ---- the least of a list that isn't empty

abbrev pub AtMost : {X : Type 0} → (X → X → Bool) → X → X → Type 0
AtMost below x y = (x ≡ y) ⊎ (below x y ≡ true)

module _ {X : Type 0} {below : X → X → Bool} (strict : IsStrict below) where
  pub never_both : (x y : X) → below x y ≡ true → below y x ≡ false
  never_both x y h = false_from_ne_true (below y x)
      (λ k. false≢true (sym (strict.irreflexive x) ∙ strict.transitive x y x h k))

  pub at_most_chain : (x y z : X) → AtMost below x y → AtMost below y z → AtMost below x z
  at_most_chain x y z (inl e) k = subst (λ v. AtMost below v z) (sym e) k
  at_most_chain x y z (inr h) (inl e) = inr (subst (λ v. below x v ≡ true) e h)
  at_most_chain x y z (inr h) (inr k) = inr (strict.transitive x y z h k)

  not_above : (x y : X) → AtMost below x y → below y x ≡ false
  not_above x y (inl e) = subst (λ v. below v x ≡ false) e (strict.irreflexive x)
  not_above x y (inr h) = never_both x y h

  -- nothing that isn't below y is below what is at most y
  stays_above : (x y z : X) → below x y ≡ false → AtMost below z y → below x z ≡ false
  stays_above x y z h (inl e) = subst (λ v. below x v ≡ false) (sym e) h
  stays_above x y z h (inr k) = false_from_ne_true (below x z)
      (λ l. false≢true (sym h ∙ strict.transitive x z y l k))

  abbrev better : X → X → X
  better x a = cond (below x a) x a

  better_at_most : (x a : X) → AtMost below (better x a) a
  better_at_most x a = elim (cases_Bool (below x a)) [
    | inl e ↦ rw e (inr e)
    | inr e ↦ rw e (inl refl)
  ]

  better_not_above : (x a best : X) → AtMost below best (better x a) → below x best ≡ false
  better_not_above x a best h = elim (cases_Bool (below x a)) [
    | inl e ↦ not_above best x (subst (λ b. AtMost below best (cond b x a)) e h)
    | inr e ↦ stays_above x a best e (subst (λ b. AtMost below best (cond b x a)) e h)
  ]

  pub best_at_most : (a : X) (xs : List X) → AtMost below (best_of below a xs) a
  best_at_most a [] = inl refl
  best_at_most a (x ∷ xs) = at_most_chain _ (better x a) a (best_at_most (better x a) xs) (better_at_most x a)

  -- none of the list is below the least
  pub best_is_least : (a : X) (xs : List X) (y : X) → Has (a ∷ xs) y → below y (best_of below a xs) ≡ false
  best_is_least a xs y (inl e) = subst (λ v. below v (best_of below a xs) ≡ false) e (not_above _ a (best_at_most a xs))
  best_is_least a [] y (inr h) = absurd h
  best_is_least a (x ∷ xs) y (inr (inl e)) =
      subst (λ v. below v (best_of below a (x ∷ xs)) ≡ false) e (better_not_above x a _ (best_at_most (better x a) xs))
  best_is_least a (x ∷ xs) y (inr (inr h)) = best_is_least (better x a) xs y (inr h)

better_is_one : {X : Type 0} (b : Bool) (x a best : X) → cond b x a ≡ best → Has (a ∷ x ∷ []) best
better_is_one true x a best e = inr (inl e)
better_is_one false x a best e = inl e

-- the least is in the list
pub best_is_in : {X : Type 0} (below : X → X → Bool) (a : X) (xs : List X) → Has (a ∷ xs) (best_of below a xs)
best_is_in below a [] = inl refl
best_is_in below a (x ∷ xs) = elim (best_is_in below (cond (below x a) x a) xs) [
  | inl e ↦ elim (better_is_one (below x a) x a _ e) [
    | inl h ↦ inl h
    | inr h ↦ elim h [ inl k ↦ inr (inl k) | inr none ↦ absurd none ]
  ]
  | inr h ↦ inr (inr h)
]
