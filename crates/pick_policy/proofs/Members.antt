-- What stands in a list, and what a filter keeps of it.
use Rattle.std.proofs.Common.{◌≡◌, suc, zero, Bool, true, false, cond, List, [], ◌∷◌, ◌++◌, refl, sym, ap, ◌∙◌, subst, inl, inr, ◌⊎◌, arith}
use Rattle.std.specs.List.{filter, Contains, AllByRecursion}

abbrev pub Has : {X : Type 0} → List X → X → Type 0
Has [] x = ⊥
Has (y ∷ ys) x = (y ≡ x) ⊎ Has ys x

-- as `Contains` says it by a place
pub Contains-from_Has : {X : Type 0} (xs : List X) (x : X) → Has xs x → Contains xs x
Contains-from_Has [] x h = absurd h
Contains-from_Has (y ∷ ys) x (inl e) = (0, omega (arith), e)
Contains-from_Has (y ∷ ys) x (inr h) =
    let at = Contains-from_Has ys x h in
    (suc at.0, omega (arith, at.1), at.2)

pub Has-from_Contains : {X : Type 0} (xs : List X) (x : X) → Contains xs x → Has xs x
Has-from_Contains [] x h = absurd (omega (arith, h.1))
Has-from_Contains (y ∷ ys) x (zero, inside, e) = inl e
Has-from_Contains (y ∷ ys) x (suc k, inside, e) = inr (Has-from_Contains ys x (k, omega (arith, inside), e))

-- ---- one list behind another

pub Has-front : {X : Type 0} (xs ys : List X) (x : X) → Has xs x → Has (xs ++ ys) x
Has-front [] ys x h = absurd h
Has-front (z ∷ zs) ys x (inl e) = inl e
Has-front (z ∷ zs) ys x (inr h) = inr (Has-front zs ys x h)

pub Has-last : {X : Type 0} (xs : List X) (y : X) → Has (xs ++ y ∷ []) y
Has-last [] y = inl refl
Has-last (z ∷ zs) y = inr (Has-last zs y)

pub Has-cases : {X : Type 0} (xs : List X) (y x : X) → Has (xs ++ y ∷ []) x → Has xs x ⊎ (y ≡ x)
Has-cases [] y x (inl e) = inr e
Has-cases [] y x (inr h) = absurd h
Has-cases (z ∷ zs) y x (inl e) = inl (inl e)
Has-cases (z ∷ zs) y x (inr h) = elim (Has-cases zs y x h) [ inl k ↦ inl (inr k) | inr e ↦ inr e ]

-- ---- filters

pub Has-filter : {X : Type 0} (p : X → Bool) (xs : List X) (x : X) → Has xs x → p x ≡ true → Has (filter p xs) x
Has-filter p [] x h k = absurd h
Has-filter p (y ∷ ys) x (inl e) k = rw (ap p e ∙ k) (inl e)
Has-filter p (y ∷ ys) x (inr h) k =
    elim (p y) as (λ b. Has (cond b (y ∷ filter p ys) (filter p ys)) x) [
      | true ↦ inr (Has-filter p ys x h k)
      | false ↦ Has-filter p ys x h k
    ]

-- what one more element of a filter is
kept_cases : {X : Type 0} (p : X → Bool) (y : X) (ys : List X) (x : X) →
    (Has (filter p ys) x → Has ys x × (p x ≡ true)) → (b : Bool) → p y ≡ b →
    Has (cond b (y ∷ filter p ys) (filter p ys)) x → Has (y ∷ ys) x × (p x ≡ true)
kept_cases p y ys x below true e (inl same) = (inl same, ap p (sym same) ∙ e)
kept_cases p y ys x below true e (inr h) = (inr (below h).0, (below h).1)
kept_cases p y ys x below false e h = (inr (below h).0, (below h).1)

pub Has-from_filter : {X : Type 0} (p : X → Bool) (xs : List X) (x : X) → Has (filter p xs) x → Has xs x × (p x ≡ true)
Has-from_filter p [] x h = absurd h
Has-from_filter p (y ∷ ys) x h = kept_cases p y ys x (Has-from_filter p ys x) (p y) refl h

pub All-at_Has : {X : Type 0} (P : X → Type 0) (xs : List X) (x : X) → AllByRecursion P xs → Has xs x → P x
All-at_Has P [] x all h = absurd h
All-at_Has P (y ∷ ys) x all (inl e) = subst P e all.0
All-at_Has P (y ∷ ys) x all (inr h) = All-at_Has P ys x all.1 h

pub All-from_Has : {X : Type 0} (P : X → Type 0) (xs : List X) → ((x : X) → Has xs x → P x) → AllByRecursion P xs
All-from_Has P [] f = tt
All-from_Has P (y ∷ ys) f = (f y (inl refl), All-from_Has P ys (λ x h. f x (inr h)))
