-- What the least of several things are: those that fewer than so many are below, rising.
use Rattle.std.proofs.Common.{◌≡◌, ℕ, suc, zero, ◌<◌, ◌≤◌, min, Bool, true, false, cond, List, [], ◌∷◌, length, refl, sym, ap, ◌∙◌, subst, inl, inr, ◌⊎◌, arith}
use Rattle.std.specs.List.{filter, best_of, AllByRecursion, AllPairs, count_by}
use Rattle.std.specs.List.Sorted.{IsPermutation}
use Rattle.std.proofs.lemmas.Bool.{false≢true}
use Rattle.std.proofs.lemmas.List.Elements.{All-from_recursion}
use Rattle.std.proofs.lemmas.List.Kept.{AllPairs-cons}
use Rattle.std.proofs.lemmas.List.Sorted.{IsPermutation-refl, IsPermutation-cons, IsPermutation-trans, IsPermutation-middle, length_permutation, sum_by-IsPermutation, Contains-permutation}
use Rattle.std.proofs.lemmas.List.Sums.{sum_by-cons}
use Rattle.pick_policy.specs.Least.{least_by, AreLeast}
use Rattle.pick_policy.proofs.Members.{Has, Has-from_Contains, Contains-from_Has, Has-from_filter, All-at_Has, All-from_Has}
use Rattle.pick_policy.proofs.LeastLemmas.{IsStrict, Rises, best_is_in, best_is_least}

-- any two are told apart
abbrev pub AreComparable : {X : Type 0} → (X → X → Bool) → List X → Type 0
AreComparable below [] = Unit {0}
AreComparable below (x ∷ xs) = AllByRecursion (λ y. (below x y ≡ true) ⊎ (below y x ≡ true)) xs × AreComparable below xs

-- ---- facts that need no order

pub least_by-within : {X : Type 0} (below : X → X → Bool) (k : ℕ) (xs : List X) (x : X) → Has (least_by below k xs) x → Has xs x
unfolding least_by
least_by-within below zero xs x h = absurd h
least_by-within below (suc k) [] x h = absurd h
least_by-within below (suc k) (y ∷ ys) x (inl e) = subst (λ v. Has (y ∷ ys) v) e (best_is_in below y ys)
least_by-within below (suc k) (y ∷ ys) x (inr h) =
    (Has-from_filter (below (best_of below y ys)) (y ∷ ys) x
    (least_by-within below k (filter (below (best_of below y ys)) (y ∷ ys)) x h)).0

pub length-least_by : {X : Type 0} (below : X → X → Bool) (k : ℕ) (xs : List X) → length (least_by below k xs) ≤ k
unfolding least_by
length-least_by below zero xs = omega arith
length-least_by below (suc k) [] = omega arith
length-least_by below (suc k) (y ∷ ys) =
    omega (arith, length-least_by below k (filter (below (best_of below y ys)) (y ∷ ys)))

AreComparable-cond : {X : Type 0} (below : X → X → Bool) (b : Bool) (x : X) (xs : List X) →
    AllByRecursion (λ y. (below x y ≡ true) ⊎ (below y x ≡ true)) xs → AreComparable below xs → AreComparable below (cond b (x ∷ xs) xs)
AreComparable-cond below true x xs h k = (h, k)
AreComparable-cond below false x xs h k = k

pub AreComparable-filter : {X : Type 0} (below : X → X → Bool) (p : X → Bool) (xs : List X) →
    AreComparable below xs → AreComparable below (filter p xs)
AreComparable-filter below p [] h = tt
AreComparable-filter below p (x ∷ xs) h = AreComparable-cond below (p x) x (filter p xs)
    (All-from_Has (λ y. (below x y ≡ true) ⊎ (below y x ≡ true)) (filter p xs) (λ y k. All-at_Has _ xs y h.0 (Has-from_filter p xs y k).0))
    (AreComparable-filter below p xs h.1)

filter_all : {X : Type 0} (p : X → Bool) (xs : List X) → AllByRecursion (λ x. p x ≡ true) xs → filter p xs ≡ xs
filter_all p [] h = refl
filter_all p (x ∷ xs) h = rw h.0 (ap (λ l. x ∷ l) (filter_all p xs h.1))

pub count_none : {X : Type 0} (p : X → Bool) (xs : List X) → AllByRecursion (λ x. p x ≡ false) xs → count_by p xs ≡ 0
count_none p [] h = refl
count_none p (x ∷ xs) h = sum_by-cons (λ y. cond (p y) 1 0) x xs ∙ rw h.0 (omega (arith, count_none p xs h.1))

exchange : {X : Type 0} (x y : X) (xs : List X) → IsPermutation (x ∷ y ∷ xs) (y ∷ x ∷ xs)
exchange x y xs = IsPermutation-middle (x ∷ []) y xs

-- ---- with a strict order

module _ {X : Type 0} {below : X → X → Bool} (strict : IsStrict below) where
  above_rest : (b : X) (xs : List X) → AllByRecursion (λ y. (below b y ≡ true) ⊎ (below y b ≡ true)) xs →
      ((y : X) → Has xs y → below y b ≡ false) → AllByRecursion (λ y. below b y ≡ true) xs
  above_rest b [] h least = tt
  above_rest b (y ∷ ys) h least = (
    elim h.0 [ inl above ↦ above | inr under ↦ absurd (false≢true (sym (least y (inl refl)) ∙ under)) ],
    above_rest b ys h.1 (λ z k. least z (inr k)),
  )

  -- the least of distinct things, and the things above it, are all of them
  pub least_taken_out : (b : X) (xs : List X) → AreComparable below xs → Has xs b →
      ((y : X) → Has xs y → below y b ≡ false) → IsPermutation xs (b ∷ filter (below b) xs)
  least_taken_out b [] told h least = absurd h
  least_taken_out b (x ∷ xs) told (inl e) least =
      let P : X → Type 0 = λ v. IsPermutation (v ∷ xs) (b ∷ filter (below b) (v ∷ xs)) in
      let least' : (y : X) → Has xs y → below y b ≡ false = λ y k. least y (inr k) in
      let told' : AllByRecursion (λ y. (below b y ≡ true) ⊎ (below y b ≡ true)) xs = subst (λ v. AllByRecursion (λ y. (below v y ≡ true) ⊎ (below y v ≡ true)) xs) e told.0 in
      subst P (sym e) (rw (strict.irreflexive b) (rw (filter_all (below b) xs (above_rest b xs told' least')) (IsPermutation-refl (b ∷ xs))))
  least_taken_out b (x ∷ xs) told (inr h) least =
      let above : below b x ≡ true = elim (All-at_Has _ xs b told.0 h) [
        | inl under ↦ absurd (false≢true (sym (least x (inl refl)) ∙ under))
        | inr above ↦ above
      ] in
      let rest = least_taken_out b xs told.1 h (λ y k. least y (inr k)) in
      rw above (IsPermutation-trans _ _ _ (IsPermutation-cons x xs (b ∷ filter (below b) xs) rest) (exchange x b (filter (below b) xs)))

  -- ---- what the least so many are

  pub least_by-rises : (k : ℕ) (xs : List X) → Rises below (least_by below k xs)
  unfolding least_by
  least_by-rises zero xs = tt
  least_by-rises (suc k) [] = tt
  least_by-rises (suc k) (y ∷ ys) =
      let b : X = best_of below y ys in (
        All-from_Has (λ z. below b z ≡ true) _ (λ z h. (Has-from_filter (below b) (y ∷ ys) z (least_by-within below k _ z h)).1),
        least_by-rises k (filter (below b) (y ∷ ys)),
      )

  count_above : (b x : X) (xs : List X) → IsPermutation xs (b ∷ filter (below b) xs) → below b x ≡ true →
      count_by (λ y. below y x) xs ≡ suc (count_by (λ y. below y x) (filter (below b) xs))
  count_above b x xs all above =
      sym (sum_by-IsPermutation (λ y. cond (below y x) 1 0) xs (b ∷ filter (below b) xs) all)
      ∙ (sum_by-cons (λ y. cond (below y x) 1 0) b (filter (below b) xs) ∙ rw above (omega arith))

  abbrev IsPick : ℕ → List X → X → Type 0
  IsPick k xs x = Has xs x × (count_by (λ y. below y x) xs < k)

  pub least_by-members : (k : ℕ) (xs : List X) → AreComparable below xs → (x : X) →
      (Has (least_by below k xs) x → IsPick k xs x) × (IsPick k xs x → Has (least_by below k xs) x)
  unfolding least_by
  least_by-members zero xs told x = (λ h. absurd h, λ h. absurd (omega (arith, h.1)))
  least_by-members (suc k) [] told x = (λ h. absurd h, λ h. absurd h.0)
  least_by-members (suc k) (z ∷ zs) told x =
      let xs : List X = z ∷ zs in
      let b : X = best_of below z zs in
      let inside : Has xs b = best_is_in below z zs in
      let least : (y : X) → Has xs y → below y b ≡ false = best_is_least strict z zs in
      let all : IsPermutation xs (b ∷ filter (below b) xs) = least_taken_out b xs told inside least in
      let later = least_by-members k (filter (below b) xs) (AreComparable-filter below (below b) xs told) x in (
        λ h. elim h [
          | inl e ↦ subst (IsPick (suc k) xs) e (inside, omega (arith, count_none (λ y. below y b) xs (All-from_Has (λ y. below y b ≡ false) xs least)))
          | inr h ↦
              let pick : IsPick k (filter (below b) xs) x = later.0 h in
              let kept = Has-from_filter (below b) xs x pick.0 in
              (kept.0, omega (arith, count_above b x xs all kept.1, pick.1))
        ],
        λ h. elim (Has-from_Contains (b ∷ filter (below b) xs) x (Contains-permutation xs _ x all (Contains-from_Has xs x h.0))) [
          | inl e ↦ inl e
          | inr k' ↦ inr (later.1 (k', omega (arith, count_above b x xs all (Has-from_filter (below b) xs x k').1, h.1)))
        ],
      )

  pub least_by-number : (k : ℕ) (xs : List X) → AreComparable below xs → length (least_by below k xs) ≡ min k (length xs)
  unfolding least_by
  least_by-number zero xs told = omega arith
  least_by-number (suc k) [] told = omega arith
  least_by-number (suc k) (z ∷ zs) told =
      let xs : List X = z ∷ zs in
      let b : X = best_of below z zs in
      let all : IsPermutation xs (b ∷ filter (below b) xs) = least_taken_out b xs told (best_is_in below z zs) (best_is_least strict z zs) in
      let sizes = length_permutation xs (b ∷ filter (below b) xs) all in
      omega (arith, least_by-number k (filter (below b) xs) (AreComparable-filter below (below b) xs told))

AllPairs-from_Rises : {X : Type 0} (below : X → X → Bool) (xs : List X) → Rises below xs → AllPairs (λ x y. below x y ≡ true) xs
AllPairs-from_Rises below [] h = λ i j d lt inside. absurd (omega (arith, inside))
AllPairs-from_Rises below (x ∷ xs) h = AllPairs-cons (λ x y. below x y ≡ true) x xs
    (All-from_recursion (λ y. below x y ≡ true) xs h.0) (AllPairs-from_Rises below xs h.1)

pub are_least : {X : Type 0} {below : X → X → Bool} → IsStrict below → (k : ℕ) (xs : List X) → AreComparable below xs →
    AreLeast below k xs (least_by below k xs)
are_least {X} {below} strict k xs told = record {
  members = λ x.
      let both = least_by-members strict k xs told x in (
        λ h. let pick = both.0 (Has-from_Contains (least_by below k xs) x h) in (Contains-from_Has xs x pick.0, pick.1),
        λ h. Contains-from_Has (least_by below k xs) x (both.1 (Has-from_Contains xs x h.0, h.1)),
      );
  rising = AllPairs-from_Rises below (least_by below k xs) (least_by-rises strict k xs);
  number = least_by-number strict k xs told;
}
