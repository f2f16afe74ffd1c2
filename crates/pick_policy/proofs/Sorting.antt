-- Sorted by score and address, the candidates are the least of them.
use Rattle.std.proofs.Common.{◌≡◌, ℕ, suc, zero, ◌<◌, Bool, true, false, cond, List, [], ◌∷◌, map, length, get_or, refl, add-one, sym, ap, ◌∙◌, subst, inl, arith}
use Rattle.std.specs.List.{AllByRecursion, IsDistinct, best_of, filter}
use Rattle.std.specs.List.Sorted.{IsPermutation, IsSortedBy}
use Rattle.std.proofs.lemmas.List.Sorted.{IsPermutation-map, length_permutation}
use Rattle.net_base.specs.Address.{same_address}
use Rattle.net_base.specs.declared.address.Addr.{Addr}
use Rattle.pick_policy.specs.Least.{least_by}
use Rattle.pick_policy.specs.Ordered.{scored_below}
use Rattle.pick_policy.specs.declared.scored.Scored.{Scored}
use Rattle.net_base.proofs.AddressOrder.{other_address-turn}
use Rattle.pick_policy.proofs.Distinct.{IsDistinct-permutation}
use Rattle.pick_policy.proofs.LeastLemmas.{Rises, same_members}
use Rattle.pick_policy.proofs.Members.{All-at_Has, All-from_Has}
use Rattle.pick_policy.proofs.RisingLeast.{least_by-first}
use Rattle.pick_policy.proofs.ScoreOrder.{scored_strict, scored_connect}

abbrev address_of : Scored → Addr
address_of s = s.addr

above_first : (x y : Scored) (S : List Scored) → scored_below x y ≡ true → Rises scored_below (y ∷ S) →
    AllByRecursion (λ z. scored_below x z ≡ true) (y ∷ S)
above_first x y S h rises = (
  h,
  All-from_Has (λ z. scored_below x z ≡ true) S
      (λ z k. scored_strict.transitive x y z h (All-at_Has (λ v. scored_below y v ≡ true) S z rises.0 k)),
)

-- no element is below the one before it
abbrev NoneFalls : List Scored → Type 0
NoneFalls S = (k : ℕ) (d : Scored) → suc k < length S → scored_below (get_or S (suc k) d) (get_or S k d) ≡ false

rises_from_steps : (S : List Scored) → NoneFalls S → IsDistinct same_address (map address_of S) → Rises scored_below S
unfolding IsDistinct
rises_from_steps [] sorted distinct = tt
rises_from_steps (x ∷ []) sorted distinct = (tt, tt)
rises_from_steps (x ∷ y ∷ S) sorted distinct =
    let rest : Rises scored_below (y ∷ S) =
    rises_from_steps (y ∷ S) (λ k d inside. sorted (suc k) d (omega arith)) distinct.1 in
    let first : scored_below x y ≡ true = scored_connect y x (other_address-turn x.addr y.addr distinct.0.0) (sorted 0 x (omega arith)) in
    (above_first x y S first rest, rest)

none_falls : (lt : Scored → Scored → Bool) → ((x y : Scored) → lt x y ≡ scored_below x y) → (S : List Scored) → IsSortedBy lt S → NoneFalls S
none_falls lt same S sorted k d inside =
    sym (same (get_or S (suc k) d) (get_or S k d)) ∙ subst (λ n. lt (get_or S n d) (get_or S k d) ≡ false) (add-one k) (sorted k d (omega arith) (omega arith))

-- what sorting leaves
pub least_by-sorted : (lt : Scored → Scored → Bool) → ((x y : Scored) → lt x y ≡ scored_below x y) → (xs S : List Scored) →
    IsPermutation xs S → IsSortedBy lt S → IsDistinct same_address (map address_of xs) → least_by scored_below (length xs) xs ≡ S
least_by-sorted lt same xs S moved sorted distinct =
    let members = same_members xs S moved in
    least_by-first scored_strict (length xs) xs S (record {
      rising = rises_from_steps S (none_falls lt same S sorted)
          (IsDistinct-permutation (map address_of xs) (map address_of S) (IsPermutation-map address_of xs S moved) distinct);
      number = omega (arith, length_permutation xs S moved);
      within = members.back;
      others = λ x h. inl (members.forth x h);
    })

-- ---- the least of the images are the images of the least

best_of-map : {X Y : Type 0} (f : X → Y) (below : Y → Y → Bool) (a : X) (xs : List X) →
    best_of below (f a) (map f xs) ≡ f (best_of (λ x y. below (f x) (f y)) a xs)
best_of-map f below a [] = refl
best_of-map f below a (x ∷ xs) =
    ap (λ b. best_of below b (map f xs)) (chosen (below (f x) (f a)))
    ∙ best_of-map f below (cond (below (f x) (f a)) x a) xs
  where
    chosen : (b : Bool) → cond b (f x) (f a) ≡ f (cond b x a)
    chosen true = refl
    chosen false = refl

filter-map : {X Y : Type 0} (f : X → Y) (p : Y → Bool) (xs : List X) → filter p (map f xs) ≡ map f (filter (λ x. p (f x)) xs)
filter-map f p [] = refl
filter-map f p (x ∷ xs) =
    ap (λ l. cond (p (f x)) (f x ∷ l) l) (filter-map f p xs) ∙ chosen (p (f x)) (filter (λ x. p (f x)) xs)
  where
    chosen : (b : Bool) (rest : List _) → cond b (f x ∷ map f rest) (map f rest) ≡ map f (cond b (x ∷ rest) rest)
    chosen true rest = refl
    chosen false rest = refl

pub least_by-map : {X Y : Type 0} (f : X → Y) (below : Y → Y → Bool) (k : ℕ) (xs : List X) →
    least_by below k (map f xs) ≡ map f (least_by (λ x y. below (f x) (f y)) k xs)
unfolding least_by
least_by-map f below zero xs = refl
least_by-map f below (suc k) [] = refl
least_by-map f below (suc k) (x ∷ xs) =
    let b = best_of (λ x y. below (f x) (f y)) x xs in
    ap (λ v. v ∷ least_by below k (filter (below v) (map f (x ∷ xs)))) (best_of-map f below x xs)
    ∙ (ap (λ l. f b ∷ least_by below k l) (filter-map f (below (f b)) (x ∷ xs))
    ∙ ap (λ l. f b ∷ l) (least_by-map f below k (filter (λ y. below (f b) (f y)) (x ∷ xs))))
