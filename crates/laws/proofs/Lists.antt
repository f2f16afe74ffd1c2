-- One element of a list: what is found, what takes its place, and the list without it.
use Rattle.std.proofs.Common.{nat_lt, ℕ, zero, suc, ◌+◌, ◌<◌, ◌≡◌, Bool, true, false, cond, not, List, [], ◌∷◌, ◌++◌, length, map, filter, find, set, remove, get_or, Some, None, All, AllPairs, sum_by, count_by, flat_map, if◌then◌else◌, refl, ap, ◌∙◌, subst, arith}
use Rattle.laws.proofs.Words.{false_from_ne_true, both_ways, All-head, All-tail, All-cons, All-nil, All-set, All-weaker, AllPairs-cons, sum_by-cons, sum_by-append, sum_by-set, sum_by-remove, get_or-le-sum_by, All-append, All-filter, All-map, All-from_recursion, recursion_from_All, filter_passes, map_fixed, fold-map}
use Rattle.laws.specs.Words.{AllByRecursion}

-- no number is below itself
pub not_below : (n : ℕ) → nat_lt n n ≡ false
not_below n = grind arith

pub AllPairs-tail : {X : Type 0} (R : X → X → Type 0) (x : X) (xs : List X) → AllPairs R (x ∷ xs) → AllPairs R xs
AllPairs-tail R x xs h i j d l k = h (suc i) (suc j) d (omega arith) (omega arith)

pub AllPairs-head : {X : Type 0} (R : X → X → Type 0) (x : X) (xs : List X) → AllPairs R (x ∷ xs) → All (R x) xs
AllPairs-head R x xs h k d l = h 0 (suc k) d (omega arith) (omega arith)

-- x stands at the place k
pub record StandsAt {X : Type 0} (xs : List X) (k : ℕ) (x : X) : Type 0 where
  pub inside : k < length xs
  pub is : get_or xs k x ≡ x

pub stands_next : {X : Type 0} (y x : X) (ys : List X) (k : ℕ) → StandsAt ys k x → StandsAt (y ∷ ys) (suc k) x
stands_next y x ys k s = record { inside = omega arith; is = s.is }

pub stands_before : {X : Type 0} (y x : X) (ys : List X) (k : ℕ) → StandsAt (y ∷ ys) (suc k) x → StandsAt ys k x
stands_before y x ys k s = record { inside = omega arith; is = s.is }

-- what takes the place of an element stands there
pub stands-set : {X : Type 0} (xs : List X) (k : ℕ) (new x : X) → StandsAt xs k x → StandsAt (set xs k new) k new
stands-set [] k new x s = absurd (omega (arith, s.inside))
stands-set (y ∷ ys) zero new x s = record { inside = omega arith; is = refl }
stands-set (y ∷ ys) (suc k) new x s =
    stands_next y new (set ys k new) k (stands-set ys k new x (stands_before y x ys k s))

-- what holds of each element holds of one that stands
pub All-stands : {X : Type 0} (P : X → Type 0) (xs : List X) (k : ℕ) (x : X) → StandsAt xs k x → All P xs → P x
All-stands P xs k x s h = subst P s.is (h k x s.inside)

-- what holds of each that stands holds of all
pub all-standing : {X : Type 0} (P : X → Type 0) (xs : List X) → ((x : X) (k : ℕ) → StandsAt xs k x → P x) → All P xs
all-standing P [] each = All-nil P
all-standing P (y ∷ ys) each =
    All-cons P y ys (each y 0 (record { inside = omega arith; is = refl })) (all-standing P ys (λ x k s. each x (suc k) (stands_next y x ys k s)))

-- what holds of all of two lists holds of all of each
pub All-front : {X : Type 0} (P : X → Type 0) (xs ys : List X) → All P (xs ++ ys) → All P xs
All-front P [] ys h = All-nil P
All-front P (x ∷ xs) ys h = All-cons P x xs (All-head P x (xs ++ ys) h) (All-front P xs ys (All-tail P x (xs ++ ys) h))

pub All-behind : {X : Type 0} (P : X → Type 0) (xs ys : List X) → All P (xs ++ ys) → All P ys
All-behind P [] ys h = h
All-behind P (x ∷ xs) ys h = All-behind P xs ys (All-tail P x (xs ++ ys) h)

-- at most one element passes
abbrev pub OnePasses : {X : Type 0} → (X → Bool) → List X → Type 0
OnePasses p xs = AllPairs (λ x y. p x ≡ true → p y ≡ false) xs

pub OnePasses-none_after : {X : Type 0} (p : X → Bool) (x : X) (xs : List X) → OnePasses p (x ∷ xs) → p x ≡ true →
    All (λ y. p y ≡ false) xs
OnePasses-none_after p x xs one here k d l =
    AllPairs-head (λ x y. p x ≡ true → p y ≡ false) x xs one k d l here

pub OnePasses-not_before : {X : Type 0} (p : X → Bool) (y x : X) (ys : List X) (k : ℕ) → OnePasses p (y ∷ ys) →
    StandsAt ys k x → p x ≡ true → p y ≡ false
OnePasses-not_before p y x ys k one s passes = false_from_ne_true (p y)
    (λ here. both_ways (p x) (All-stands (λ z. p z ≡ false) ys k x s (OnePasses-none_after p y ys one here)) passes)

pub OnePasses-tail : {X : Type 0} (p : X → Bool) (x : X) (xs : List X) → OnePasses p (x ∷ xs) → OnePasses p xs
OnePasses-tail p = AllPairs-tail (λ x y. p x ≡ true → p y ≡ false)

-- each element that passes gives way to a new one
abbrev pub replaced : {X : Type 0} → (X → Bool) → X → List X → List X
replaced p new xs = map (λ x. if p x then new else x) xs

abbrev pub without : {X : Type 0} → (X → Bool) → List X → List X
without p xs = filter (λ x. not (p x)) xs

pub replaced_none : {X : Type 0} (p : X → Bool) (new : X) (xs : List X) → All (λ x. p x ≡ false) xs →
    replaced p new xs ≡ xs
replaced_none p new xs h = grind (arith, map_fixed)

pub without_none : {X : Type 0} (p : X → Bool) (xs : List X) → All (λ x. p x ≡ false) xs → without p xs ≡ xs
without_none p [] h = refl
without_none p (x ∷ xs) h = grind (arith, All-head (λ x. p x ≡ false) x xs h, without_none p xs (All-tail (λ x. p x ≡ false) x xs h))

pub replaced_at : {X : Type 0} (p : X → Bool) (new x : X) (xs : List X) (k : ℕ) → OnePasses p xs → StandsAt xs k x →
    p x ≡ true → replaced p new xs ≡ set xs k new
replaced_at p new x [] k one s passes = absurd (omega (arith, s.inside))
replaced_at p new x (y ∷ ys) zero one s passes = grind (arith, replaced_none p new ys (OnePasses-none_after p y ys one (ap p s.is ∙ passes)), OnePasses-none_after p y ys one (ap p s.is ∙ passes))
replaced_at p new x (y ∷ ys) (suc k) one s passes =
    let rest : StandsAt ys k x = stands_before y x ys k s in
    grind (arith, OnePasses-not_before p y x ys k one rest passes, replaced_at p new x ys k (OnePasses-tail p y ys one) rest passes)

pub without_at : {X : Type 0} (p : X → Bool) (x : X) (xs : List X) (k : ℕ) → OnePasses p xs → StandsAt xs k x →
    p x ≡ true → without p xs ≡ remove xs k
without_at p x [] k one s passes = absurd (omega (arith, s.inside))
without_at p x (y ∷ ys) zero one s passes = grind (arith, without_none p ys (OnePasses-none_after p y ys one (ap p s.is ∙ passes)), OnePasses-none_after p y ys one (ap p s.is ∙ passes))
without_at p x (y ∷ ys) (suc k) one s passes =
    let rest : StandsAt ys k x = stands_before y x ys k s in
    grind (arith, OnePasses-not_before p y x ys k one rest passes, without_at p x ys k (OnePasses-tail p y ys one) rest passes)

-- what a search finds stands in the list, and passes
pub record FoundIn {X : Type 0} (p : X → Bool) (xs : List X) (x : X) : Type 0 where
  pub place : ℕ
  pub stands : StandsAt xs place x
  pub passes : p x ≡ true

pub find_some : {X : Type 0} (p : X → Bool) (xs : List X) (x : X) → find p xs ≡ Some x → FoundIn p xs x
find_some p [] x e = absurd cc
find_some {X} p (y ∷ ys) x e =
    let later : find p ys ≡ Some x → FoundIn p (y ∷ ys) x = λ is.
    let found : FoundIn p ys x = find_some p ys x is in record { place = suc found.place; stands = stands_next y x ys found.place found.stands; passes = found.passes } in
    grind (arith, later)

pub find_none : {X : Type 0} (p : X → Bool) (xs : List X) → find p xs ≡ None → All (λ x. p x ≡ false) xs
find_none p [] e = All-nil (λ x. p x ≡ false)
find_none p (y ∷ ys) e = grind (arith, find_none p ys)

pub find_only : {X : Type 0} (p : X → Bool) (x : X) (xs : List X) (k : ℕ) → OnePasses p xs → StandsAt xs k x →
    p x ≡ true → find p xs ≡ Some x
find_only p x [] k one s passes = absurd (omega (arith, s.inside))
find_only p x (y ∷ ys) zero one s passes = rw (ap p s.is ∙ passes) (ap Some s.is)
find_only p x (y ∷ ys) (suc k) one s passes =
    let rest : StandsAt ys k x = stands_before y x ys k s in
    grind (arith, OnePasses-not_before p y x ys k one rest passes, find_only p x ys k (OnePasses-tail p y ys one) rest passes)

-- An element gives way to one that stands to each other as it did.
pub AllPairs-set : {X : Type 0} (R : X → X → Type 0) (new x : X) (xs : List X) (k : ℕ) → StandsAt xs k x →
    ((y : X) → R y x → R y new) → ((y : X) → R x y → R new y) → AllPairs R xs → AllPairs R (set xs k new)
AllPairs-set R new x [] k s before after h = absurd (omega (arith, s.inside))
AllPairs-set R new x (y ∷ ys) zero s before after h = grind (arith, AllPairs-head R y ys h, AllPairs-tail R y ys h)
AllPairs-set R new x (y ∷ ys) (suc k) s before after h =
    let rest : StandsAt ys k x = stands_before y x ys k s in
    let heads : All (R y) ys = AllPairs-head R y ys h in
    grind (arith, AllPairs-cons R y, All-set (R y) ys k new, before y, All-stands (R y) ys k x rest, heads, AllPairs-set R new x ys k rest before after (AllPairs-tail R y ys h))

-- how one element stands to all others
pub All-others : {X : Type 0} (R : X → X → Type 0) → ((y z : X) → R y z → R z y) → (x : X) (xs : List X) (k : ℕ) →
    StandsAt xs k x → AllPairs R xs → All (R x) (remove xs k)
All-others R turned x [] k s h = absurd (omega (arith, s.inside))
All-others R turned x (y ∷ ys) zero s h = subst (λ z. All (R z) ys) s.is (AllPairs-head R y ys h)
All-others R turned x (y ∷ ys) (suc k) s h =
    let rest : StandsAt ys k x = stands_before y x ys k s in
    All-cons (R x) y (remove ys k) (turned y x (All-stands (R y) ys k x rest (AllPairs-head R y ys h)))
    (All-others R turned x ys k rest (AllPairs-tail R y ys h))

-- sums over a list of which one element has changed or gone
pub sum_by-replaced : {X : Type 0} (f : X → ℕ) (p : X → Bool) (new x : X) (xs : List X) (k : ℕ) → OnePasses p xs →
    StandsAt xs k x → p x ≡ true → sum_by f (replaced p new xs) + f x ≡ sum_by f xs + f new
sum_by-replaced f p new x xs k one s passes = grind (arith, sum_by-set f xs k new x s.inside, replaced_at p new x xs k one s passes)

pub sum_by-without : {X : Type 0} (f : X → ℕ) (p : X → Bool) (x : X) (xs : List X) (k : ℕ) → OnePasses p xs →
    StandsAt xs k x → p x ≡ true → sum_by f (without p xs) + f x ≡ sum_by f xs
sum_by-without f p x xs k one s passes = grind (arith, sum_by-remove f xs k x s.inside, without_at p x xs k one s passes)

pub sum_by-map : {X Y : Type 0} (f : Y → ℕ) (g : X → Y) (xs : List X) →
    sum_by f (map g xs) ≡ sum_by (λ x. f (g x)) xs
sum_by-map f g xs = fold-map (λ sum x. sum + f x) g 0 xs

pub sum_by-flat_map : {X Y : Type 0} (f : Y → ℕ) (g : X → List Y) (xs : List X) →
    sum_by f (flat_map g xs) ≡ sum_by (λ x. sum_by f (g x)) xs
sum_by-flat_map f g [] = refl
sum_by-flat_map f g (x ∷ xs) = grind (arith, sum_by-append f (g x) (flat_map g xs), sum_by-flat_map f g xs, sum_by-cons (λ y. sum_by f (g y)) x xs)

-- none is counted exactly where each one fails
pub count_by-none : {X : Type 0} (p : X → Bool) (xs : List X) → count_by p xs ≡ 0 → All (λ x. p x ≡ false) xs
count_by-none p xs none k d inside = grind (arith, none, get_or-le-sum_by (λ x. cond (p x) 1 0) xs k d inside)

-- ---- every element, by recursion

pub all-weaker : {X : Type 0} (P Q : X → Type 0) → ((x : X) → P x → Q x) → (xs : List X) → AllByRecursion P xs → AllByRecursion Q xs
all-weaker P Q gives xs h = recursion_from_All Q xs (All-weaker P Q gives xs (All-from_recursion P xs h))

pub all-true : {X : Type 0} (P : X → Type 0) → ((x : X) → P x) → (xs : List X) → AllByRecursion P xs
all-true P each xs = recursion_from_All P xs (λ k d inside. each (get_or xs k d))

pub filter-all : {X : Type 0} (P : X → Type 0) (q : X → Bool) (xs : List X) → AllByRecursion P xs → AllByRecursion P (filter q xs)
filter-all P q xs h = recursion_from_All P (filter q xs) (All-filter q P xs (All-from_recursion P xs h))

pub filter-passing : {X : Type 0} (q : X → Bool) (xs : List X) → AllByRecursion (λ x. q x ≡ true) (filter q xs)
filter-passing q xs = recursion_from_All (λ x. q x ≡ true) (filter q xs) (filter_passes q xs)

pub all-appended : {X : Type 0} (P : X → Type 0) (xs ys : List X) → AllByRecursion P xs → AllByRecursion P ys → AllByRecursion P (xs ++ ys)
all-appended P xs ys h k = recursion_from_All P (xs ++ ys) (All-append P xs ys (All-from_recursion P xs h) (All-from_recursion P ys k))

pub all-behind : {X : Type 0} (P : X → Type 0) (xs ys : List X) → AllByRecursion P (xs ++ ys) → AllByRecursion P ys
all-behind P xs ys h = recursion_from_All P ys (All-behind P xs ys (All-from_recursion P (xs ++ ys) h))

pub all-map : {X Y : Type 0} (P : Y → Type 0) (g : X → Y) (xs : List X) → AllByRecursion (λ x. P (g x)) xs → AllByRecursion P (map g xs)
all-map P g xs h = recursion_from_All P (map g xs) (All-map P g xs (All-from_recursion (λ x. P (g x)) xs h))

pub all-both : {X : Type 0} (P Q R : X → Type 0) → ((x : X) → P x → Q x → R x) → (xs : List X) → AllByRecursion P xs → AllByRecursion Q xs → AllByRecursion R xs
all-both P Q R gives [] h k = tt
all-both P Q R gives (x ∷ xs) h k = (gives x h.0 k.0, all-both P Q R gives xs h.1 k.1)
