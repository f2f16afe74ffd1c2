-- What a search finds once one element of a list has changed or gone, where at most one passes.
use Rattle.std.proofs.Common.{ℕ, zero, suc, ◌≡◌, Bool, true, false, List, [], ◌∷◌, find, set, remove, Some, None, All, refl, ap, ◌∙◌, arith, Option, filter, map, not, if◌then◌else◌, ◌==◌}
use Rattle.laws.proofs.Lists.{StandsAt, stands_before, OnePasses, OnePasses-none_after, OnePasses-not_before, OnePasses-tail}
use Rattle.laws.specs.Words.{option_map, has_id, Entry}
use Rattle.laws.proofs.Words.{All-head, All-tail, find_past}

pub find-none_passes : {X : Type 0} (p : X → Bool) (xs : List X) → All (λ x. p x ≡ false) xs → find p xs ≡ None
find-none_passes p [] h = refl
find-none_passes p (x ∷ xs) h = grind (arith, All-head (λ y. p y ≡ false) x xs h, find-none_passes p xs (All-tail (λ y. p y ≡ false) x xs h))

-- an element that fails gives way to another that fails
pub find-set_other : {X : Type 0} (p : X → Bool) (new x : X) (xs : List X) (k : ℕ) → StandsAt xs k x →
    p x ≡ false → p new ≡ false → find p (set xs k new) ≡ find p xs
find-set_other p new x xs k s old_fails new_fails = find_past p xs k new x (ap p s.is ∙ old_fails) new_fails

-- the one that passes gives way to another that passes
pub find-set_here : {X : Type 0} (p : X → Bool) (new x : X) (xs : List X) (k : ℕ) → OnePasses p xs → StandsAt xs k x →
    p x ≡ true → p new ≡ true → find p (set xs k new) ≡ Some new
find-set_here p new x [] k one s old_passes new_passes = absurd (omega (arith, s.inside))
find-set_here p new x (y ∷ ys) zero one s old_passes new_passes = rw new_passes refl
find-set_here p new x (y ∷ ys) (suc k) one s old_passes new_passes =
    let rest : StandsAt ys k x = stands_before y x ys k s in
    grind (arith, OnePasses-not_before p y x ys k one rest old_passes, find-set_here p new x ys k (OnePasses-tail p y ys one) rest old_passes new_passes)

-- the one that passes gives way to one that fails
pub find-set_gone : {X : Type 0} (p : X → Bool) (new x : X) (xs : List X) (k : ℕ) → OnePasses p xs → StandsAt xs k x →
    p x ≡ true → p new ≡ false → find p (set xs k new) ≡ None
find-set_gone p new x [] k one s old_passes new_fails = absurd (omega (arith, s.inside))
find-set_gone p new x (y ∷ ys) zero one s old_passes new_fails = grind (arith, find-none_passes p ys (OnePasses-none_after p y ys one (ap p s.is ∙ old_passes)))
find-set_gone p new x (y ∷ ys) (suc k) one s old_passes new_fails =
    let rest : StandsAt ys k x = stands_before y x ys k s in
    grind (arith, OnePasses-not_before p y x ys k one rest old_passes, find-set_gone p new x ys k (OnePasses-tail p y ys one) rest old_passes new_fails)

-- an element that fails goes
pub find-remove_other : {X : Type 0} (p : X → Bool) (x : X) (xs : List X) (k : ℕ) → StandsAt xs k x →
    p x ≡ false → find p (remove xs k) ≡ find p xs
find-remove_other p x [] k s fails = absurd (omega (arith, s.inside))
find-remove_other p x (y ∷ ys) zero s fails = let here : p y ≡ false = ap p s.is ∙ fails in rw here refl
find-remove_other p x (y ∷ ys) (suc k) s fails = grind (arith, find-remove_other p x ys k (stands_before y x ys k s) fails, stands_before y x ys k s)

-- the one that passes goes
pub find-remove_here : {X : Type 0} (p : X → Bool) (x : X) (xs : List X) (k : ℕ) → OnePasses p xs → StandsAt xs k x →
    p x ≡ true → find p (remove xs k) ≡ None
find-remove_here p x [] k one s passes = absurd (omega (arith, s.inside))
find-remove_here p x (y ∷ ys) zero one s passes = grind (arith, find-none_passes p ys (OnePasses-none_after p y ys one (ap p s.is ∙ passes)))
find-remove_here p x (y ∷ ys) (suc k) one s passes =
    let rest : StandsAt ys k x = stands_before y x ys k s in
    grind (arith, OnePasses-not_before p y x ys k one rest passes, find-remove_here p x ys k (OnePasses-tail p y ys one) rest passes)

-- ---- by an id

either_way : {X : Type 0} (o : Option X) (b : Bool) → o ≡ (if b then o else o)
either_way o true = refl
either_way o false = refl

-- what is found once one that has its id takes the place of each
pub replaced : (c : ℕ) (new : Entry) (es : List Entry) → find (λ e. has_id c e.facts) (map (λ e. if has_id new.facts.cid.0 e.facts then new else e) es)
    ≡ (if has_id c new.facts then option_map (λ e. new) (find (λ e. has_id c e.facts) es) else find (λ e. has_id c e.facts) es)
replaced c new [] = either_way {X = Entry} None (has_id c new.facts)
replaced c new (e ∷ es) = grind (arith, replaced c new es)

-- where all that pass one test pass another, or none does
pub found-filter : {X : Type 0} (q r : X → Bool) (b : Bool) → ((x : X) → q x ≡ true → r x ≡ b) → (xs : List X) → find q (filter r xs) ≡ (if b then find q xs else None)
found-filter {X} q r b each [] = either_way {X = X} None b
found-filter {X} q r b each (x ∷ xs) = grind (arith, each x, found-filter q r b each xs)

-- one goes
pub gone-found : (c cid : ℕ) (es : List Entry) → find (λ e. has_id c e.facts) (filter (λ e. not (has_id cid e.facts)) es)
    ≡ (if cid == c then None else find (λ e. has_id c e.facts) es)
gone-found c cid es =
    grind (arith, found-filter (λ e. has_id c e.facts) (λ e. not (has_id cid e.facts)) (not (cid == c)) (λ e own. grind (arith, own)) es)
