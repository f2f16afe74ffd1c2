-- What holds of each element of a list, and how many pass a test.
use Rattle.std.proofs.Common.{◌+◌, ◌≡◌, Bool, cond, List, [], ◌∷◌, ◌++◌, count_by}
use Rattle.laws.proofs.Words.{sum_by-cons, sum_by-append}
use Rattle.laws.specs.Words.{AllByRecursion}

pub weaker : {X : Type 0} {P Q : X → Type 0} (xs : List X) → ((x : X) → P x → Q x) → AllByRecursion P xs → AllByRecursion Q xs
weaker [] gives h = tt
weaker (x ∷ xs) gives h = (gives x h.0, weaker xs gives h.1)

pub weaker-both : {X : Type 0} {P Q R : X → Type 0} (xs : List X) → ((x : X) → P x → Q x → R x) → AllByRecursion P xs → AllByRecursion Q xs → AllByRecursion R xs
weaker-both [] gives h k = tt
weaker-both (x ∷ xs) gives h k = (gives x h.0 k.0, weaker-both xs gives h.1 k.1)

pub count-cons : {X : Type 0} (p : X → Bool) (x : X) (xs : List X) → count_by p (x ∷ xs) ≡ cond (p x) 1 0 + count_by p xs
count-cons p x xs = sum_by-cons (λ y. cond (p y) 1 0) x xs

pub count-append : {X : Type 0} (p : X → Bool) (xs ys : List X) → count_by p (xs ++ ys) ≡ count_by p xs + count_by p ys
count-append p xs ys = sum_by-append (λ y. cond (p y) 1 0) xs ys
