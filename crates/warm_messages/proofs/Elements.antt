-- The turns of a loop over the elements of an array.
use Rattle.std.proofs.Common.{◌≡◌, ℕ, suc, zero, ◌+◌, List, [], ◌∷◌, ◌++◌, Option, Some, None, refl, sym, ap, ◌∙◌, append_assoc}
use Rattle.std.proofs.lemmas.List.{append-nil}
use Rattle.warm_messages.specs.declared.array.Length.{Length}
use Rattle.cbor_items.specs.Front.{Reader, ◌>>=◌}
use Rattle.warm_messages.specs.Reading.{ending_at, elements_at}

-- elements that were read before, in front of those that are read
abbrev pub behind : {A : Type 0} → List A → Option (List A × List ℕ) → Option (List A × List ℕ)
behind xs None = None
behind xs (Some read) = Some (xs ++ read.0, read.1)

pub behind_none : {A : Type 0} (o : Option (List A × List ℕ)) → behind [] o ≡ o
behind_none None = refl
behind_none (Some read) = refl

behind_one : {A : Type 0} (xs : List A) (x : A) (o : Option (List A × List ℕ)) → behind xs (o >>= λ others. Some (x ∷ others.0, others.1)) ≡ behind (xs ++ x ∷ []) o
behind_one xs x None = refl
behind_one xs x (Some read) = rw append_assoc refl

-- one element is read, and the array goes on
pub one_read : {A : Type 0} (thing : Reader A) (size : Length) (count left most : ℕ) (rest after : List ℕ) (x : A) (xs : List A) (full : Option (List A × List ℕ))
    → left ≡ suc most → ending_at size count rest ≡ None → thing rest ≡ Some (x, after) → behind xs (elements_at thing size count left rest) ≡ full
    → behind (xs ++ x ∷ []) (elements_at thing size (count + 1) most after) ≡ full
unfolding elements_at
one_read thing size count left most rest after x xs full more goes_on found before =
    let step : elements_at thing size count left rest ≡ (elements_at thing size (count + 1) most after >>= λ others. Some (x ∷ others.0, others.1)) =
    rw (more, goes_on, found) refl in
    sym (behind_one xs x (elements_at thing size (count + 1) most after)) ∙ ap (behind xs) (sym step) ∙ before

-- the array ends
pub end_read : {A : Type 0} (thing : Reader A) (size : Length) (count left : ℕ) (rest after : List ℕ) (xs : List A) (full : Option (List A × List ℕ))
    → ending_at size count rest ≡ Some after → behind xs (elements_at thing size count left rest) ≡ full → full ≡ Some (xs, after)
unfolding elements_at
end_read thing size count zero rest after xs full end before = sym before ∙ rw end (simp append-nil)
end_read thing size count (suc left) rest after xs full end before = sym before ∙ rw end (simp append-nil)

-- no element is read
pub none_read : {A : Type 0} (thing : Reader A) (size : Length) (count left most : ℕ) (rest : List ℕ) (xs : List A) (full : Option (List A × List ℕ))
    → left ≡ suc most → ending_at size count rest ≡ None → thing rest ≡ None → behind xs (elements_at thing size count left rest) ≡ full → full ≡ None
unfolding elements_at
none_read thing size count left most rest xs full more goes_on none before = sym before ∙ rw (more, goes_on, none) refl

-- too many elements
pub too_many : {A : Type 0} (thing : Reader A) (size : Length) (count left : ℕ) (rest : List ℕ) (xs : List A) (full : Option (List A × List ℕ))
    → left ≡ 0 → ending_at size count rest ≡ None → behind xs (elements_at thing size count left rest) ≡ full → full ≡ None
unfolding elements_at
too_many thing size count left rest xs full out goes_on before = sym before ∙ rw (out, goes_on) refl
