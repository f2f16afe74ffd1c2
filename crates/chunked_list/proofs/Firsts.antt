-- Numbers that change by one, one after another.
use Rattle.std.proofs.Common.{◌≡◌, ℕ, zero, suc, ◌+◌, ◌-◌, ◌<◌, ◌≤◌, List, [], ◌∷◌, ◌++◌, length, take, drop, get_or, set, refl, ap, sym, ◌∙◌, append-nil, take_all, arith}
use Rattle.std.proofs.lemmas.List.{drop_all}
use Rattle.chunked_list.specs.Firsts.{raised, lowered}

next_is : (i : ℕ) → suc i ≡ i + 1
next_is i = omega arith

pub length-raised : (from : ℕ) (fs : List ℕ) → length (raised from fs) ≡ length fs
length-raised from [] = refl
length-raised zero (f ∷ fs) = ap (λ n. suc n) (length-raised zero fs)
length-raised (suc from) (f ∷ fs) = ap (λ n. suc n) (length-raised from fs)

-- from a place on nothing is changed yet
pub rest_raised : (from : ℕ) (fs : List ℕ) (i : ℕ) → i ≤ from → fs ≡ take i (raised from fs) ++ drop i fs
rest_raised from [] zero le = refl
rest_raised from [] (suc i) le = refl
rest_raised from (f ∷ fs) zero le = refl
rest_raised zero (f ∷ fs) (suc i) le = absurd (omega (arith, le))
rest_raised (suc from) (f ∷ fs) (suc i) le = ap (λ l. f ∷ l) (rest_raised from fs i (omega (arith, le)))

pub rest_lowered : (from : ℕ) (fs : List ℕ) (i : ℕ) → i ≤ from → fs ≡ take i (lowered from fs) ++ drop i fs
rest_lowered from [] zero le = refl
rest_lowered from [] (suc i) le = refl
rest_lowered from (f ∷ fs) zero le = refl
rest_lowered zero (f ∷ fs) (suc i) le = absurd (omega (arith, le))
rest_lowered (suc from) (f ∷ fs) (suc i) le = ap (λ l. f ∷ l) (rest_lowered from fs i (omega (arith, le)))

pub length-lowered : (from : ℕ) (fs : List ℕ) → length (lowered from fs) ≡ length fs
length-lowered from [] = refl
length-lowered zero (f ∷ fs) = ap (λ n. suc n) (length-lowered zero fs)
length-lowered (suc from) (f ∷ fs) = ap (λ n. suc n) (length-lowered from fs)

-- the next is still as it was
pub next_was : (ds fs : List ℕ) (i d : ℕ) → length ds ≡ length fs → i < length fs → get_or (take i ds ++ drop i fs) i d ≡ get_or fs i d
next_was ds [] i d same inside = absurd (omega (arith, inside))
next_was [] (f ∷ fs) i d same inside = absurd (omega (arith, same))
next_was (g ∷ ds) (f ∷ fs) zero d same inside = refl
next_was (g ∷ ds) (f ∷ fs) (suc i) d same inside = next_was ds fs i d (omega (arith, same)) (omega (arith, inside))

-- one more is changed
more : (ds fs : List ℕ) (i d : ℕ) → length ds ≡ length fs → i < length fs →
    set (take i ds ++ drop i fs) i (get_or ds i d) ≡ take (suc i) ds ++ drop (suc i) fs
more ds [] i d same inside = absurd (omega (arith, inside))
more [] (f ∷ fs) i d same inside = absurd (omega (arith, same))
more (g ∷ ds) (f ∷ fs) zero d same inside = refl
more (g ∷ ds) (f ∷ fs) (suc i) d same inside = ap (λ l. g ∷ l) (more ds fs i d (omega (arith, same)) (omega (arith, inside)))

get-raised : (from : ℕ) (fs : List ℕ) (i d : ℕ) → from ≤ i → i < length fs → get_or (raised from fs) i d ≡ get_or fs i d + 1
get-raised from [] i d le inside = absurd (omega (arith, inside))
get-raised zero (f ∷ fs) zero d le inside = refl
get-raised zero (f ∷ fs) (suc i) d le inside = get-raised zero fs i d (omega arith) (omega (arith, inside))
get-raised (suc from) (f ∷ fs) zero d le inside = absurd (omega (arith, le))
get-raised (suc from) (f ∷ fs) (suc i) d le inside = get-raised from fs i d (omega (arith, le)) (omega (arith, inside))

get-lowered : (from : ℕ) (fs : List ℕ) (i d : ℕ) → from ≤ i → i < length fs → get_or (lowered from fs) i d ≡ get_or fs i d - 1
get-lowered from [] i d le inside = absurd (omega (arith, inside))
get-lowered zero (f ∷ fs) zero d le inside = refl
get-lowered zero (f ∷ fs) (suc i) d le inside = get-lowered zero fs i d (omega arith) (omega (arith, inside))
get-lowered (suc from) (f ∷ fs) zero d le inside = absurd (omega (arith, le))
get-lowered (suc from) (f ∷ fs) (suc i) d le inside = get-lowered from fs i d (omega (arith, le)) (omega (arith, inside))

module _ (from : ℕ) (fs : List ℕ) (i d : ℕ) (le : from ≤ i) (inside : i < length fs) where
  pub raise_next : (f : ℕ) → f ≡ get_or fs i d + 1 → set (take i (raised from fs) ++ drop i fs) i f ≡ take (i + 1) (raised from fs) ++ drop (i + 1) fs
  raise_next f is =
      ap (λ n. set (take i (raised from fs) ++ drop i fs) i n) (is ∙ sym (get-raised from fs i d le inside))
      ∙ (more (raised from fs) fs i d (length-raised from fs) inside
      ∙ ap (λ n. take n (raised from fs) ++ drop n fs) (next_is i))

  pub lower_next : (f : ℕ) → f ≡ get_or fs i d - 1 → set (take i (lowered from fs) ++ drop i fs) i f ≡ take (i + 1) (lowered from fs) ++ drop (i + 1) fs
  lower_next f is =
      ap (λ n. set (take i (lowered from fs) ++ drop i fs) i n) (is ∙ sym (get-lowered from fs i d le inside))
      ∙ (more (lowered from fs) fs i d (length-lowered from fs) inside
      ∙ ap (λ n. take n (lowered from fs) ++ drop n fs) (next_is i))

  pub rest_is : (fs' : List ℕ) → length fs' ≡ length fs → get_or (take i fs' ++ drop i fs) i d ≡ get_or fs i d
  rest_is fs' same = next_was fs' fs i d same inside

-- what a vector holds whose numbers were lent as a slice, and came back as many
pub refilled : (n : ℕ) (new old : List ℕ) → length new ≡ length old → n ≡ length old → take n (new ++ drop (length new) old) ≡ new
refilled n new old same long =
    ap (λ l. take n (new ++ l)) (drop_all (length new) old (omega (arith, same)))
    ∙ (ap (take n) (append-nil new) ∙ take_all n new (omega (arith, same, long)))
