-- A number and so many of its digits in a base.
use Rattle.std.proofs.Common.{◌≡◌, ℕ, zero, suc, ◌+◌, ◌*◌, ◌/◌, ◌%◌, ◌^◌, ◌<◌, List, [], ◌∷◌, ◌++◌, length, refl, sym, ap, subst, ◌∙◌, arith}
use Rattle.std.specs.Int.Digits.{number_from_digits, AllBelowBase}
use Rattle.std.proofs.Math.Nat.{div-div-eq-div-mul, div-one, div-lt_iff_lt-mul, div-add-mod, pow-zero, pow-suc, pow-succ'}
use Rattle.std.proofs.lemmas.Nat.{div-mul-add, mod-mul-add}
use Rattle.std.proofs.lemmas.Int.Digits.{number_push}
use Rattle.std.proofs.lemmas.List.{nil_from_length}
use Rattle.trace_text.specs.Addresses.{low_digits}

div-mul-mod : (n m : ℕ) → n / m * m + n % m ≡ n
div-mul-mod n m = omega (arith, div-add-mod n m)

pub length-low_digits : (base count n : ℕ) → length (low_digits base count n) ≡ count
length-low_digits base zero n = refl
length-low_digits base (suc count) n = ap suc (length-low_digits base count n)

pub below-low_digits : (base count n : ℕ) → 0 < base → AllBelowBase base (low_digits base count n)
below-low_digits base zero n h = tt
below-low_digits base (suc count) n h = (omega arith, below-low_digits base count n h)

-- the last digit is the lowest
pub low_digits-last : (base count n : ℕ) → low_digits base (suc count) n ≡ low_digits base count (n / base) ++ n % base ∷ []
low_digits-last base zero n = ap (λ (m : ℕ). m % base ∷ []) (ap (λ (k : ℕ). n / k) (pow-zero base) ∙ div-one n)
low_digits-last base (suc count) n =
    let first : n / base ^ suc count ≡ n / base / base ^ count = ap (λ (k : ℕ). n / k) (pow-succ' base count) ∙ sym (div-div-eq-div-mul n base (base ^ count)) in
    ap (λ (m : ℕ). m % base ∷ low_digits base (suc count) n) first ∙ ap (λ (ds : List ℕ). (n / base / base ^ count % base) ∷ ds) (low_digits-last base count n)

-- the number of its digits, where there are enough of them
pub number-low_digits : (base count n : ℕ) → 0 < base → n < base ^ count → number_from_digits base (low_digits base count n) ≡ n
number-low_digits base zero n h fits = let one : base ^ 0 ≡ 1 = pow-zero base in omega arith
number-low_digits base (suc count) n h fits =
    let small : n / base < base ^ count = (div-lt_iff_lt-mul h).1 (subst (λ (m : ℕ). n < m) (pow-suc base count) fits) in
    let front : number_from_digits base (low_digits base count (n / base)) ≡ n / base = number-low_digits base count (n / base) h small in
    ap (number_from_digits base) (low_digits-last base count n)
    ∙ number_push base (low_digits base count (n / base)) (n % base)
    ∙ ap (λ (m : ℕ). m * base + n % base) front
    ∙ div-mul-mod n base

pub split_last : (count : ℕ) (ds : List ℕ) → length ds ≡ suc count → (front : List ℕ) × (d : ℕ) × (ds ≡ front ++ d ∷ []) × (length front ≡ count)
split_last zero (d ∷ []) e = ([], d, refl, refl)
split_last zero (d ∷ c ∷ ds) e = absurd (omega arith)
split_last zero [] e = absurd (omega arith)
split_last (suc count) [] e = absurd (omega arith)
split_last (suc count) (d ∷ ds) e =
    let (front, last, parts, len) = split_last count ds (omega arith) in
    (d ∷ front, last, ap (λ (xs : List ℕ). d ∷ xs) parts, ap suc len)

pub below_parts : (base : ℕ) (xs : List ℕ) (d : ℕ) → AllBelowBase base (xs ++ d ∷ []) → AllBelowBase base xs × (d < base)
below_parts base [] d h = (tt, h.0)
below_parts base (x ∷ xs) d h = let p = below_parts base xs d h.1 in ((h.0, p.0), p.1)

-- digits are those of their number
pub low_digits-number : (base count : ℕ) (ds : List ℕ) → length ds ≡ count → AllBelowBase base ds → low_digits base count (number_from_digits base ds) ≡ ds
low_digits-number base zero ds e h = sym (nil_from_length ds e)
low_digits-number base (suc count) ds e h =
    let (front, d, parts, len) = split_last count ds e in
    let (low, small) = below_parts base front d (subst (AllBelowBase base) parts h) in
    let value : number_from_digits base ds ≡ number_from_digits base front * base + d = ap (number_from_digits base) parts ∙ number_push base front d in
    low_digits-last base count (number_from_digits base ds)
    ∙ ap (λ (n : ℕ). low_digits base count (n / base) ++ n % base ∷ []) value
    ∙ ap (λ (n : ℕ). low_digits base count n ++ (number_from_digits base front * base + d) % base ∷ []) (div-mul-add (number_from_digits base front) base d small)
    ∙ ap (λ (n : ℕ). low_digits base count (number_from_digits base front) ++ n ∷ []) (mod-mul-add (number_from_digits base front) base d small)
    ∙ ap (λ (xs : List ℕ). xs ++ d ∷ []) (low_digits-number base count front len low)
    ∙ sym parts
