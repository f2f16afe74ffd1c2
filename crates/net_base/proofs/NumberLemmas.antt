-- The value of digits, by the digits that are still to come.
use Rattle.std.proofs.Common.{◌≡◌, ℕ, ◌+◌, ◌*◌, ◌-◌, ◌<◌, ◌≤◌, Bool, true, false, List, [], ◌∷◌, Option, Some, None, fold, if◌then◌else◌, refl, ap, arith, rules, ◌&&◌, sym, ◌∙◌, length, drop, get_or, suc, drop-cons}
use Rattle.std.proofs.lemmas.Bool.Decides.{nat_tests}
use Rattle.std.specs.List.{list_all}
use Rattle.std.proofs.lemmas.Grind.{common_steps}
use Rattle.net_base.specs.Number.{is_digit, up_to, digits_up_to}

abbrev pub step : ℕ → ℕ → ℕ
step value c = value * 10 + (c - 48)

-- the value so far, followed by more digits
abbrev pub with_rest : ℕ → ℕ → List ℕ → Option ℕ
with_rest most value rest = up_to most (if list_all is_digit rest then Some (fold step value rest) else None)

-- more digits make no smaller number
pub value_le-fold : (rest : List ℕ) (value : ℕ) → value ≤ fold step value rest
value_le-fold [] value = omega arith
value_le-fold (c ∷ rest) value = omega (arith, value_le-fold rest (step value c))

pub with_rest-digit : (most value c : ℕ) (rest : List ℕ) → is_digit c ≡ true →
    with_rest most value (c ∷ rest) ≡ with_rest most (step value c) rest
with_rest-digit most value c rest h = rw h refl

pub up_to-none : (digit digits : Bool) (most n : ℕ) → (digit ≡ true → most < n) →
    up_to most (if digit && digits then Some n else None) ≡ None
up_to-none false digits most n h = refl
up_to-none true false most n h = refl
up_to-none true true most n h = let above : most < n = h refl in grind (arith, nat_tests)

pub with_rest-none : (most value c : ℕ) (rest : List ℕ) → (is_digit c ≡ true → most < step value c) →
    with_rest most value (c ∷ rest) ≡ None
with_rest-none most value c rest h = up_to-none (is_digit c) (list_all is_digit rest) most (fold step (step value c) rest)
    (λ d. let low : most < step value c = h d in omega (arith, value_le-fold rest (step value c)))

-- the number ends at a digit that doesn't serve
pub stops_at : (most value : ℕ) (digits : List ℕ) (i : ℕ) → i < length digits →
    digits_up_to most digits ≡ with_rest most value (drop i digits) →
    (is_digit (get_or digits i 0) ≡ true → most < step value (get_or digits i 0)) →
    None ≡ digits_up_to most digits
stops_at most value digits i inside same h =
    sym (same ∙ (ap (with_rest most value) (drop-cons digits i 0 inside)
    ∙ with_rest-none most value (get_or digits i 0) (drop (suc i) digits) h))
