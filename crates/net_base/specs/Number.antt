-- Numbers as files and lines spell them: decimal, without a sign and without a leading zero.
use Rattle.std.specs.Prelude.{ℕ, ◌+◌, ◌*◌, ◌-◌, Bool, true, false, ◌&&◌, not, nat_le, ◌==◌, List, [], ◌∷◌, fold, if◌then◌else◌, Option, Some, None}
use Rattle.std.specs.List.{list_all}

-- the codes of '0' to '9'
abbrev pub is_digit : ℕ → Bool
is_digit c = nat_le 48 c && nat_le c 57

-- at least one digit, and no leading zero
abbrev pub is_decimal : List ℕ → Bool
is_decimal [] = false
is_decimal (c ∷ []) = is_digit c
is_decimal (c ∷ d ∷ rest) = is_digit c && not (c == 48) && list_all is_digit (d ∷ rest)

-- the number that digits spell, the greatest digit first
abbrev pub decimal_value : List ℕ → ℕ
decimal_value = fold (λ value c. value * 10 + (c - 48)) 0

abbrev pub number_of : List ℕ → Option ℕ
number_of word = if is_decimal word then Some (decimal_value word) else None

-- a number of at most `most`
abbrev pub up_to : ℕ → Option ℕ → Option ℕ
up_to most None = None
up_to most (Some n) = if nat_le n most then Some n else None

abbrev pub number_up_to : ℕ → List ℕ → Option ℕ
number_up_to most word = up_to most (number_of word)

-- the same of digits that may begin with zeros
abbrev pub digits_up_to : ℕ → List ℕ → Option ℕ
digits_up_to most digits = up_to most (if list_all is_digit digits then Some (decimal_value digits) else None)
