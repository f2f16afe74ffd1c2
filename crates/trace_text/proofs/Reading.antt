-- A number by what was read of it and what is still to be read.
use Rattle.std.proofs.Common.{◌≡◌, ℕ, suc, ◌+◌, ◌*◌, ◌^◌, ◌<◌, ◌≤◌, cond, eqb, List, ◌∷◌, length, get_or, drop, Option, Some, None, refl, ◌∙◌, arith}
use Rattle.std.specs.Option.{option_map}
use Rattle.std.specs.Int.Digits.{number_from_digits_after}
use Rattle.std.proofs.Math.Nat.{pow-le-pow_right, mul-le-mul_right}
use Rattle.std.proofs.lemmas.Grind.{pow_more}
use Rattle.std.proofs.lemmas.List.{at_drop_more}
use Rattle.trace_text.specs.Addresses.{◌>>=◌, all_read}

-- a number with few digits has room for one more
pub fits_more : (base most index value : ℕ) → 0 < base → index ≤ most → value < base ^ index → value < base ^ most
fits_more base most index value some low small =
    let p : base ^ index ≤ base ^ most = pow-le-pow_right some low in
    omega arith

module _ {A : Type 0} (base : ℕ) (read : A → Option ℕ) where
  -- the number that the rest gives behind the value so far
  abbrev pub read_on : ℕ → List A → Option ℕ
  read_on value xs = option_map (number_from_digits_after base value) (all_read read xs)

  map_more : (value n : ℕ) (ns : Option (List ℕ)) → option_map (number_from_digits_after base value) (ns >>= λ ns. Some (n ∷ ns)) ≡ option_map (number_from_digits_after base (value * base + n)) ns
  map_more value n (Some ns) = refl
  map_more value n None = refl

  pub read_on-some : (value n : ℕ) (x : A) (xs : List A) → read x ≡ Some n → read_on value (x ∷ xs) ≡ read_on (value * base + n) xs
  read_on-some value n x xs e = rw e (map_more value n (all_read read xs))

  pub read_on-none : (value : ℕ) (x : A) (xs : List A) → read x ≡ None → read_on value (x ∷ xs) ≡ None
  read_on-none value x xs e = rw e refl

  -- from a place of a list on
  pub read_on_more : (value n : ℕ) (xs : List A) (i : ℕ) (d : A) → i < length xs → read (get_or xs i d) ≡ Some n → read_on value (drop i xs) ≡ read_on (value * base + n) (drop (i + 1) xs)
  read_on_more value n xs i d inside e = at_drop_more (read_on value) xs i d inside ∙ read_on-some value n (get_or xs i d) (drop (i + 1) xs) e

  pub read_on_stops : (value : ℕ) (xs : List A) (i : ℕ) (d : A) → i < length xs → read (get_or xs i d) ≡ None → read_on value (drop i xs) ≡ None
  read_on_stops value xs i d inside e = at_drop_more (read_on value) xs i d inside ∙ read_on-none value (get_or xs i d) (drop (i + 1) xs) e

  -- the same, where so many members are left
  abbrev pub read_rest : ℕ → ℕ → List A → Option ℕ
  read_rest count value xs = cond (eqb (length xs) count) (read_on value xs) None

-- one digit more is still below the next power
pub small_more : (base index value digit : ℕ) → value < base ^ index → digit < base → value * base + digit < base ^ (index + 1)
small_more base index value digit small low =
    let p : base ^ (index + 1) ≡ base ^ index * base = pow_more base index in
    let q : suc value * base ≤ base ^ index * base = mul-le-mul_right base small in
    omega arith
