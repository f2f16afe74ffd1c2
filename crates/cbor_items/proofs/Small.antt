-- A head that is its initial byte alone, and an item that is.
use Rattle.std.proofs.Common.{◌≡◌, ℕ, ◌&&◌, ◌||◌, ◌==◌, nat_lt, not, if◌then◌else◌, Bool, true, false, List, [], ◌∷◌, ◌-◌, ◌≤◌, length, take, drop, get_or, Some, None, Ok, refl, sym, ap, ◌∙◌, inl, inr, arith}
use Rattle.std.proofs.lemmas.Bool.{cases_Bool, and_parts, eqb-true, false≢true}
use Rattle.std.proofs.lemmas.Bool.Decides.{nat_tests}
use Rattle.cbor_items.specs.Front.{definite_at}
use Rattle.cbor_items.specs.Head.{major_of, info_of, is_short, may_begin, initial_at, head_of, head_at, argument_at}
use Rattle.cbor_items.specs.Reading.{◌>>=◌}
use Rattle.cbor_items.specs.Scan.{is_nested, is_small, skip_flat, skip_flat_content, skip_item}
use Rattle.cbor_items.proofs.Loops.{item_is_flat}

-- ---- a head

begins : (initial : ℕ) → is_short initial ≡ true → may_begin initial ≡ true
begins initial short = by_numbers (info_of initial) (major_of initial) short
  where
    by_numbers : (i m : ℕ) → nat_lt i 24 ≡ true → (nat_lt i 28 || (i == 31 && not (m == 0 || m == 1 || m == 6))) ≡ true
    by_numbers i m e = grind (arith, nat_tests)

-- its additional information is none of those that tell of an argument
info_is_not : (k initial : ℕ) → nat_lt k 24 ≡ false → is_short initial ≡ true → (info_of initial == k) ≡ false
info_is_not k initial big short = by_numbers (info_of initial) short
  where
    by_numbers : (i : ℕ) → nat_lt i 24 ≡ true → (i == k) ≡ false
    by_numbers i e = grind (arith, nat_tests, big)

is_no_next_byte : (initial : ℕ) → is_short initial ≡ true → (initial == 0xf8) ≡ false
is_no_next_byte initial short = elim (cases_Bool (initial == 0xf8)) [
  | inl is ↦ absurd (false≢true (sym (ap is_short (eqb-true initial 0xf8 is)) ∙ short))
  | inr other ↦ other
]

none_below : (n : ℕ) → nat_lt n 0 ≡ false
none_below n = grind (arith, nat_tests)

argument : (initial : ℕ) (rest : List ℕ) → is_short initial ≡ true → argument_at initial rest ≡ Ok (head_of initial [], rest)
argument initial rest short = rw (
  info_is_not 24 initial refl short,
  info_is_not 25 initial refl short,
  info_is_not 26 initial refl short,
  info_is_not 27 initial refl short,
  is_no_next_byte initial short,
  none_below (length rest),
) refl

head_is : (initial : ℕ) (rest : List ℕ) → is_short initial ≡ true → head_at (initial ∷ rest) ≡ Some (head_of initial [])
unfolding head_at
head_is initial rest short = rw (begins initial short, argument initial rest short) refl

definite_short : (major initial : ℕ) (rest : List ℕ) → is_short initial ≡ true →
    definite_at major (initial ∷ rest) ≡ (if major_of initial == major then Some (info_of initial, rest) else None)
unfolding definite_at
definite_short major initial rest short = rw (head_is initial rest short) (elim (cases_Bool (major_of initial == major)) [
  | inl its ↦ rw (its, info_is_not 31 initial refl short, short) refl
  | inr other ↦ rw other refl
])

take_all : (xs : List ℕ) → take (length xs) xs ≡ xs
take_all [] = refl
take_all (x ∷ xs) = ap (λ l. x ∷ l) (take_all xs)

-- all but the first
pub behind : (initial : ℕ) (rest : List ℕ) → take (length (initial ∷ rest) - 1) (drop 1 (initial ∷ rest)) ≡ rest
behind initial rest = let one : length (initial ∷ rest) - 1 ≡ length rest = omega arith in ap (λ n. take n rest) one ∙ take_all rest

-- the value of a definite head of a major type, where it is the first byte
pub definite_first : (major : ℕ) (bytes : List ℕ) → 1 ≤ length bytes → is_short (get_or bytes 0 0) ≡ true → (major_of (get_or bytes 0 0) == major) ≡ true →
    definite_at major bytes ≡ Some (info_of (get_or bytes 0 0), take (length bytes - 1) (drop 1 bytes))
definite_first major [] some short its = absurd (omega (arith, some))
definite_first major (initial ∷ rest) some short its =
    definite_short major initial rest short ∙ rw its (ap (λ l. Some (info_of initial, l)) (sym (behind initial rest)))

-- a head of another major type is none
pub another_first : (major : ℕ) (bytes : List ℕ) → 1 ≤ length bytes → is_short (get_or bytes 0 0) ≡ true → (major_of (get_or bytes 0 0) == major) ≡ false →
    definite_at major bytes ≡ None
another_first major [] some short other = absurd (omega (arith, some))
another_first major (initial ∷ rest) some short other = definite_short major initial rest short ∙ rw other refl

-- ---- an item

short_of : (initial : ℕ) → is_small initial ≡ true → is_short initial ≡ true
short_of initial small = (and_parts (is_short initial) _ small).0

stands_alone : (initial : ℕ) → is_small initial ≡ true → (major_of initial == 0 || major_of initial == 1 || major_of initial == 7) ≡ true
stands_alone initial small = (and_parts (is_short initial) _ small).1

holds_none : (initial : ℕ) → is_small initial ≡ true → is_nested initial ≡ false
holds_none initial small = by_numbers (major_of initial) (stands_alone initial small)
  where
    by_numbers : (m : ℕ) → (m == 0 || m == 1 || m == 7) ≡ true → (m == 4 || m == 5 || m == 6) ≡ false
    by_numbers m e = grind (arith, nat_tests)

is_no_string : (initial : ℕ) → is_small initial ≡ true → (major_of initial == 2 || major_of initial == 3) ≡ false
is_no_string initial small = by_numbers (major_of initial) (stands_alone initial small)
  where
    by_numbers : (m : ℕ) → (m == 0 || m == 1 || m == 7) ≡ true → (m == 2 || m == 3) ≡ false
    by_numbers m e = grind (arith, nat_tests)

content : (initial : ℕ) (rest : List ℕ) → is_small initial ≡ true → skip_flat_content (head_of initial []) rest ≡ Ok rest
unfolding skip_flat_content
content initial rest small = rw (is_no_string initial small, info_is_not 31 initial refl (short_of initial small)) refl

small_is_passed : (depth initial : ℕ) (rest : List ℕ) → is_small initial ≡ true → skip_item depth (initial ∷ rest) ≡ Ok rest
small_is_passed depth initial rest small =
    item_is_flat depth (initial ∷ rest) initial rest (rw (begins initial (short_of initial small)) refl) (holds_none initial small)
    ∙ (ap (λ read. read >>= λ r. skip_flat_content r.0 r.1) (argument initial rest (short_of initial small)) ∙ content initial rest small)

-- the first of some bytes
pub first_is_passed : (depth : ℕ) (bytes : List ℕ) → 1 ≤ length bytes → is_small (get_or bytes 0 0) ≡ true →
    skip_item depth bytes ≡ Ok (take (length bytes - 1) (drop 1 bytes))
first_is_passed depth [] some small = absurd (omega (arith, some))
first_is_passed depth (initial ∷ rest) some small = small_is_passed depth initial rest small ∙ ap Ok (sym (behind initial rest))
