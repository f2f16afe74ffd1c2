-- A number has one decimal spelling.
use Rattle.std.proofs.Common.{◌≡◌, ℕ, ◌+◌, ◌-◌, ◌*◌, ◌^◌, ◌<◌, ◌≤◌, true, false, not, ◌&&◌, eqb, List, [], ◌∷◌, length, get_or, fold, Option, Some, None, decimal, refl, sym, ap, ◌∙◌, arith, inl, inr}
use Rattle.std.specs.List.{list_all}
use Rattle.std.proofs.lemmas.Bool.{and_parts, and_from, eqb-false, ne_eqb, not-true, cases_lt}
use Rattle.std.proofs.lemmas.Bool.Decides.{nat_tests}
use Rattle.std.proofs.lemmas.Option.{cond_some}
use Rattle.std.proofs.lemmas.Str.Parse.{IsNumeralModel, IsDigitsTest, FoldsDigits, numerals_by_fold}
use Rattle.std.proofs.lemmas.Fmt.{digits_decimal, digits_value-decimal, decimal-digits_value, decimal_nonempty, first_decimal, decimal_digit}
use Rattle.net_base.specs.Number.{is_digit, is_decimal, decimal_value, number_of, up_to, number_up_to}

abbrev AreDigits : List ℕ → Type 0
AreDigits word = list_all is_digit word ≡ true

abbrev value_on : ℕ → List ℕ → ℕ
value_on n word = fold (λ value c. value * 10 + (c - 48)) n word

tells_parts : (c : ℕ) (cs : List ℕ) → AreDigits (c ∷ cs) → ((48 ≤ c) × (c ≤ 57)) × AreDigits cs
tells_parts c cs h =
    let p = and_parts (is_digit c) (list_all is_digit cs) h in
    let q : is_digit c ≡ true = p.0 in
    (grind (arith, nat_tests), p.1)

tells_more : (c : ℕ) (cs : List ℕ) → (48 ≤ c) × (c ≤ 57) → AreDigits cs → AreDigits (c ∷ cs)
tells_more c cs h t =
    let q : is_digit c ≡ true = grind (arith, nat_tests) in
    and_from (is_digit c) (list_all is_digit cs) q t

tells : IsDigitsTest AreDigits
tells = record { empty = refl; parts = tells_parts; more = tells_more }

folds : FoldsDigits value_on
folds = record { empty = λ n. refl; more = λ n c cs h. refl }

own : IsNumeralModel AreDigits (value_on 0)
own = numerals_by_fold AreDigits tells value_on folds

-- what makes a word a decimal
pub record IsDecimal (word : List ℕ) : Type 0 where
  pub digits : AreDigits word
  pub some : 0 < length word
  pub no_zero : get_or word 0 0 ≡ 48 → length word ≡ 1

is_decimal_parts : (word : List ℕ) → is_decimal word ≡ true → IsDecimal word
is_decimal_parts [] h = absurd cc
is_decimal_parts (c ∷ []) h = record { digits = and_from (is_digit c) true h refl; some = omega arith; no_zero = λ e. refl }
is_decimal_parts (c ∷ d ∷ rest) h =
    let p = and_parts (is_digit c && not (eqb c 48)) (list_all is_digit (d ∷ rest)) h in
    let q = and_parts (is_digit c) (not (eqb c 48)) p.0 in
    record {
      digits = and_from (is_digit c) (list_all is_digit (d ∷ rest)) q.0 p.1;
      some = omega arith;
      no_zero = λ e. absurd (eqb-false c 48 (not-true (eqb c 48) q.1) e);
    }

is_decimal_from : (word : List ℕ) → IsDecimal word → is_decimal word ≡ true
is_decimal_from [] h = absurd (let s = h.some in omega arith)
is_decimal_from (c ∷ []) h = (and_parts (is_digit c) true h.digits).0
is_decimal_from (c ∷ d ∷ rest) h =
    let p = and_parts (is_digit c) (list_all is_digit (d ∷ rest)) h.digits in
    let apart : eqb c 48 ≡ false = ne_eqb c 48 (λ e. let l = h.no_zero e in absurd (omega arith)) in
    and_from (is_digit c && not (eqb c 48)) (list_all is_digit (d ∷ rest)) (and_from (is_digit c) (not (eqb c 48)) p.0 (rw apart refl)) p.1

decimal_no_zero : (n : ℕ) → n < 2 ^ 64 → get_or (decimal n) 0 0 ≡ 48 → length (decimal n) ≡ 1
decimal_no_zero n fits e =
    elim (cases_lt 0 n) [
      | inl h ↦ absurd (omega (arith, first_decimal n h fits))
      | inr h ↦ ap length (decimal_digit n (omega arith))
    ]

pub IsDecimal-decimal : (n : ℕ) → n < 2 ^ 64 → IsDecimal (decimal n)
IsDecimal-decimal n fits = record {
  digits = digits_decimal own n fits;
  some = decimal_nonempty n fits;
  no_zero = decimal_no_zero n fits;
}

pub number_of-decimal : (n : ℕ) → n < 2 ^ 64 → number_of (decimal n) ≡ Some n
number_of-decimal n fits = rw (is_decimal_from (decimal n) (IsDecimal-decimal n fits), digits_value-decimal own n fits) refl

-- a word that spells a number is what is printed of it
pub decimal-number_of : (word : List ℕ) (n : ℕ) → number_of word ≡ Some n → n < 2 ^ 64 → word ≡ decimal n
decimal-number_of word n h fits =
    let p = cond_some (is_decimal word) (decimal_value word) n h in
    let d = is_decimal_parts word p.0 in
    let back = decimal-digits_value own word d.digits d.some d.no_zero (rw p.1 fits) in
    sym back ∙ ap decimal p.1

pub number_up_to-decimal : (most n : ℕ) → n ≤ most → most < 2 ^ 64 → number_up_to most (decimal n) ≡ Some n
number_up_to-decimal most n within fits = rw (number_of-decimal n (omega arith)) (grind (arith, nat_tests))

up_to_some : (most : ℕ) (o : Option ℕ) (n : ℕ) → up_to most o ≡ Some n → (o ≡ Some n) × (n ≤ most)
up_to_some most None n h = absurd cc
up_to_some most (Some m) n h = grind (arith, nat_tests)

pub decimal-number_up_to : (most : ℕ) (word : List ℕ) (n : ℕ) → number_up_to most word ≡ Some n → most < 2 ^ 64 → (word ≡ decimal n) × (n ≤ most)
decimal-number_up_to most word n h fits =
    let p = up_to_some most (number_of word) n h in
    (decimal-number_of word n p.0 (omega arith), p.1)
