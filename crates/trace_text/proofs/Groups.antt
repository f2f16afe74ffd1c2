-- Sixteen bits have one spelling in lower-case hexadecimal.
use Rattle.std.proofs.Common.{◌≡◌, ◌≢◌, ℕ, zero, suc, ◌+◌, ◌-◌, ◌*◌, ◌/◌, ◌%◌, ◌^◌, ◌<◌, ◌≤◌, true, false, not, eqb, leb, List, [], ◌∷◌, ◌++◌, length, get_or, map, Some, None, refl, sym, ap, subst, ◌∙◌, arith, inl, inr}
use Rattle.std.specs.Option.{option_map}
use Rattle.std.specs.Fmt.{digits, digits_onto, digit_glyph}
use Rattle.std.specs.Int.Digits.{number_from_digits, AllBelowBase, digits_of}
use Rattle.std.proofs.DigitsParse.{digits_onto-nil, digits_onto_last, digits_onto_step}
use Rattle.std.proofs.lemmas.Bool.{cases_eq, leb-true, le-leb, eqb-false, ne_eqb, and_parts, and_from, not-true, cond-true}
use Rattle.std.proofs.lemmas.Bool.Decides.{nat_tests}
use Rattle.std.proofs.lemmas.Int.Digits.{number_push, number_lt, number_after_ge, all_below_base_digits_of, length-digits_of-le, first_digits_of, number_digits_of}
use Rattle.std.proofs.lemmas.List.{length-map, append-nil}
use Rattle.std.proofs.lemmas.Nat.{div-mul-add, mod-mul-add}
use Rattle.std.proofs.Math.Nat.{pow-le-pow_right}
use Rattle.trace_text.specs.Addresses.{all_read, number_read, hex_digit, is_group_form, group_of}
use Rattle.trace_text.proofs.Digits.{split_last, below_parts}
use Rattle.trace_text.proofs.Spelling.{map_some, cond_same, IsInverse, IsSpelling, all_read-map, all_read_only}
use Rattle.trace_text.proofs.Printed.{digits_between, tested_apart}

abbrev glyph : ℕ → ℕ
glyph = digit_glyph false

-- one to four digits, and no leading zero
pub record IsGroup (ds : List ℕ) : Type 0 where
  pub some : 0 < length ds
  pub short : length ds ≤ 4
  pub below : AllBelowBase 16 ds
  pub no_zero : get_or ds 0 0 ≡ 0 → length ds ≡ 1

-- ---- printing

positive : (n : ℕ) → n ≢ 0 → 0 < n
positive n h = omega arith

-- digits without a leading zero are no 0
not_zero : (base : ℕ) (ds : List ℕ) → 0 < base → 0 < get_or ds 0 0 → number_from_digits base ds ≢ 0
not_zero base [] some h e = omega arith
not_zero base (d ∷ ds) some h e = let g = number_after_ge base (0 * base + d) ds some in omega arith

-- the last digit, where no digit stands before it
only_glyph : (k d : ℕ) (acc : List ℕ) → d < 16 → digits_onto (suc k) 16 false d acc ≡ glyph d ∷ acc
only_glyph k d acc h =
    digits_onto_last 16 false d acc (suc k) (omega arith) (omega arith) ∙ ap (λ (n : ℕ). glyph n ∷ acc) {x = d % 16} {y = d} (omega arith)

-- the last digit, where others stand before it
next_glyph : (k m d : ℕ) (acc : List ℕ) → d < 16 → m ≢ 0 → digits_onto (suc k) 16 false (m * 16 + d) acc ≡ digits_onto k 16 false m (glyph d ∷ acc)
next_glyph k m d acc h some =
    let high : (m * 16 + d) / 16 ≡ m = div-mul-add m 16 d h in
    let low : (m * 16 + d) % 16 ≡ d = mod-mul-add m 16 d h in
    digits_onto_step 16 false (m * 16 + d) acc (suc k) (omega arith) (λ e. some (sym high ∙ e))
    ∙ ap (λ (j : ℕ). digits_onto j 16 false ((m * 16 + d) / 16) (glyph ((m * 16 + d) % 16) ∷ acc)) {x = suc k - 1} {y = k} (omega arith)
    ∙ ap (λ (q : ℕ). digits_onto k 16 false q (glyph ((m * 16 + d) % 16) ∷ acc)) high
    ∙ ap (λ (r : ℕ). digits_onto k 16 false m (glyph r ∷ acc)) low

join_last : (front : List ℕ) (d : ℕ) (acc : List ℕ) → map glyph front ++ (glyph d ∷ acc) ≡ map glyph (front ++ d ∷ []) ++ acc
join_last [] d acc = refl
join_last (x ∷ front) d acc = ap (λ (xs : List ℕ). glyph x ∷ xs) (join_last front d acc)

first_of : (front : List ℕ) (d : ℕ) → 0 < length front → get_or (front ++ d ∷ []) 0 0 ≡ get_or front 0 0
first_of [] d h = absurd (omega arith)
first_of (x ∷ front) d h = refl

onto_glyphs : (k : ℕ) (front : List ℕ) (d : ℕ) (acc : List ℕ) → length front ≤ k → AllBelowBase 16 front → d < 16 → (0 < length front → 0 < get_or front 0 0)
    → digits_onto (suc k) 16 false (number_from_digits 16 (front ++ d ∷ [])) acc ≡ map glyph (front ++ d ∷ []) ++ acc
onto_glyphs k [] d acc long below small first = ap (λ (n : ℕ). digits_onto (suc k) 16 false n acc) {x = 0 * 16 + d} {y = d} (omega arith) ∙ only_glyph k d acc small
onto_glyphs zero (x ∷ front) d acc long below small first = absurd (omega arith)
onto_glyphs (suc k) (x ∷ front) d acc long below small first =
    let (before, last, parts, len) = split_last (length front) (x ∷ front) refl in
    let (low, fits) = below_parts 16 before last (subst (AllBelowBase 16) parts below) in
    let some : 0 < get_or (x ∷ front) 0 0 = first (omega arith) in
    let leads : 0 < length before → 0 < get_or before 0 0 =
    λ h. subst (λ (n : ℕ). 0 < n) (ap (λ (ds : List ℕ). get_or ds 0 0) parts ∙ first_of before last h) some in
    ap (λ (n : ℕ). digits_onto (suc (suc k)) 16 false n acc) (number_push 16 (x ∷ front) d)
    ∙ next_glyph (suc k) (number_from_digits 16 (x ∷ front)) d acc small (not_zero 16 (x ∷ front) (omega arith) some)
    ∙ ap (λ (ds : List ℕ). digits_onto (suc k) 16 false (number_from_digits 16 ds) (glyph d ∷ acc)) parts
    ∙ onto_glyphs k before last (glyph d ∷ acc) (omega arith) low fits leads
    ∙ ap (λ (ds : List ℕ). map glyph ds ++ (glyph d ∷ acc)) (sym parts)
    ∙ join_last (x ∷ front) d acc

pub digits-number : (ds : List ℕ) → IsGroup ds → digits 16 false (number_from_digits 16 ds) ≡ map glyph ds
digits-number [] h = absurd (let s = h.some in omega arith)
digits-number (x ∷ ds) h =
    let (front, d, parts, len) = split_last (length ds) (x ∷ ds) refl in
    let (low, fits) = below_parts 16 front d (subst (AllBelowBase 16) parts h.below) in
    let short = h.short in
    let leads : 0 < length front → 0 < get_or front 0 0 =
    λ many. subst (λ (n : ℕ). 0 < n) (ap (λ (xs : List ℕ). get_or xs 0 0) parts ∙ first_of front d many) (positive x (λ e. let one = h.no_zero e in absurd (omega arith))) in
    sym (digits_onto-nil 16 false (number_from_digits 16 (x ∷ ds)))
    ∙ ap (λ (xs : List ℕ). digits_onto 64 16 false (number_from_digits 16 xs) []) parts
    ∙ onto_glyphs 63 front d [] (omega arith) low fits leads
    ∙ append-nil (map glyph (front ++ d ∷ []))
    ∙ ap (map glyph) (sym parts)

-- ---- the digits of a number

length_some : (ds : List ℕ) → 0 < get_or ds 0 0 → 0 < length ds
length_some [] h = absurd (omega arith)
length_some (d ∷ ds) h = omega arith

group_digits : (n : ℕ) → n < 65536 → (ds : List ℕ) × IsGroup ds × (number_from_digits 16 ds ≡ n)
group_digits n fits =
    elim (cases_eq n 0) [
      | inl e ↦ (0 ∷ [], record { some = omega arith; short = omega arith; below = (omega arith, tt); no_zero = λ _. refl }, sym e)
      | inr ne ↦ (
        digits_of 16 n,
        record {
          some = length_some (digits_of 16 n) (first_digits_of 16 n (omega arith) (omega arith));
          short = length-digits_of-le 16 4 n (omega arith) fits;
          below = all_below_base_digits_of 16 n (omega arith);
          no_zero = λ e. absurd (let h = first_digits_of 16 n (omega arith) (omega arith) in omega arith);
        },
        number_digits_of 16 n (omega arith),
      )
    ]

-- ---- reading

hex_digit-glyph : (d : ℕ) → d < 16 → hex_digit (glyph d) ≡ Some d
hex_digit-glyph d h = grind (arith, nat_tests)

glyph-hex_digit : (c d : ℕ) → hex_digit c ≡ Some d → (c ≡ glyph d) × (d < 16)
glyph-hex_digit c d h = grind (arith, nat_tests)

glyphs : IsInverse 16 hex_digit glyph
glyphs = record { again = hex_digit-glyph; only = glyph-hex_digit }

glyph_zero : (d : ℕ) → d < 16 → glyph d ≡ 48 → d ≡ 0
glyph_zero d h e = grind (arith, nat_tests)

form_from : (ds : List ℕ) → IsGroup ds → is_group_form (map glyph ds) ≡ true
form_from [] h = absurd (let s = h.some in omega arith)
form_from (d ∷ []) h = refl
form_from (d ∷ e ∷ ds) h =
    let short = h.short in
    let below = h.below in
    let apart : eqb (glyph d) 48 ≡ false = ne_eqb (glyph d) 48 (λ z. let one = h.no_zero (glyph_zero d below.0 z) in absurd (omega arith)) in
    and_from (not (eqb (glyph d) 48)) (leb (length (map glyph ds)) 2) (ap not apart) (le-leb (length (map glyph ds)) 2 (omega (arith, length-map ds glyph)))

form_parts : (ds : List ℕ) → AllBelowBase 16 ds → is_group_form (map glyph ds) ≡ true → IsGroup ds
form_parts [] below h = absurd cc
form_parts (d ∷ []) below h = record { some = omega arith; short = omega arith; below = below; no_zero = λ _. refl }
form_parts (d ∷ e ∷ ds) below h =
    let p = and_parts (not (eqb (glyph d) 48)) (leb (length (map glyph ds)) 2) h in
    record {
      some = omega arith;
      short = omega (arith, leb-true (length (map glyph ds)) 2 p.1, length-map ds glyph);
      below = below;
      no_zero = λ z. absurd (eqb-false (glyph d) 48 (not-true (eqb (glyph d) 48) p.0) (ap glyph z));
    }

pub group_of-map : (ds : List ℕ) → IsGroup ds → group_of (map glyph ds) ≡ Some (number_from_digits 16 ds)
group_of-map ds h =
    cond-true (is_group_form (map glyph ds)) (number_read 16 hex_digit (map glyph ds)) None (form_from ds h)
    ∙ ap (option_map (number_from_digits 16)) (all_read-map 16 hex_digit glyph glyphs ds h.below)

-- the digits of a group that is read
pub record IsReadAs (word : List ℕ) (n : ℕ) (ds : List ℕ) : Type 0 where
  pub group : IsGroup ds
  pub spelled : word ≡ map glyph ds
  pub value : number_from_digits 16 ds ≡ n

group_of_only : (word : List ℕ) (n : ℕ) → group_of word ≡ Some n → (ds : List ℕ) × IsReadAs word n ds
group_of_only word n e =
    let p = cond_same (is_group_form word) (number_read 16 hex_digit word) n e in
    let q = map_some (all_read hex_digit word) (number_from_digits 16) n p.1 in
    let r = all_read_only 16 hex_digit glyph glyphs word q.0 q.1 in
    (q.0, record { group = form_parts q.0 r.below (ap is_group_form (sym r.printed) ∙ p.0); spelled = r.printed; value = q.2 })

group_fits : (ds : List ℕ) → IsGroup ds → number_from_digits 16 ds < 65536
group_fits ds h =
    let short = h.short in
    let most : 16 ^ length ds ≤ 16 ^ 4 = pow-le-pow_right (omega arith) short in
    omega (arith, number_lt 16 ds h.below)

groups_again : (n : ℕ) → n < 65536 → group_of (digits 16 false n) ≡ Some n
groups_again n fits =
    let p = group_digits n fits in
    ap group_of (ap (digits 16 false) (sym p.2) ∙ digits-number p.0 p.1) ∙ group_of-map p.0 p.1 ∙ ap Some p.2

groups_only : (word : List ℕ) (n : ℕ) → group_of word ≡ Some n → (word ≡ digits 16 false n) × (n < 65536)
groups_only word n e =
    let p = group_of_only word n e in
    (p.1.spelled ∙ sym (digits-number p.0 p.1.group) ∙ ap (digits 16 false) p.1.value, subst (λ (m : ℕ). m < 65536) p.1.value (group_fits p.0 p.1.group))

pub IsSpelling-groups : IsSpelling 58 65536 group_of (digits 16 false)
IsSpelling-groups = record {
  inverse = record { again = groups_again; only = groups_only };
  apart = λ n _. tested_apart 58 (digits 16 false n) (digits_between 58 16 n (omega arith) (omega arith));
}
