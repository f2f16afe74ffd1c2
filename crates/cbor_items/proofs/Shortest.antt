-- The shortest head of a major type and a value.
use Rattle.std.proofs.Common.{◌≡◌, ◌≢◌, ℕ, suc, ◌+◌, ◌*◌, ◌≤◌, ◌<◌, false, eqb, ltb, List, [], ◌∷◌, ◌++◌, length, get_or, Some, refl, sym, ap, subst, ◌∙◌, arith, inl, inr, lit<}
use Rattle.std.proofs.lemmas.Bool.{ltb-true, ltb-false, lt-ltb, cases_Bool, cases_lt, cases_eq, ne_eqb}
use Rattle.std.proofs.lemmas.Nat.{from_be_bytes-to_be_bytes_2, from_be_bytes-to_be_bytes_4, from_be_bytes-to_be_bytes_8}
use Rattle.std.proofs.lemmas.List.{get_or_past}
use Rattle.std.specs.Int.{w16, w32, w64, to_be_bytes, from_be_bytes}
use Rattle.cbor_items.specs.declared.head.Head.{Head}
use Rattle.cbor_items.specs.Head.{major_of, info_of, argument_len, value_of, IsHead, head_at, shortest_head, written_head}
use Rattle.cbor_items.specs.Item.{AreBytes}
use Rattle.cbor_items.specs.Law.{CanWrite}
use Rattle.cbor_items.proofs.Heads.{head_again}
use Rattle.cbor_items.proofs.Items.{only_left}

-- a head of a major type, an additional information below 28 and an argument
module _ (major info : ℕ) (below : info < 28) where
  initial : ℕ
  initial = major * 32 + info

  initial-major : major_of initial ≡ major
  unfolding initial
  initial-major = omega arith

  initial-info : info_of initial ≡ info
  unfolding initial
  initial-info = omega arith

  pub head_spelled : (value : ℕ) (argument : List ℕ) → major ≤ 7 → (major ≡ 7 → info < 24) → length argument ≡ argument_len info → value_of info argument ≡ value
      → IsHead (record { major = major; value = value; indefinite = false; size = 1 + length argument }) ((major * 32 + info) ∷ argument)
  unfolding initial
  head_spelled value argument fits simple len is =
      let no_simple : major * 32 + info ≢ 248 = λ e. omega arith in
      let no_31 : eqb info 31 ≡ false = ne_eqb info 31 (λ e. omega arith) in
      record {
        initial = initial;
        argument = argument;
        joined = refl;
        begins = rw (initial-info, lt-ltb info 28 below) refl;
        whole = rw initial-info len;
        follows = rw (ne_eqb initial 248 no_simple) refl;
        is = rw (initial-major, initial-info, is, no_31) refl;
      }

len_small : (info : ℕ) → info < 24 → argument_len info ≡ 0
len_small info lt = rw (ne_eqb info 24 (λ e. omega arith), ne_eqb info 25 (λ e. omega arith), ne_eqb info 26 (λ e. omega arith), ne_eqb info 27 (λ e. omega arith)) refl

-- a value of major type 7 stands in the initial byte
no_simple : (major value : ℕ) → CanWrite major value → ltb value 24 ≡ false → {A : Type 0} → major ≡ 7 → A
no_simple major value can a seven = let lt = can.simple_fits seven in let ge = ltb-false _ _ a in absurd (omega arith)

-- the five widths
shortest_is_head : (major value : ℕ) → CanWrite major value → IsHead (written_head major value) (shortest_head major value)
unfolding shortest_head
shortest_is_head major value can =
    elim (cases_Bool (ltb value 24)) [
      | inl a ↦ let lt = ltb-true _ _ a in
          rw a (head_spelled major value (omega arith) value [] can.major_fits (λ _. lt) (rw (len_small value lt) refl) (rw a refl))
      | inr a ↦ elim (cases_Bool (ltb value 256)) [
        | inl b ↦ rw (a, b) (head_spelled major 24 (omega arith) value (value ∷ []) can.major_fits (no_simple major value can a) refl refl)
        | inr b ↦ elim (cases_Bool (ltb value 65536)) [
          | inl c ↦ rw (a, b, c) (head_spelled major 25 (omega arith) value (to_be_bytes w16 value) can.major_fits (no_simple major value can a) refl
              (from_be_bytes-to_be_bytes_2 value (ltb-true _ _ c)))
          | inr c ↦ elim (cases_Bool (ltb value 4294967296)) [
            | inl d ↦ rw (a, b, c, d) (head_spelled major 26 (omega arith) value (to_be_bytes w32 value) can.major_fits (no_simple major value can a) refl
                (from_be_bytes-to_be_bytes_4 value (ltb-true _ _ d)))
            | inr d ↦ rw (a, b, c, d) (head_spelled major 27 (omega arith) value (to_be_bytes w64 value) can.major_fits (no_simple major value can a) refl
                (from_be_bytes-to_be_bytes_8 value can.value_fits))
          ]
        ]
      ]
    ]

pub are_read_again : (major value : ℕ) (rest : List ℕ) → CanWrite major value
    → IsHead (written_head major value) (shortest_head major value) × (head_at (shortest_head major value ++ rest) ≡ Some (written_head major value))
are_read_again major value rest can =
    let is = shortest_is_head major value can in
    (is, head_again (written_head major value) (shortest_head major value) rest is)

-- ---- no head is shorter

pub record ShortestFits (major value : ℕ) : Type 0 where
  pub one : value < 24 → length (shortest_head major value) ≤ 1
  pub two : value < 256 → length (shortest_head major value) ≤ 2
  pub three : value < 65536 → length (shortest_head major value) ≤ 3
  pub five : value < 4294967296 → length (shortest_head major value) ≤ 5
  pub nine : length (shortest_head major value) ≤ 9

abbrev ShortestIs : ℕ → ℕ → ℕ → Type 0
ShortestIs major value n = length (shortest_head major value) ≡ n

shortest_fits : (major value : ℕ) → ShortestFits major value
unfolding shortest_head
shortest_fits major value =
    elim (cases_Bool (ltb value 24)) [
      | inl a ↦ let len : ShortestIs major value 1 = rw a refl in
          record { one = λ lt. omega arith; two = λ lt. omega arith; three = λ lt. omega arith; five = λ lt. omega arith; nine = omega arith }
      | inr a ↦ let ge = ltb-false _ _ a in elim (cases_Bool (ltb value 256)) [
        | inl b ↦ let len : ShortestIs major value 2 = rw (a, b) refl in
            record { one = λ lt. absurd (omega arith); two = λ lt. omega arith; three = λ lt. omega arith; five = λ lt. omega arith; nine = omega arith }
        | inr b ↦ let ge' = ltb-false _ _ b in elim (cases_Bool (ltb value 65536)) [
          | inl c ↦ let len : ShortestIs major value 3 = rw (a, b, c) refl in
              record { one = λ lt. absurd (omega arith); two = λ lt. absurd (omega arith); three = λ lt. omega arith; five = λ lt. omega arith; nine = omega arith }
          | inr c ↦ let ge'' = ltb-false _ _ c in elim (cases_Bool (ltb value 4294967296)) [
            | inl d ↦ let len : ShortestIs major value 5 = rw (a, b, c, d) refl in
                record { one = λ lt. absurd (omega arith); two = λ lt. absurd (omega arith); three = λ lt. absurd (omega arith); five = λ lt. omega arith; nine = omega arith }
            | inr d ↦ let ge''' = ltb-false _ _ d in let len : ShortestIs major value 9 = rw (a, b, c, d) refl in
                record { one = λ lt. absurd (omega arith); two = λ lt. absurd (omega arith); three = λ lt. absurd (omega arith); five = λ lt. absurd (omega arith); nine = omega arith }
          ]
        ]
      ]
    ]

-- the value of an argument is as large as its bytes allow
module _ (info : ℕ) (argument : List ℕ) (fits : (i : ℕ) → get_or argument i 0 < 256) (major : ℕ) where
  abbrev Enough : Type 0
  Enough = length (shortest_head major (value_of info argument)) ≤ 1 + argument_len info

  enough : info < 28 → Enough
  enough below =
      let s = shortest_fits major (value_of info argument) in
      elim (cases_lt info 24) [
        | inl small ↦
            let v : value_of info argument ≡ info = rw (lt-ltb info 24 small) refl in
            omega (arith, s.one (omega arith))
        | inr large ↦ elim (cases_eq info 24) [
          | inl is ↦
              let v : value_of info argument ≡ get_or argument 0 0 = rw is refl in
              let n : argument_len info ≡ 1 = rw is refl in
              omega (arith, s.two (omega (arith, fits 0)))
          | inr no_24 ↦ elim (cases_eq info 25) [
            | inl is ↦
                let v : value_of info argument ≡ from_be_bytes w16 argument = rw is refl in
                let n : argument_len info ≡ 2 = rw is refl in
                omega (arith, s.three (omega (arith, fits 0, fits 1)))
            | inr no_25 ↦ elim (cases_eq info 26) [
              | inl is ↦
                  let v : value_of info argument ≡ from_be_bytes w32 argument = rw is refl in
                  let n : argument_len info ≡ 4 = rw is refl in
                  omega (arith, s.five (omega (arith, fits 0, fits 1, fits 2, fits 3)))
              | inr no_26 ↦
                  let is : info ≡ 27 = omega arith in
                  let n : argument_len info ≡ 8 = rw is refl in
                  omega (arith, s.nine)
            ]
          ]
        ]
      ]

argument_fits : (initial : ℕ) (argument : List ℕ) → AreBytes (initial ∷ argument) → (i : ℕ) → get_or argument i 0 < 256
argument_fits initial argument are i =
    elim (cases_lt i (length argument)) [
      | inl within ↦ are (suc i) 0 (omega arith)
      | inr past ↦ rw (get_or_past argument i 0 past) (lit< tt)
    ]

pub are_shortest : (head : Head) (bytes : List ℕ) → AreBytes bytes → IsHead head bytes → head.indefinite ≡ false
    → length (shortest_head head.major head.value) ≤ length bytes
are_shortest head bytes are is definite =
    let info = info_of is.initial in
    let no_31 : eqb info 31 ≡ false = sym (ap (λ (h : Head). h.indefinite) is.is) ∙ definite in
    let below : info < 28 = ltb-true _ _ (only_left _ _ _ is.begins no_31) in
    let value : head.value ≡ value_of info is.argument = ap (λ (h : Head). h.value) is.is in
    let are' : AreBytes (is.initial ∷ is.argument) = subst AreBytes is.joined are in
    let e = enough info is.argument (argument_fits is.initial is.argument are') head.major below in
    rw value (omega (arith, e, is.whole, ap length is.joined))
