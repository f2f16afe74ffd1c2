-- A piece of bytes has one spelling: its digits in lower case.
use Rattle.std.proofs.Common.{◌≡◌, ◌≢◌, ℕ, suc, ◌+◌, ◌*◌, ◌/◌, ◌%◌, ◌<◌, ◌≤◌, true, ◌&&◌, leb, List, [], ◌∷◌, length, get_or, Option, Some, None, refl, sym, ap, ◌∙◌, arith, inl, inr}
use Rattle.std.specs.Prelude.{Result, Ok, Err}
use Rattle.std.specs.List.{All, list_all}
use Rattle.std.proofs.lemmas.Bool.{and_parts, and_from, cases_lt, leb-true, le-leb, cond-true}
use Rattle.std.proofs.lemmas.Bool.Decides.{nat_tests}
use Rattle.std.proofs.lemmas.Option.{same_Some}
use Rattle.std.proofs.lemmas.List.{get_or_past}
use Rattle.std.proofs.lemmas.List.Elements.{All-get_or, All-from_get_or}
use Rattle.std.proofs.lemmas.List.Sums.{AllPass-from_list_all}
use Rattle.hex.specs.Hex.{◌>>=◌, IsBytes, decode_of, decode_pairs, digit_or_error, hex_digit_value, value_at, pair_value, lower_digits, encode_with, encode_lower}
use Rattle.hex.specs.declared.error.FromHexError.{FromHexError}
use Rattle.hex.proofs.HexLemmas.{IsDigits-lower_digits, length-encode_with, decode_of-encode_lower, decode_of-even, decode_of-ok}
use Rattle.net_base.specs.Limits.{IsPiece}
use Rattle.trace_text.specs.Events.{is_lower_digit, decoded, piece_of}
use Rattle.trace_text.proofs.Spelling.{cond_same}

-- ---- digits

lower_digit : (d : ℕ) → d < 16 → is_lower_digit (get_or lower_digits d 0) ≡ true
lower_digit d h = All-get_or (λ c. is_lower_digit c ≡ true) lower_digits d 0 h (AllPass-from_list_all is_lower_digit lower_digits refl)

-- lower digits of one value are one digit
same_digit : (a b v : ℕ) → is_lower_digit a ≡ true → is_lower_digit b ≡ true → hex_digit_value a ≡ Some v → hex_digit_value b ≡ Some v → a ≡ b
same_digit a b v p q r s = grind (arith, nat_tests)

small_value : (c v : ℕ) → hex_digit_value c ≡ Some v → v < 16
small_value c v h = grind (arith, nat_tests)

digit_again : (c v : ℕ) → is_lower_digit c ≡ true → hex_digit_value c ≡ Some v → c ≡ get_or lower_digits v 0
digit_again c v h e =
    let small = small_value c v e in
    same_digit c (get_or lower_digits v 0) v h (lower_digit v small) e (IsDigits-lower_digits v small)

-- ---- pairs of digits

bind_ok : {A B : Type 0} (r : Result A FromHexError) (f : A → Result B FromHexError) (y : B) → (r >>= f) ≡ Ok y → (x : A) × (r ≡ Ok x) × (f x ≡ Ok y)
bind_ok (Ok x) f y h = (x, refl, h)
bind_ok (Err e) f y h = absurd cc

same_Ok : {A : Type 0} (x y : A) → ◌≡◌ {A = Result A FromHexError} (Ok x) (Ok y) → x ≡ y
same_Ok x y h = cc

read_digit : (c i : ℕ) (o : Option ℕ) (v : ℕ) → digit_or_error c i o ≡ Ok v → o ≡ Some v
read_digit c i (Some w) v h = ap Some (same_Ok w v h)
read_digit c i None v h = absurd cc

pair_again : (high low i byte : ℕ) → is_lower_digit high ≡ true → is_lower_digit low ≡ true → pair_value high low i ≡ Ok byte →
    (high ≡ get_or lower_digits (byte / 16) 0) × (low ≡ get_or lower_digits (byte % 16) 0)
pair_again high low i byte h l e =
    let p = bind_ok (value_at high i) (λ h. value_at low (i + 1) >>= λ l. Ok (h * 16 + l)) byte e in
    let q = bind_ok (value_at low (i + 1)) (λ l. Ok (p.0 * 16 + l)) byte p.2 in
    let upper = read_digit high i (hex_digit_value high) p.0 p.1 in
    let lower = read_digit low (i + 1) (hex_digit_value low) q.0 q.1 in
    let small = small_value low q.0 lower in
    let whole = same_Ok (p.0 * 16 + q.0) byte q.2 in
    let first : p.0 ≡ byte / 16 = omega (arith, whole, small) in
    let second : q.0 ≡ byte % 16 = omega (arith, whole, small) in
    (digit_again high p.0 h upper ∙ ap (λ d. get_or lower_digits d 0) first, digit_again low q.0 l lower ∙ ap (λ d. get_or lower_digits d 0) second)

pairs_again : (i : ℕ) (word bytes : List ℕ) → list_all is_lower_digit word ≡ true → decode_pairs i word ≡ Ok bytes → word ≡ encode_lower bytes
unfolding encode_with decode_pairs
pairs_again i [] bytes h e = let none = same_Ok [] bytes e in ap encode_lower none
pairs_again i (digit ∷ []) bytes h e = absurd cc
pairs_again i (high ∷ low ∷ rest) bytes h e =
    let (first, others) = and_parts (is_lower_digit high) (list_all is_lower_digit (low ∷ rest)) h in
    let (second, more) = and_parts (is_lower_digit low) (list_all is_lower_digit rest) others in
    let p = bind_ok (pair_value high low i) (λ byte. decode_pairs (i + 2) rest >>= λ bytes. Ok (byte ∷ bytes)) bytes e in
    let q = bind_ok (decode_pairs (i + 2) rest) (λ bytes. Ok (p.0 ∷ bytes)) bytes p.2 in
    let (upper, lower) = pair_again high low i p.0 first second p.1 in
    ap (λ c. c ∷ low ∷ rest) upper
    ∙ ap (λ c. get_or lower_digits (p.0 / 16) 0 ∷ c ∷ rest) lower
    ∙ ap (λ text. get_or lower_digits (p.0 / 16) 0 ∷ get_or lower_digits (p.0 % 16) 0 ∷ text) (pairs_again (i + 2) rest q.0 more q.1)
    ∙ ap encode_lower (same_Ok (p.0 ∷ q.0) bytes q.2)

-- ---- pieces

bytes_from_all : (bytes : List ℕ) → All (λ b. b < 256) bytes → IsBytes bytes
bytes_from_all bytes h i = elim (cases_lt i (length bytes)) [
  | inl inside ↦ All-get_or (λ b. b < 256) bytes i 0 inside h
  | inr past ↦ omega (arith, get_or_past bytes i 0 past)
]

all_lower : (bytes : List ℕ) → IsBytes bytes → list_all is_lower_digit (encode_lower bytes) ≡ true
unfolding encode_with
all_lower [] h = refl
all_lower (b ∷ bytes) h =
    let fits : b < 256 = h 0 in
    and_from _ _ (lower_digit (b / 16) (omega arith)) (and_from _ _ (lower_digit (b % 16) (omega arith)) (all_lower bytes (λ i. h (suc i))))

decoded_some : (r : Result (List ℕ) FromHexError) (bytes : List ℕ) → decoded r ≡ Some bytes → r ≡ Ok bytes
decoded_some (Ok found) bytes h = ap Ok (same_Some found bytes h)
decoded_some (Err refusal) bytes h = absurd cc

pub record IsPieceOfBytes (bytes : List ℕ) : Type 0 where
  pub piece : IsPiece bytes
  pub below : All (λ b. b < 256) bytes

pub piece_only : (word bytes : List ℕ) → piece_of word ≡ Some bytes → (word ≡ encode_lower bytes) × IsPieceOfBytes bytes
piece_only word bytes e =
    let p = cond_same (list_all is_lower_digit word && leb 2 (length word) && leb (length word) 131072) (decoded (decode_of word)) bytes e in
    let (front, short) = and_parts (list_all is_lower_digit word && leb 2 (length word)) (leb (length word) 131072) p.0 in
    let (lower, some) = and_parts (list_all is_lower_digit word) (leb 2 (length word)) front in
    let read = decoded_some (decode_of word) bytes p.1 in
    let ok = decode_of-ok word bytes read in
    let least = leb-true 2 (length word) some in
    let most = leb-true (length word) 131072 short in
    let twice = ok.2 in (
      pairs_again 0 word bytes lower (sym (decode_of-even word ok.0) ∙ read),
      record {
        piece = (omega (arith, twice, least), omega (arith, twice, most));
        below = All-from_get_or (λ b. b < 256) bytes 0 (λ i inside. ok.3 i);
      },
    )

pub piece_again : (bytes : List ℕ) → IsPieceOfBytes bytes → piece_of (encode_lower bytes) ≡ Some bytes
piece_again bytes h =
    let fit = bytes_from_all bytes h.below in
    let twice = length-encode_with lower_digits bytes in
    let least : 2 ≤ length (encode_lower bytes) = omega (arith, twice, h.piece.0) in
    let most : length (encode_lower bytes) ≤ 131072 = omega (arith, twice, h.piece.1) in
    cond-true (list_all is_lower_digit (encode_lower bytes) && leb 2 (length (encode_lower bytes)) && leb (length (encode_lower bytes)) 131072)
    (decoded (decode_of (encode_lower bytes))) None
    (and_from _ _ (and_from _ _ (all_lower bytes fit) (le-leb 2 _ least)) (le-leb _ 131072 most))
    ∙ ap decoded (decode_of-encode_lower bytes fit)

-- ---- digits in lower case are bytes

some_of : (o : Option ℕ) → (o ≡ None → ⊥) → (v : ℕ) × (o ≡ Some v)
some_of None is_some = absurd (is_some refl)
some_of (Some v) is_some = (v, refl)

has_value : (c : ℕ) → is_lower_digit c ≡ true → hex_digit_value c ≡ None → ⊥
has_value c h none = grind (arith, nat_tests)

pair_read : (i high low a b : ℕ) (rest bytes : List ℕ) → hex_digit_value high ≡ Some a → hex_digit_value low ≡ Some b → decode_pairs (i + 2) rest ≡ Ok bytes
    → decode_pairs i (high ∷ low ∷ rest) ≡ Ok ((a * 16 + b) ∷ bytes)
unfolding decode_pairs
pair_read i high low a b rest bytes upper lower behind = rw (upper, lower, behind) refl

pairs_are_read : (i : ℕ) (word : List ℕ) → list_all is_lower_digit word ≡ true → length word % 2 ≡ 0 → (bytes : List ℕ) × (decode_pairs i word ≡ Ok bytes)
unfolding decode_pairs
pairs_are_read i [] h even = ([], refl)
pairs_are_read i (digit ∷ []) h even = absurd cc
pairs_are_read i (high ∷ low ∷ rest) h even =
    let (first, others) = and_parts (is_lower_digit high) (list_all is_lower_digit (low ∷ rest)) h in
    let (second, more) = and_parts (is_lower_digit low) (list_all is_lower_digit rest) others in
    let upper = some_of (hex_digit_value high) (has_value high first) in
    let lower = some_of (hex_digit_value low) (has_value low second) in
    let behind = pairs_are_read (i + 2) rest more (omega arith) in
    ((upper.0 * 16 + lower.0) ∷ behind.0, pair_read i high low upper.0 lower.0 rest behind.0 upper.1 lower.1 behind.1)

pub piece_is_some : (word : List ℕ) → list_all is_lower_digit word ≡ true → 2 ≤ length word → length word ≤ 131072 → length word % 2 ≡ 0 → piece_of word ≢ None
piece_is_some word lower least most even none =
    let read = pairs_are_read 0 word lower even in
    let some : piece_of word ≡ Some read.0 =
    cond-true (list_all is_lower_digit word && leb 2 (length word) && leb (length word) 131072) (decoded (decode_of word)) None
    (and_from _ _ (and_from _ _ lower (le-leb 2 _ least)) (le-leb _ 131072 most))
    ∙ ap decoded (decode_of-even word even ∙ read.1) in
    absurd cc
