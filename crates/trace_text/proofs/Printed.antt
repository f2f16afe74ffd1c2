-- Which bytes a printed number can hold.
use Rattle.std.proofs.Common.{◌≡◌, ◌≢◌, ℕ, zero, suc, ◌+◌, ◌/◌, ◌%◌, ◌<◌, ◌≤◌, false, eqb, ltb, List, [], ◌∷◌, ◌++◌, map, arith}
use Rattle.std.specs.List.{All, AllByRecursion, join_with_byte}
use Rattle.std.specs.Fmt.{digits, digits_onto, digit_glyph}
use Rattle.std.proofs.lemmas.Bool.{cond_both, ltb-true, ltb-false, ne_eqb}
use Rattle.std.proofs.lemmas.List.Elements.{All-from_recursion}

-- what holds of each digit holds of each byte
all_onto : (P : ℕ → Type 0) → ((d : ℕ) → P (digit_glyph false d)) → (k base n : ℕ) (bytes : List ℕ) → AllByRecursion P bytes → AllByRecursion P (digits_onto k base false n bytes)
all_onto P each zero base n bytes h = h
all_onto P each (suc k) base n bytes h =
    let more : AllByRecursion P (digit_glyph false (n % base) ∷ bytes) = (each (n % base), h) in
    cond_both (eqb (n / base) 0) (digit_glyph false (n % base) ∷ bytes) (digits_onto k base false (n / base) (digit_glyph false (n % base) ∷ bytes)) (AllByRecursion P)
    (λ e. more) (λ e. all_onto P each k base (n / base) (digit_glyph false (n % base) ∷ bytes) more)

pub all_digits : (P : ℕ → Type 0) → ((d : ℕ) → P (digit_glyph false d)) → (base n : ℕ) → AllByRecursion P (digits base false n)
unfolding digits
all_digits P each base n = all_onto P each 64 base n [] tt

glyph_high : (d : ℕ) → 48 ≤ digit_glyph false d
glyph_high d = cond_both (ltb d 10) (48 + d) (87 + d) (λ c. 48 ≤ c) (λ _. omega arith) (λ _. omega arith)

glyph_between : (c d : ℕ) → 58 ≤ c → c < 97 → digit_glyph false d ≢ c
glyph_between c d low high = cond_both (ltb d 10) (48 + d) (87 + d) (λ b. b ≢ c) (λ h e. let l = ltb-true d 10 h in omega arith) (λ h e. let l = ltb-false d 10 h in omega arith)

-- digits are none of the bytes before '0'
pub digits_apart : (c base n : ℕ) → c < 48 → AllByRecursion (λ b. b ≢ c) (digits base false n)
digits_apart c base n low = all_digits (λ b. b ≢ c) (λ d e. let h = glyph_high d in omega arith) base n

-- nor of those between '9' and 'a'
pub digits_between : (c base n : ℕ) → 58 ≤ c → c < 97 → AllByRecursion (λ b. b ≢ c) (digits base false n)
digits_between c base n low high = all_digits (λ b. b ≢ c) (λ d. glyph_between c d low high) base n

pub all_append : {A : Type 0} (P : A → Type 0) (xs ys : List A) → AllByRecursion P xs → AllByRecursion P ys → AllByRecursion P (xs ++ ys)
all_append P [] ys p q = q
all_append P (x ∷ xs) ys p q = (p.0, all_append P xs ys p.1 q)

-- what holds of each byte of each word, and of what joins them
pub all_join : (P : ℕ → Type 0) (c : ℕ) → P c → (words : List (List ℕ)) → AllByRecursion (AllByRecursion P) words → AllByRecursion P (join_with_byte c words)
all_join P c between [] h = tt
all_join P c between (word ∷ []) h = h.0
all_join P c between (word ∷ next ∷ words) h = all_append P word (c ∷ join_with_byte c (next ∷ words)) h.0 (between, all_join P c between (next ∷ words) h.1)

pub all_map : {A B : Type 0} (P : B → Type 0) (f : A → B) → ((x : A) → P (f x)) → (xs : List A) → AllByRecursion P (map f xs)
all_map P f each [] = tt
all_map P f each (x ∷ xs) = (each x, all_map P f each xs)

weaker : (c : ℕ) (bytes : List ℕ) → AllByRecursion (λ b. b ≢ c) bytes → AllByRecursion (λ b. eqb b c ≡ false) bytes
weaker c [] h = tt
weaker c (b ∷ bytes) h = (ne_eqb b c h.0, weaker c bytes h.1)

pub tested_apart : (c : ℕ) (bytes : List ℕ) → AllByRecursion (λ b. b ≢ c) bytes → All (λ b. eqb b c ≡ false) bytes
tested_apart c bytes h = All-from_recursion (λ b. eqb b c ≡ false) bytes (weaker c bytes h)
