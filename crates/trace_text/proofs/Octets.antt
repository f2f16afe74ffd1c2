-- Four octets have one dotted spelling, the one that std reads.
use Rattle.std.proofs.Common.{◌≡◌, ℕ, ◌/◌, ◌%◌, ◌^◌, ◌<◌, List, [], ◌∷◌, map, Option, Some, None, decimal, refl, sym, ap, ◌∙◌, arith, append_assoc, lit<}
use Rattle.std.specs.List.{join_with_byte}
use Rattle.std.specs.Int.{w32, from_be_bytes}
use Rattle.std.specs.Int.Digits.{number_from_digits, AllBelowBase}
use Rattle.std.specs.Net.Text.{dotted_text}
use Rattle.std.specs.Net.Grammar.{IsDotted}
use Rattle.net_base.specs.Number.{number_up_to}
use Rattle.std.proofs.lemmas.Int.Digits.{number_lt}
use Rattle.trace_text.specs.Addresses.{octets_of, low_digits}
use Rattle.trace_text.proofs.Numerals.{number_up_to-decimal, decimal-number_up_to}
use Rattle.trace_text.proofs.Printed.{digits_apart, tested_apart}
use Rattle.trace_text.proofs.Spelling.{IsSpelling, reads_again, reads_only, spelled}
use Rattle.trace_text.proofs.Digits.{low_digits-number}

pub numbers_again : (n : ℕ) → n < 256 → number_up_to 255 (decimal n) ≡ Some n
numbers_again n fits = number_up_to-decimal 255 n (omega arith) (lit< tt)

pub numbers_only : (word : List ℕ) (n : ℕ) → number_up_to 255 word ≡ Some n → (word ≡ decimal n) × (n < 256)
numbers_only word n e = let p = decimal-number_up_to 255 word n e (lit< tt) in (p.0, omega (arith, p.1))

pub IsSpelling-octets : IsSpelling 46 256 (number_up_to 255) decimal
IsSpelling-octets = record {
  inverse = record { again = numbers_again; only = numbers_only };
  apart = λ n _. tested_apart 46 (decimal n) (digits_apart 46 10 n (lit< tt));
}

pub dotted_join : (a b c d : ℕ) → dotted_text a b c d ≡ join_with_byte 46 (map decimal (a ∷ b ∷ c ∷ d ∷ []))
dotted_join a b c d = simp append_assoc

-- four octets as a number
number_of_octets : (a b c d : ℕ) → from_be_bytes w32 (a ∷ b ∷ c ∷ d ∷ []) ≡ number_from_digits 256 (a ∷ b ∷ c ∷ d ∷ [])
number_of_octets a b c d = omega arith

octets_fit : (a b c d : ℕ) → (a < 256) × (b < 256) × (c < 256) × (d < 256) → AllBelowBase 256 (a ∷ b ∷ c ∷ d ∷ [])
octets_fit a b c d h = (h.0, (h.1, (h.2, (h.3, tt))))

octets_of-text : (a b c d : ℕ) → (a < 256) × (b < 256) × (c < 256) × (d < 256) → octets_of (dotted_text a b c d) ≡ Some (number_from_digits 256 (a ∷ b ∷ c ∷ d ∷ []))
octets_of-text a b c d fit =
    let octets : List ℕ = a ∷ b ∷ c ∷ d ∷ [] in
    let below : AllBelowBase 256 octets = octets_fit a b c d fit in
    let n : ℕ = number_from_digits 256 octets in
    let small : n < 256 ^ 4 = number_lt 256 octets below in
    ap octets_of (dotted_join a b c d ∙ ap (λ (ds : List ℕ). join_with_byte 46 (map decimal ds)) (sym (low_digits-number 256 4 octets refl below)))
    ∙ reads_again 46 256 (number_up_to 255) decimal IsSpelling-octets 3 n (omega arith) small

-- what std reads
pub octets_of-dotted : (text octets : List ℕ) → IsDotted text octets → octets_of text ≡ Some (from_be_bytes w32 octets)
octets_of-dotted text octets h =
    ap octets_of h.spelled ∙ octets_of-text h.a h.b h.c h.d h.fit
    ∙ ap Some (sym (number_of_octets h.a h.b h.c h.d) ∙ ap (from_be_bytes w32) (sym h.value))

dotted : (n : ℕ) (text : List ℕ) → text ≡ spelled 46 256 (number_up_to 255) decimal IsSpelling-octets 4 n → IsDotted text (low_digits 256 4 n)
dotted n text e = record {
  a = n / 256 ^ 3 % 256;
  b = n / 256 ^ 2 % 256;
  c = n / 256 ^ 1 % 256;
  d = n / 256 ^ 0 % 256;
  fit = (omega arith, omega arith, omega arith, omega arith);
  value = refl;
  spelled = e ∙ sym (dotted_join (n / 256 ^ 3 % 256) (n / 256 ^ 2 % 256) (n / 256 ^ 1 % 256) (n / 256 ^ 0 % 256));
}

-- what it does not read
pub octets_of-none : (text : List ℕ) → ((octets : List ℕ) → IsDotted text octets → ⊥) → octets_of text ≡ None
octets_of-none text none = go (octets_of text) refl
  where
    go : (o : Option ℕ) → octets_of text ≡ o → octets_of text ≡ None
    go None e = e
    go (Some n) e = absurd (none (low_digits 256 4 n) (dotted n text (reads_only 46 256 (number_up_to 255) decimal IsSpelling-octets 4 n text e).0))
