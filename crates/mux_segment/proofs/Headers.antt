-- Headers and their eight bytes.
use Rattle.std.proofs.Common.{◌≡◌, ℕ, ◌+◌, ◌*◌, ◌/◌, ◌%◌, ◌^◌, ◌≤◌, ◌<◌, List, ◌++◌, length, take, drop, get_or, refl, sym, ap, ◌∙◌, arith, inl, inr, lit<}
use Rattle.std.specs.Int.{w16, w32, to_be_bytes, from_be_bytes}
use Rattle.std.proofs.lemmas.Bool.{cases_lt}
use Rattle.std.proofs.lemmas.List.{get_or-take, get_or-drop, get_or_past, length-take, length-drop, take-append-drop, drop-drop, append_assoc, take_all}
use Rattle.std.proofs.lemmas.Nat.{be_bytes_2, be_bytes_4, from_be_bytes-to_be_bytes_2, from_be_bytes-to_be_bytes_4, div-add-mod', div-mul-add, mod-mul-add}
use Rattle.cbor_items.specs.Item.{AreBytes}
use Rattle.mux_segment.specs.declared.header.Header.{Header}
use Rattle.mux_segment.specs.Segment.{header_bytes, header_of, FitsHeader}

-- every number of the list is a byte
abbrev pub Fit : List ℕ → Type 0
Fit bytes = (i : ℕ) → get_or bytes i 0 < 256

pub Fit-drop : (n : ℕ) (bytes : List ℕ) → Fit bytes → Fit (drop n bytes)
Fit-drop n bytes fits i = rw get_or-drop (fits (n + i))

pub Fit-take : (n : ℕ) (bytes : List ℕ) → Fit bytes → Fit (take n bytes)
Fit-take n bytes fits i =
    elim (cases_lt i n) [
      | inl below ↦ rw (get_or-take n bytes i 0 below) (fits i)
      | inr past ↦ rw (get_or_past (take n bytes) i 0 (omega (arith, length-take n bytes))) (lit< tt)
    ]

pub Fit-from_bytes : (bytes : List ℕ) → AreBytes bytes → Fit bytes
Fit-from_bytes bytes are i =
    elim (cases_lt i (length bytes)) [
      | inl within ↦ are i 0 within
      | inr past ↦ rw (get_or_past bytes i 0 past) (lit< tt)
    ]

-- numbers and the bytes that they were read from
four_bytes : (bytes : List ℕ) (n : ℕ) → 4 ≤ length bytes → Fit bytes → n ≡ from_be_bytes w32 bytes → to_be_bytes w32 n ≡ take 4 bytes
four_bytes bytes n long fits e =
    let same : n ≡ from_be_bytes w32 (take 4 bytes) =
    omega (arith, e, get_or-take 4 bytes 0 0 (lit< tt), get_or-take 4 bytes 1 0 (lit< tt), get_or-take 4 bytes 2 0 (lit< tt), get_or-take 4 bytes 3 0 (lit< tt)) in
    be_bytes_4 (take 4 bytes) n (omega (arith, length-take 4 bytes)) (Fit-take 4 bytes fits) same

two_bytes : (bytes : List ℕ) (n : ℕ) → 2 ≤ length bytes → Fit bytes → n ≡ from_be_bytes w16 bytes → to_be_bytes w16 n ≡ take 2 bytes
two_bytes bytes n long fits e =
    let same : n ≡ from_be_bytes w16 (take 2 bytes) =
    omega (arith, e, get_or-take 2 bytes 0 0 (lit< tt), get_or-take 2 bytes 1 0 (lit< tt)) in
    be_bytes_2 (take 2 bytes) n (omega (arith, length-take 2 bytes)) (Fit-take 2 bytes fits) same

-- eight bytes, by their three numbers
pub eight_bytes : (bytes : List ℕ) (time word size : ℕ) → length bytes ≡ 8 → Fit bytes
    → time ≡ from_be_bytes w32 bytes → word ≡ from_be_bytes w16 (drop 4 bytes) → size ≡ from_be_bytes w16 (drop 6 bytes)
    → to_be_bytes w32 time ++ to_be_bytes w16 word ++ to_be_bytes w16 size ≡ bytes
eight_bytes bytes time word size len fits t w s =
    let first = four_bytes bytes time (omega arith) fits t in
    let second = two_bytes (drop 4 bytes) word (omega (arith, length-drop 4 bytes)) (Fit-drop 4 bytes fits) w in
    let third = two_bytes (drop 6 bytes) size (omega (arith, length-drop 6 bytes)) (Fit-drop 6 bytes fits) s in
    let last : take 2 (drop 6 bytes) ≡ drop 6 bytes = take_all 2 (drop 6 bytes) (omega (arith, length-drop 6 bytes)) in
    let inner : take 2 (drop 4 bytes) ++ drop 6 bytes ≡ drop 4 bytes = ap (λ (x : List ℕ). take 2 (drop 4 bytes) ++ x) (sym (drop-drop 2 4 bytes)) ∙ take-append-drop 2 (drop 4 bytes) in
    let joined : (take 4 bytes ++ take 2 (drop 4 bytes)) ++ drop 6 bytes ≡ bytes =
    append_assoc (take 4 bytes) (take 2 (drop 4 bytes)) (drop 6 bytes) ∙ ap (λ (x : List ℕ). take 4 bytes ++ x) inner ∙ take-append-drop 4 bytes in
    ap (λ (x : List ℕ). (x ++ to_be_bytes w16 word) ++ to_be_bytes w16 size) first
    ∙ ap (λ (x : List ℕ). (take 4 bytes ++ x) ++ to_be_bytes w16 size) second
    ∙ ap (λ (x : List ℕ). (take 4 bytes ++ take 2 (drop 4 bytes)) ++ x) (third ∙ last)
    ∙ joined

pub header_back : (bytes : List ℕ) → length bytes ≡ 8 → Fit bytes → header_bytes (header_of bytes) ≡ bytes
header_back bytes len fits =
    let word = from_be_bytes w16 (drop 4 bytes) in
    let halves : word / 2 ^ 15 * 2 ^ 15 + word % 2 ^ 15 ≡ word = div-add-mod' word (2 ^ 15) in
    eight_bytes bytes (from_be_bytes w32 bytes) (word / 2 ^ 15 * 2 ^ 15 + word % 2 ^ 15) (from_be_bytes w16 (drop 6 bytes)) len fits refl halves refl

pub header_fits : (bytes : List ℕ) → Fit bytes → FitsHeader (header_of bytes)
header_fits bytes fits =
    let second = Fit-drop 4 bytes fits in
    let third = Fit-drop 6 bytes fits in
    record {
      time = omega (arith, fits 0, fits 1, fits 2, fits 3);
      side = omega (arith, second 0, second 1);
      id = omega arith;
      size = omega (arith, third 0, third 1);
    }

-- a header is read again from its bytes, whatever follows them
pub header_again : (h : Header) (after : List ℕ) → FitsHeader h → header_of (header_bytes h ++ after) ≡ h
header_again h after fits =
    let time : from_be_bytes w32 (to_be_bytes w32 h.time) ≡ h.time = from_be_bytes-to_be_bytes_4 h.time fits.time in
    let word : from_be_bytes w16 (to_be_bytes w16 (h.side * 2 ^ 15 + h.id)) ≡ h.side * 2 ^ 15 + h.id = from_be_bytes-to_be_bytes_2 (h.side * 2 ^ 15 + h.id) (omega (arith, fits.side, fits.id)) in
    let size : from_be_bytes w16 (to_be_bytes w16 h.size) ≡ h.size = from_be_bytes-to_be_bytes_2 h.size fits.size in
    let side-is : (h.side * 2 ^ 15 + h.id) / 2 ^ 15 ≡ h.side = div-mul-add h.side (2 ^ 15) h.id fits.id in
    let id-is : (h.side * 2 ^ 15 + h.id) % 2 ^ 15 ≡ h.id = mod-mul-add h.side (2 ^ 15) h.id fits.id in
    rw (time, word, size, side-is, id-is) refl
