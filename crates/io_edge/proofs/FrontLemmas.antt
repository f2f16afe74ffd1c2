-- A front of a line that is held, and the bytes ahead of it.
use Rattle.std.proofs.Common.{◌≡◌, ℕ, ◌+◌, ◌-◌, ◌<◌, ◌≤◌, List, [], ◌∷◌, ◌++◌, length, take, drop, refl, sym, ap, ap₂, subst, ◌∙◌, ◌⊎◌, inl, inr, ⊎_elim, arith}
use Rattle.std.specs.List.{before_first, position_or_len, copy_within}
use Rattle.std.proofs.lemmas.Bool.{cases_lt}
use Rattle.std.proofs.lemmas.List.{append_assoc, length-append, length-take, length-drop, drop-drop, drop_all, take_all, take-append-le, drop-append-le}
use lib.Seq.{drop-append-add}
use Rattle.std.proofs.lemmas.List.Edits.{paste_all}
use Rattle.std.proofs.lemmas.List.Elements.{All-nil}
use Rattle.std.proofs.lemmas.List.Sums.{prefix_len-le-length}
use Rattle.io_edge.specs.Lines.{is_line_feed, StandsInLine, HasNoLineFeed, line_limit, FitsLine, IsPastLimit}
use Rattle.io_edge.proofs.LineLemmas.{HasNoLineFeed-append, HasNoLineFeed-before_first, before_first-append, first_cut}

-- how many bytes of the line are there
pub line_so_far : (held ahead : List ℕ) → HasNoLineFeed held → length (before_first is_line_feed (held ++ ahead)) ≡ length held + position_or_len is_line_feed ahead
line_so_far held ahead clean =
    let bound : position_or_len is_line_feed ahead ≤ length ahead = prefix_len-le-length _ ahead in
    ap length (before_first-append held ahead clean)
    ∙ omega (arith, length-append held (before_first is_line_feed ahead), length-take (position_or_len is_line_feed ahead) ahead)

pub too_long : (held ahead : List ℕ) → FitsLine held → line_limit < length held + position_or_len is_line_feed ahead → IsPastLimit (held ++ ahead)
too_long held ahead fits more = omega (arith, line_so_far held ahead fits.one_line)

pub not_too_long : (held ahead : List ℕ) → FitsLine held → length held + position_or_len is_line_feed ahead ≤ line_limit → IsPastLimit (held ++ ahead) → ⊥
not_too_long held ahead fits less past = omega (arith, line_so_far held ahead fits.one_line)

-- what stands before the first line feed joins what is held
pub still_fits : (held ahead joined : List ℕ) (n : ℕ) → FitsLine held → n ≡ position_or_len is_line_feed ahead → length held + n ≤ line_limit → joined ≡ held ++ take n ahead → FitsLine joined
still_fits held ahead joined n fits at less join =
    let front : joined ≡ held ++ before_first is_line_feed ahead = rw (join, at) refl in
    rw front (record {
      one_line = HasNoLineFeed-append held (before_first is_line_feed ahead) fits.one_line (HasNoLineFeed-before_first ahead);
      short = omega (arith, length-append held (before_first is_line_feed ahead), length-take (position_or_len is_line_feed ahead) ahead);
    })

-- where no line feed is found, all is joined
pub all_joined : (held ahead joined : List ℕ) (n : ℕ) → length ahead ≤ n → joined ≡ held ++ take n ahead → joined ≡ held ++ ahead
all_joined held ahead joined n far join = join ∙ ap (λ (xs : List ℕ). held ++ xs) (take_all n ahead far)

-- where one is found, the line ends there
pub line_found : (held ahead joined : List ℕ) (n : ℕ) → n ≡ position_or_len is_line_feed ahead → n < length ahead → joined ≡ held ++ take n ahead → held ++ ahead ≡ joined ++ 10 ∷ drop 1 (drop n ahead)
line_found held ahead joined n at found join =
    let within : position_or_len is_line_feed ahead < length ahead = omega arith in
    rw (join, at) (
    ap (λ (xs : List ℕ). held ++ xs) (first_cut ahead within)
    ∙ sym (append_assoc held (before_first is_line_feed ahead) _)
    ∙ ap (λ (xs : List ℕ). (held ++ before_first is_line_feed ahead) ++ 10 ∷ xs) (sym (drop-drop 1 (position_or_len is_line_feed ahead) ahead)))

-- where none is, the bytes are the front of a line, or of one that is too long
pub unended : (held ahead : List ℕ) → FitsLine held → length ahead ≡ position_or_len is_line_feed ahead → FitsLine (held ++ ahead) ⊎ IsPastLimit (held ++ ahead)
unended held ahead fits end =
    let far : length ahead ≤ position_or_len is_line_feed ahead = omega arith in
    ⊎_elim
    (λ more. inr (too_long held ahead fits more))
    (λ less. inl (subst FitsLine (all_joined held ahead _ _ far refl) (still_fits held ahead _ _ fits refl less refl)))
    (cases_lt line_limit (length held + position_or_len is_line_feed ahead))

-- the first line, where nothing is held
pub first_cut_off : (bytes : List ℕ) (n : ℕ) → n ≡ position_or_len is_line_feed bytes → n < length bytes → n ≤ line_limit →
    FitsLine (take n bytes) × (bytes ≡ take n bytes ++ 10 ∷ drop (length (take n bytes) + 1) bytes)
first_cut_off bytes n at found few =
    let none : FitsLine [] = record { one_line = All-nil StandsInLine; short = omega arith } in
    let size : length (take n bytes) ≡ n = omega (arith, length-take n bytes) in
    let cut : bytes ≡ take n bytes ++ 10 ∷ drop 1 (drop n bytes) = line_found [] bytes (take n bytes) n at found refl in (
      still_fits [] bytes (take n bytes) n none at (omega arith) refl,
      subst (λ (k : ℕ). bytes ≡ take n bytes ++ 10 ∷ drop (k + 1) bytes) (sym size) (cut ∙ ap (λ (xs : List ℕ). take n bytes ++ 10 ∷ xs) (drop-drop 1 n bytes)),
    )

-- what is held and ahead, where the first of them are given up and some are held
pub given_up : (held ahead : List ℕ) (count first : ℕ) → (count ≤ length held → first ≡ count) → (length held < count → first ≡ length held) → first ≤ length held →
    take (length held - first) (copy_within held first (length held) 0) ++ drop (count - first) ahead ≡ drop count (held ++ ahead)
given_up held ahead count first short long within =
    let size : length (drop first held) ≡ length held - first = length-drop first held in
    let kept : take (length held - first) (copy_within held first (length held) 0) ≡ drop first held =
    ap (take (length held - first)) (paste_all held 0 (drop first held) (length held - first) (sym size))
    ∙ take-append-le (length held - first) (drop first held) (drop (0 + (length held - first)) held) (omega arith) ∙ take_all (length held - first) (drop first held) (omega arith) in
    ⊎_elim
    (λ more.
    let all : length held ≡ first = sym (long more) in
    let whole : length held + (count - first) ≡ count = omega (arith, all, more) in
    ap₂ (λ (p q : List ℕ). p ++ q) (kept ∙ drop_all first held (omega (arith, all))) refl
    ∙ sym (drop-append-add held ahead (count - first)) ∙ ap (λ (k : ℕ). drop k (held ++ ahead)) whole)
    (λ less.
    let same : first ≡ count = short less in
    let none : count - first ≡ 0 = omega (arith, same) in
    ap₂ (λ (p q : List ℕ). p ++ q) (kept ∙ ap (λ (k : ℕ). drop k held) same) (ap (λ (k : ℕ). drop k ahead) none) ∙ sym (drop-append-le count held ahead less))
    (cases_lt (length held) count)
