-- Bytes cut at their line feeds, and lines past their limit.
use Rattle.std.proofs.Common.{◌≡◌, ℕ, ◌+◌, ◌-◌, ◌<◌, ◌≤◌, false, List, [], ◌∷◌, ◌++◌, length, get_or, take, All, refl, sym, ap, ◌∙◌, subst, ⊎_elim, arith}
use Rattle.std.specs.List.{onto_first, before_first, after_first, position_or_len, join_with_byte}
use Rattle.std.proofs.lemmas.Bool.{eqb-true, eq-eqb, cases_Bool, cases_lt, false≢true}
use Rattle.std.proofs.lemmas.List.{append_assoc, append-nil, length-append, length-take, take_all, take_at, get_or_at, get_or_append_left, get_or-take}
use Rattle.std.proofs.lemmas.List.Elements.{All-nil, All-cons, All-head, All-tail, All-append, All-take, All-get_or, All-weaker}
use Rattle.std.proofs.lemmas.List.Folds.{prefix_len-append}
use Rattle.std.proofs.lemmas.List.Sums.{split_at_first, fails_before_first, passes_at_first, position_or_len_is}
use Rattle.std.proofs.lemmas.List.Splits.{slice_split_none, slice_split_at, length-slice_split, join_with_byte-slice_split, slice_split-cons_yes, slice_split-cons_no}
use Rattle.std.proofs.lemmas.Grind.{flat_map-append}
use Rattle.std.proofs.Math.Seq.{take-append-add}
use Rattle.io_edge.specs.Lines.{is_line_feed, StandsInLine, HasNoLineFeed, parts_of, whole_lines, unfinished_line, ended_lines, CutsInto, line_limit, FitsLine, IsPastLimit}

-- the front of bytes with no line feed has none either
pub HasNoLineFeed-front : (xs ys : List ℕ) → HasNoLineFeed (xs ++ ys) → HasNoLineFeed xs
HasNoLineFeed-front xs ys clean k d within =
    rw (← get_or_append_left xs ys d k within) (clean k d (omega (arith, length-append xs ys)))

pub HasNoLineFeed-append : (xs ys : List ℕ) → HasNoLineFeed xs → HasNoLineFeed ys → HasNoLineFeed (xs ++ ys)
HasNoLineFeed-append xs ys a b = All-append StandsInLine xs ys a b

-- where a line feed stands, the bytes are no line
pub HasNoLineFeed-not : (line rest : List ℕ) → HasNoLineFeed (line ++ 10 ∷ rest) → ⊥
HasNoLineFeed-not line rest clean =
    let is_feed : get_or (line ++ 10 ∷ rest) (length line) 0 ≡ 10 = get_or_at line 10 rest 0 (length line) refl in
    false≢true (sym (clean (length line) 0 (omega (arith, length-append line (10 ∷ rest)))) ∙ ap is_line_feed is_feed)

position_line : (line rest : List ℕ) → HasNoLineFeed line → position_or_len is_line_feed (line ++ 10 ∷ rest) ≡ length line
position_line line rest clean =
    position_or_len_is is_line_feed (line ++ 10 ∷ rest) (length line) 0
    (omega (arith, length-append line (10 ∷ rest)))
    (λ k below. rw (get_or_append_left line (10 ∷ rest) 0 k below) (clean k 0 below))
    (λ within. ap is_line_feed (get_or_at line 10 rest 0 (length line) refl))

position_clean : (bytes : List ℕ) → HasNoLineFeed bytes → position_or_len is_line_feed bytes ≡ length bytes
position_clean bytes clean =
    position_or_len_is is_line_feed bytes (length bytes) 0 (omega arith) (λ k below. clean k 0 below) (λ within. absurd (omega arith))

-- what stands before the first line feed
pub before_first-line : (line rest : List ℕ) → HasNoLineFeed line → before_first is_line_feed (line ++ 10 ∷ rest) ≡ line
before_first-line line rest clean = rw (position_line line rest clean) (take_at line (10 ∷ rest) (length line) refl)

pub before_first-none : (bytes : List ℕ) → HasNoLineFeed bytes → before_first is_line_feed bytes ≡ bytes
before_first-none bytes clean = take_all _ bytes (omega (arith, position_clean bytes clean))

position_append : (xs ys : List ℕ) → HasNoLineFeed xs → position_or_len is_line_feed (xs ++ ys) ≡ length xs + position_or_len is_line_feed ys
position_append xs ys clean =
    let all = position_clean xs clean in
    rw (prefix_len-append, eq-eqb _ _ all) refl

pub before_first-append : (xs ys : List ℕ) → HasNoLineFeed xs → before_first is_line_feed (xs ++ ys) ≡ xs ++ before_first is_line_feed ys
before_first-append xs ys clean =
    let at : position_or_len is_line_feed (xs ++ ys) ≡ length xs + position_or_len is_line_feed ys = position_append xs ys clean in
    rw (at, take-append-add) refl

-- the bytes up to the first line feed, the line feed and what follows
pub first_cut : (bytes : List ℕ) → position_or_len is_line_feed bytes < length bytes → bytes ≡ before_first is_line_feed bytes ++ 10 ∷ after_first is_line_feed bytes
first_cut bytes within =
    split_at_first is_line_feed bytes 0 within
    ∙ ap (λ (byte : ℕ). before_first is_line_feed bytes ++ byte ∷ after_first is_line_feed bytes) (eqb-true _ 10 (passes_at_first is_line_feed bytes 0 within))

pub HasNoLineFeed-before_first : (bytes : List ℕ) → HasNoLineFeed (before_first is_line_feed bytes)
HasNoLineFeed-before_first bytes k d within =
    let below : k < position_or_len is_line_feed bytes = omega (arith, length-take (position_or_len is_line_feed bytes) bytes) in
    rw (get_or-take (position_or_len is_line_feed bytes) bytes k d below) (fails_before_first is_line_feed bytes k d below)

-- no line feed was found
pub HasNoLineFeed-not_found : (bytes : List ℕ) → length bytes ≤ position_or_len is_line_feed bytes → HasNoLineFeed bytes
HasNoLineFeed-not_found bytes far = subst HasNoLineFeed (take_all (position_or_len is_line_feed bytes) bytes far) (HasNoLineFeed-before_first bytes)

-- a front of a line fits
pub FitsLine-front : (xs ys : List ℕ) → FitsLine (xs ++ ys) → FitsLine xs
FitsLine-front xs ys fits = record {
  one_line = HasNoLineFeed-front xs ys fits.one_line;
  short = omega (arith, fits.short, length-append xs ys);
}

-- a whole line stands in the bytes, so they are no part of one line
pub FitsLine-not : (line rest : List ℕ) → FitsLine (line ++ 10 ∷ rest) → ⊥
FitsLine-not line rest fits = HasNoLineFeed-not line rest fits.one_line

-- a line past its limit is none that fits
pub IsPastLimit-not : (bytes : List ℕ) → FitsLine bytes → IsPastLimit bytes → ⊥
IsPastLimit-not bytes fits long =
    let same = before_first-none bytes fits.one_line in
    let less : line_limit < length bytes = subst (λ (xs : List ℕ). line_limit < length xs) same long in
    omega (arith, fits.short)

pub IsPastLimit-not_line : (line rest : List ℕ) → FitsLine line → IsPastLimit (line ++ 10 ∷ rest) → ⊥
IsPastLimit-not_line line rest fits long =
    let same = before_first-line line rest fits.one_line in
    let less : line_limit < length line = subst (λ (xs : List ℕ). line_limit < length xs) same long in
    omega (arith, fits.short)

-- more bytes than a line may have stay too many, whatever follows
pub IsPastLimit-append : (xs ys : List ℕ) → IsPastLimit xs → IsPastLimit (xs ++ ys)
IsPastLimit-append xs ys long =
    ⊎_elim (IsPastLimit-found xs ys long) (IsPastLimit-not_found xs ys long) (cases_lt (position_or_len is_line_feed xs) (length xs))
  where
    IsPastLimit-found : (xs ys : List ℕ) → IsPastLimit xs → position_or_len is_line_feed xs < length xs → IsPastLimit (xs ++ ys)
    IsPastLimit-found xs ys long found =
        let front = before_first is_line_feed xs in
        let behind = after_first is_line_feed xs in
        let cut : xs ++ ys ≡ front ++ 10 ∷ (behind ++ ys) = ap (λ (zs : List ℕ). zs ++ ys) (first_cut xs found) ∙ append_assoc front (10 ∷ behind) ys in
        let same : before_first is_line_feed (xs ++ ys) ≡ front = ap (before_first is_line_feed) cut ∙ before_first-line front (behind ++ ys) (HasNoLineFeed-before_first xs) in
        subst (λ (zs : List ℕ). line_limit < length zs) (sym same) long

    IsPastLimit-not_found : (xs ys : List ℕ) → IsPastLimit xs → length xs ≤ position_or_len is_line_feed xs → IsPastLimit (xs ++ ys)
    IsPastLimit-not_found xs ys long far =
        let clean = HasNoLineFeed-not_found xs far in
        let less : line_limit < length xs = subst (λ (zs : List ℕ). line_limit < length zs) (before_first-none xs clean) long in
        let same = ap length (before_first-append xs ys clean) in
        omega (arith, length-append xs (before_first is_line_feed ys))

-- every part but the last is a line, and the last is the rest
joined_parts : (part : List ℕ) (parts : List (List ℕ)) → join_with_byte 10 (part ∷ parts) ≡ ended_lines (take (length parts) (part ∷ parts)) ++ get_or (part ∷ parts) (length parts) []
joined_parts part [] = refl
joined_parts part (next ∷ parts) =
    ap (λ (xs : List ℕ). part ++ 10 ∷ xs) (joined_parts next parts)
    ∙ sym (simp append_assoc)

onto_first_clean : (byte : ℕ) (parts : List (List ℕ)) → is_line_feed byte ≡ false → All HasNoLineFeed parts → All HasNoLineFeed (onto_first byte parts)
onto_first_clean byte [] is_not clean = All-cons HasNoLineFeed (byte ∷ []) [] (All-cons StandsInLine byte [] is_not (All-nil StandsInLine)) (All-nil HasNoLineFeed)
onto_first_clean byte (part ∷ parts) is_not clean =
    All-cons HasNoLineFeed (byte ∷ part) parts (All-cons StandsInLine byte part is_not (All-head HasNoLineFeed part parts clean)) (All-tail HasNoLineFeed part parts clean)

parts_clean : (bytes : List ℕ) → All HasNoLineFeed (parts_of bytes)
parts_clean [] = All-cons HasNoLineFeed [] [] (All-nil StandsInLine) (All-nil HasNoLineFeed)
parts_clean (byte ∷ bytes) =
    ⊎_elim
    (λ is. rw (slice_split-cons_yes is_line_feed byte bytes is) (All-cons HasNoLineFeed [] (parts_of bytes) (All-nil StandsInLine) (parts_clean bytes)))
    (λ is_not. rw (slice_split-cons_no is_line_feed byte bytes is_not) (onto_first_clean byte (parts_of bytes) is_not (parts_clean bytes)))
    (cases_Bool (is_line_feed byte))

-- each list of bytes is cut
pub cut_of : (bytes : List ℕ) → CutsInto bytes (whole_lines bytes) (unfinished_line bytes)
unfolding whole_lines unfinished_line
cut_of bytes = cut_parts bytes (parts_of bytes) (omega (arith, length-slice_split is_line_feed bytes)) (sym (join_with_byte-slice_split 10 bytes)) (parts_clean bytes)
  where
    cut_parts : (bytes : List ℕ) (parts : List (List ℕ)) → 0 < length parts → bytes ≡ join_with_byte 10 parts → All HasNoLineFeed parts → CutsInto bytes (take (length parts - 1) parts) (get_or parts (length parts - 1) [])
    cut_parts bytes [] some joined clean = absurd (omega arith)
    cut_parts bytes (part ∷ parts) some joined clean =
        let one_less : length (part ∷ parts) - 1 ≡ length parts = omega arith in
        rw one_less (record {
          joined = joined ∙ joined_parts part parts;
          each_one_line = All-take HasNoLineFeed (length parts) (part ∷ parts) clean;
          rest_unfinished = All-get_or HasNoLineFeed (part ∷ parts) (length parts) [] (omega arith) clean;
        })

-- there is one cut
pub parts_cut : (lines : List (List ℕ)) (rest : List ℕ) → All HasNoLineFeed lines → HasNoLineFeed rest → parts_of (ended_lines lines ++ rest) ≡ lines ++ rest ∷ []
parts_cut [] rest clean unfinished = slice_split_none is_line_feed rest unfinished
parts_cut (line ∷ lines) rest clean unfinished =
    let same : ended_lines (line ∷ lines) ++ rest ≡ line ++ 10 ∷ (ended_lines lines ++ rest) = simp append_assoc in
    ap parts_of same
    ∙ slice_split_at is_line_feed line 10 (ended_lines lines ++ rest) (All-head HasNoLineFeed line lines clean) refl
    ∙ ap (λ (parts : List (List ℕ)). line ∷ parts) (parts_cut lines rest (All-tail HasNoLineFeed line lines clean) unfinished)

pub whole_lines_are : (bytes : List ℕ) (lines : List (List ℕ)) (rest : List ℕ) → CutsInto bytes lines rest → whole_lines bytes ≡ lines
unfolding whole_lines
whole_lines_are bytes lines rest cut =
    let parts : parts_of bytes ≡ lines ++ rest ∷ [] = ap parts_of cut.joined ∙ parts_cut lines rest cut.each_one_line cut.rest_unfinished in
    rw parts (take_at lines (rest ∷ []) _ (omega (arith, length-append lines (rest ∷ []))))

pub unfinished_line_is : (bytes : List ℕ) (lines : List (List ℕ)) (rest : List ℕ) → CutsInto bytes lines rest → unfinished_line bytes ≡ rest
unfolding unfinished_line
unfinished_line_is bytes lines rest cut =
    let parts : parts_of bytes ≡ lines ++ rest ∷ [] = ap parts_of cut.joined ∙ parts_cut lines rest cut.each_one_line cut.rest_unfinished in
    rw parts (get_or_at lines rest [] [] _ (omega (arith, length-append lines (rest ∷ []))))

pub CutsInto-none : (bytes : List ℕ) → HasNoLineFeed bytes → CutsInto bytes [] bytes
CutsInto-none bytes clean = record { joined = refl; each_one_line = All-nil HasNoLineFeed; rest_unfinished = clean }

-- lines come before a cut
pub CutsInto-ended : (lines : List (List ℕ)) (bytes : List ℕ) (more : List (List ℕ)) (rest : List ℕ) → All HasNoLineFeed lines → CutsInto bytes more rest → CutsInto (ended_lines lines ++ bytes) (lines ++ more) rest
CutsInto-ended lines bytes more rest clean cut = record {
  joined = ap (λ (xs : List ℕ). ended_lines lines ++ xs) cut.joined
      ∙ sym (append_assoc (ended_lines lines) (ended_lines more) rest)
      ∙ ap (λ (xs : List ℕ). xs ++ rest) (sym (flat_map-append (λ line. line ++ 10 ∷ []) lines more));
  each_one_line = All-append HasNoLineFeed lines more clean cut.each_one_line;
  rest_unfinished = cut.rest_unfinished;
}

-- bytes come behind a cut
pub CutsInto-append : (xs ys : List ℕ) (lines more : List (List ℕ)) (rest last : List ℕ) → CutsInto xs lines rest → CutsInto (rest ++ ys) more last → CutsInto (xs ++ ys) (lines ++ more) last
CutsInto-append xs ys lines more rest last front behind =
    let same : xs ++ ys ≡ ended_lines lines ++ (rest ++ ys) = ap (λ (zs : List ℕ). zs ++ ys) front.joined ∙ append_assoc (ended_lines lines) rest ys in
    rw same (CutsInto-ended lines (rest ++ ys) more last front.each_one_line behind)

-- where no line feed stands, there is no whole line
pub whole_lines-none : (bytes : List ℕ) → HasNoLineFeed bytes → whole_lines bytes ≡ []
whole_lines-none bytes clean = whole_lines_are bytes [] bytes (CutsInto-none bytes clean)

pub unfinished_line-none : (bytes : List ℕ) → HasNoLineFeed bytes → unfinished_line bytes ≡ bytes
unfinished_line-none bytes clean = unfinished_line_is bytes [] bytes (CutsInto-none bytes clean)

-- lines, each with its line feed, stand in front
pub whole_lines-ended : (lines : List (List ℕ)) (bytes : List ℕ) → All HasNoLineFeed lines → whole_lines (ended_lines lines ++ bytes) ≡ lines ++ whole_lines bytes
whole_lines-ended lines bytes clean =
    whole_lines_are _ (lines ++ whole_lines bytes) (unfinished_line bytes) (CutsInto-ended lines bytes _ _ clean (cut_of bytes))

pub unfinished_line-ended : (lines : List (List ℕ)) (bytes : List ℕ) → All HasNoLineFeed lines → unfinished_line (ended_lines lines ++ bytes) ≡ unfinished_line bytes
unfinished_line-ended lines bytes clean =
    unfinished_line_is _ (lines ++ whole_lines bytes) (unfinished_line bytes) (CutsInto-ended lines bytes _ _ clean (cut_of bytes))

-- one line stands in front
pub whole_lines-line : (line rest : List ℕ) → HasNoLineFeed line → whole_lines (line ++ 10 ∷ rest) ≡ line ∷ whole_lines rest
whole_lines-line line rest clean =
    let one : All HasNoLineFeed (line ∷ []) = All-cons HasNoLineFeed line [] clean (All-nil HasNoLineFeed) in
    let same : line ++ 10 ∷ rest ≡ ended_lines (line ∷ []) ++ rest = sym (simp append_assoc) in
    ap whole_lines same ∙ whole_lines-ended (line ∷ []) rest one

pub unfinished_line-line : (line rest : List ℕ) → HasNoLineFeed line → unfinished_line (line ++ 10 ∷ rest) ≡ unfinished_line rest
unfinished_line-line line rest clean =
    let one : All HasNoLineFeed (line ∷ []) = All-cons HasNoLineFeed line [] clean (All-nil HasNoLineFeed) in
    let same : line ++ 10 ∷ rest ≡ ended_lines (line ∷ []) ++ rest = sym (simp append_assoc) in
    ap unfinished_line same ∙ unfinished_line-ended (line ∷ []) rest one

-- further bytes leave the whole lines as they are, and may end the one behind them
pub whole_lines-append : (xs ys : List ℕ) → whole_lines (xs ++ ys) ≡ whole_lines xs ++ whole_lines (unfinished_line xs ++ ys)
whole_lines-append xs ys =
    whole_lines_are (xs ++ ys) _ (unfinished_line (unfinished_line xs ++ ys)) (CutsInto-append xs ys _ _ _ _ (cut_of xs) (cut_of (unfinished_line xs ++ ys)))

pub unfinished_line-append : (xs ys : List ℕ) → unfinished_line (xs ++ ys) ≡ unfinished_line (unfinished_line xs ++ ys)
unfinished_line-append xs ys =
    unfinished_line_is (xs ++ ys) (whole_lines xs ++ whole_lines (unfinished_line xs ++ ys)) _ (CutsInto-append xs ys _ _ _ _ (cut_of xs) (cut_of (unfinished_line xs ++ ys)))

-- where the line in front is past its limit, it is the first whole line, or the unfinished one where there is none
pub IsPastLimit-whole : (bytes line : List ℕ) (lines : List (List ℕ)) → whole_lines bytes ≡ line ∷ lines → IsPastLimit bytes → line_limit < length line
IsPastLimit-whole bytes line lines are past =
    let cut = cut_of bytes in
    let clean : All HasNoLineFeed (line ∷ lines) = subst (All HasNoLineFeed) are cut.each_one_line in
    let front : bytes ≡ line ++ 10 ∷ (ended_lines lines ++ unfinished_line bytes) =
    cut.joined ∙ ap (λ (all : List (List ℕ)). ended_lines all ++ unfinished_line bytes) are ∙ simp append_assoc in
    let same = ap (before_first is_line_feed) front ∙ before_first-line line _ (All-head HasNoLineFeed line lines clean) in
    subst (λ (xs : List ℕ). line_limit < length xs) same past

pub IsPastLimit-unfinished : (bytes : List ℕ) → whole_lines bytes ≡ [] → IsPastLimit bytes → line_limit < length (unfinished_line bytes)
IsPastLimit-unfinished bytes none past =
    let cut = cut_of bytes in
    let front : bytes ≡ unfinished_line bytes = cut.joined ∙ ap (λ (all : List (List ℕ)). ended_lines all ++ unfinished_line bytes) none in
    let same = ap (before_first is_line_feed) front ∙ before_first-none (unfinished_line bytes) cut.rest_unfinished in
    subst (λ (xs : List ℕ). line_limit < length xs) same past

pub clean_lines : (lines : List (List ℕ)) → All FitsLine lines → All HasNoLineFeed lines
clean_lines lines fit = All-weaker FitsLine HasNoLineFeed (λ line fits. fits.one_line) lines fit

-- lines one after another, and one more
pub ended_lines-append : (lines more : List (List ℕ)) → ended_lines (lines ++ more) ≡ ended_lines lines ++ ended_lines more
ended_lines-append lines more = flat_map-append (λ line. line ++ 10 ∷ []) lines more

pub ended_lines_push : (lines : List (List ℕ)) (line : List ℕ) → ended_lines (lines ++ line ∷ []) ≡ ended_lines lines ++ (line ++ 10 ∷ [])
ended_lines_push lines line = ended_lines-append lines (line ∷ []) ∙ ap (λ (xs : List ℕ). ended_lines lines ++ xs) (append-nil (line ++ 10 ∷ []))
