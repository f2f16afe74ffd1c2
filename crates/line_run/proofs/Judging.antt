-- What is judged behind lines that were interpreted.
use Rattle.std.proofs.Common.{◌≡◌, ℕ, ◌+◌, ◌<◌, ◌≤◌, Bool, true, false, cond, ltb, List, [], ◌∷◌, ◌++◌, length, All, ⊎_elim, refl, sym, ap, ◌∙◌}
use Rattle.std.specs.List.{before_first, after_first, position_or_len}
use Rattle.std.proofs.lemmas.Bool.{or_left, or_right, or_from, lt-ltb, le-ltb, cases_lt}
use Rattle.std.proofs.lemmas.List.{append_assoc, length_push}
use Rattle.io_edge.specs.Lines.{is_line_feed, HasNoLineFeed, whole_lines, unfinished_line, ended_lines, line_limit, IsPastLimit}
use Rattle.io_edge.proofs.LineLemmas.{whole_lines-ended, unfinished_line-ended, whole_lines-line, whole_lines-none, unfinished_line-none, first_cut, before_first-none, HasNoLineFeed-before_first, HasNoLineFeed-not_found, ended_lines-append}
use Rattle.net_base.specs.declared.refusal.RefusalKind.TheVariants.{NoEnd}
use Rattle.line_run.specs.Meaning.{Meaning, goes_on}
use Rattle.line_run.specs.Judgement.{refused, too_long, most_lines, Judgement, silently, behind, is_too_long, judged_by, verdict_of_rest, judged_from, judged, output_of, Lead}

-- the bytes of lines that were read, and those behind them
abbrev pub seen_of : List (List ℕ) → List ℕ → List ℕ
seen_of texts tail = ended_lines texts ++ tail

-- ---- too long or not

-- too long by its bytes
long_by_bytes : (number : ℕ) (tail : List ℕ) → IsPastLimit tail → is_too_long number (before_first is_line_feed tail) ≡ true
long_by_bytes number tail past =
    or_right (ltb most_lines number) (ltb line_limit (length (before_first is_line_feed tail))) (lt-ltb line_limit (length (before_first is_line_feed tail)) past)

-- too long by its number
long_by_number : (number : ℕ) (text : List ℕ) → most_lines < number → is_too_long number text ≡ true
long_by_number number text most = or_left (ltb most_lines number) (ltb line_limit (length text)) (lt-ltb most_lines number most)

-- short enough by both
short_enough : (number : ℕ) (text : List ℕ) → number ≤ most_lines → length text ≤ line_limit → is_too_long number text ≡ false
short_enough number text few short =
    or_from (ltb most_lines number) (ltb line_limit (length text)) (le-ltb most_lines number few) (le-ltb line_limit (length text) short)

-- ---- behind lines that were interpreted

pub judged_behind : {S : Type 0} (means : S → List ℕ → Meaning S) (start state : S) (texts lines : List (List ℕ)) (tail : List ℕ) →
    Lead means start texts state lines → All HasNoLineFeed texts →
    judged means start (seen_of texts tail) ≡ behind lines (judged_from means (length texts + 1) state (whole_lines tail) (unfinished_line tail))
judged_behind means start state texts lines tail lead whole =
    ap (λ (ls : List (List ℕ)). judged_from means 1 start ls (unfinished_line (seen_of texts tail))) (whole_lines-ended texts tail whole)
    ∙ ap (judged_from means 1 start (texts ++ whole_lines tail)) (unfinished_line-ended texts tail whole)
    ∙ lead (whole_lines tail) (unfinished_line tail)

-- what they give begins the output, whatever stands behind them
pub record Begins (whole front : List ℕ) : Type 0 where
  pub rest : List ℕ
  pub split : whole ≡ front ++ rest

pub output_behind : {S : Type 0} (means : S → List ℕ → Meaning S) (start state : S) (texts lines : List (List ℕ)) (tail : List ℕ) →
    Lead means start texts state lines → All HasNoLineFeed texts → Begins (output_of means start (seen_of texts tail)) (ended_lines lines)
output_behind means start state texts lines tail lead whole = record {
  rest = ended_lines (judged_from means (length texts + 1) state (whole_lines tail) (unfinished_line tail)).lines;
  split = ap (λ (j : Judgement). ended_lines j.lines) (judged_behind means start state texts lines tail lead whole)
      ∙ ended_lines-append lines (judged_from means (length texts + 1) state (whole_lines tail) (unfinished_line tail)).lines;
}

-- ---- a line more

-- the first line of those that are left is short enough
judged_first : {S : Type 0} (means : S → List ℕ → Meaning S) (number : ℕ) (state : S) (line : List ℕ) (more : List (List ℕ)) (rest : List ℕ) → number ≤ most_lines → length line ≤ line_limit →
    judged_from means number state (line ∷ more) rest ≡ judged_by number (means state line) (λ next. judged_from means (number + 1) next more rest)
unfolding judged_from
judged_first means number state line more rest few short = rw (short_enough number line few short) refl

-- the first line of those that are left is too long
judged_first_long : {S : Type 0} (means : S → List ℕ → Meaning S) (number : ℕ) (state : S) (line : List ℕ) (more : List (List ℕ)) (rest : List ℕ) → is_too_long number line ≡ true →
    judged_from means number state (line ∷ more) rest ≡ silently (too_long number)
unfolding judged_from
judged_first_long means number state line more rest long = rw long refl

-- no whole line is left
judged_last : {S : Type 0} (means : S → List ℕ → Meaning S) (number : ℕ) (state : S) (rest : List ℕ) → judged_from means number state [] rest ≡ silently (verdict_of_rest number rest)
unfolding judged_from
judged_last means number state rest = refl

behind-behind : (lines more : List (List ℕ)) (j : Judgement) → behind lines (behind more j) ≡ behind (lines ++ more) j
behind-behind lines more j = ap (λ (ls : List (List ℕ)). record { lines = ls; verdict = j.verdict }) (sym (append_assoc lines more j.lines))

-- before any line
pub Lead-none : {S : Type 0} (means : S → List ℕ → Meaning S) (start : S) → Lead means start [] start []
Lead-none means start = λ more rest. refl

pub Lead-more : {S : Type 0} (means : S → List ℕ → Meaning S) (start state next : S) (texts lines : List (List ℕ)) (line : List ℕ) (said : List (List ℕ)) →
    Lead means start texts state lines → length texts + 1 ≤ most_lines → length line ≤ line_limit → means state line ≡ goes_on next said →
    Lead means start (texts ++ line ∷ []) next (lines ++ said)
Lead-more means start state next texts lines line said lead few short is = λ more rest.
    let number = length texts + 1 in
    let on : judged_from means number state (line ∷ more) rest ≡ behind said (judged_from means (number + 1) next more rest) =
    judged_first means number state line more rest few short ∙ ap (λ m. judged_by number m (λ next. judged_from means (number + 1) next more rest)) is in
    ap (λ (ls : List (List ℕ)). judged_from means 1 start ls rest) (append_assoc texts (line ∷ []) more)
    ∙ lead (line ∷ more) rest
    ∙ ap (behind lines) on
    ∙ behind-behind lines said (judged_from means (number + 1) next more rest)
    ∙ ap (λ n. behind (lines ++ said) (judged_from means (n + 1) next more rest)) (sym (length_push texts line))

-- ---- what decides

-- what stands behind the lines decides, whatever follows it
abbrev pub Decides : {S : Type 0} → (S → List ℕ → Meaning S) → S → List (List ℕ) → List (List ℕ) → List ℕ → Judgement → Type 0
Decides means start texts lines tail last = (more : List ℕ) → judged means start (seen_of texts (tail ++ more)) ≡ behind lines last

-- the judgement does not hang on the lines behind the one that decides
abbrev pub IsLast : {S : Type 0} → ℕ → Meaning S → Judgement → Type 0
IsLast {S} number meaning last = (later : S → Judgement) → judged_by number meaning later ≡ last

-- a whole line decides
pub line_decides : {S : Type 0} (means : S → List ℕ → Meaning S) (start state : S) (texts lines : List (List ℕ)) (line kept : List ℕ) (last : Judgement) →
    Lead means start texts state lines → All HasNoLineFeed texts → length texts + 1 ≤ most_lines → HasNoLineFeed line → length line ≤ line_limit →
    IsLast (length texts + 1) (means state line) last → Decides means start texts lines (line ++ 10 ∷ kept) last
line_decides means start state texts lines line kept last lead whole few one short decides more =
    let number = length texts + 1 in
    let bytes = kept ++ more in
    ap (λ (tail : List ℕ). judged means start (seen_of texts tail)) (append_assoc line (10 ∷ kept) more)
    ∙ judged_behind means start state texts lines (line ++ 10 ∷ bytes) lead whole
    ∙ ap (λ (ls : List (List ℕ)). behind lines (judged_from means number state ls (unfinished_line (line ++ 10 ∷ bytes)))) (whole_lines-line line bytes one)
    ∙ ap (behind lines) (judged_first means number state line (whole_lines bytes) (unfinished_line (line ++ 10 ∷ bytes)) few short)
    ∙ ap (behind lines) (decides (λ next. judged_from means (number + 1) next (whole_lines bytes) (unfinished_line (line ++ 10 ∷ bytes))))

-- a line that is too long, whether or not a line feed ends it
long_decides : {S : Type 0} (means : S → List ℕ → Meaning S) (number : ℕ) (state : S) (tail : List ℕ) → is_too_long number (before_first is_line_feed tail) ≡ true →
    judged_from means number state (whole_lines tail) (unfinished_line tail) ≡ silently (too_long number)
long_decides means number state tail long =
    ⊎_elim (in_line means number state tail long) (in_rest means number state tail long) (cases_lt (position_or_len is_line_feed tail) (length tail))
  where
    in_line : {S : Type 0} (means : S → List ℕ → Meaning S) (number : ℕ) (state : S) (tail : List ℕ) → is_too_long number (before_first is_line_feed tail) ≡ true →
        position_or_len is_line_feed tail < length tail → judged_from means number state (whole_lines tail) (unfinished_line tail) ≡ silently (too_long number)
    in_line means number state tail long found =
        let line = before_first is_line_feed tail in
        let bytes = after_first is_line_feed tail in
        let lines : whole_lines tail ≡ line ∷ whole_lines bytes = ap whole_lines (first_cut tail found) ∙ whole_lines-line line bytes (HasNoLineFeed-before_first tail) in
        ap (λ (ls : List (List ℕ)). judged_from means number state ls (unfinished_line tail)) lines
        ∙ judged_first_long means number state line (whole_lines bytes) (unfinished_line tail) long

    in_rest : {S : Type 0} (means : S → List ℕ → Meaning S) (number : ℕ) (state : S) (tail : List ℕ) → is_too_long number (before_first is_line_feed tail) ≡ true →
        length tail ≤ position_or_len is_line_feed tail → judged_from means number state (whole_lines tail) (unfinished_line tail) ≡ silently (too_long number)
    in_rest means number state tail long far =
        let one = HasNoLineFeed-not_found tail far in
        let here : is_too_long number tail ≡ true = ap (is_too_long number) (sym (before_first-none tail one)) ∙ long in
        ap (λ (ls : List (List ℕ)). judged_from means number state ls (unfinished_line tail)) (whole_lines-none tail one)
        ∙ ap (judged_from means number state []) (unfinished_line-none tail one)
        ∙ judged_last means number state tail
        ∙ ap (λ (b : Bool). silently (cond b (too_long number) (refused number NoEnd))) here

too_long_decides : {S : Type 0} (means : S → List ℕ → Meaning S) (start state : S) (texts lines : List (List ℕ)) (tail : List ℕ) →
    Lead means start texts state lines → All HasNoLineFeed texts → ((more : List ℕ) → is_too_long (length texts + 1) (before_first is_line_feed (tail ++ more)) ≡ true) →
    Decides means start texts lines tail (silently (too_long (length texts + 1)))
too_long_decides means start state texts lines tail lead whole long more =
    judged_behind means start state texts lines (tail ++ more) lead whole
    ∙ ap (behind lines) (long_decides means (length texts + 1) state (tail ++ more) (long more))

pub past_decides : {S : Type 0} (means : S → List ℕ → Meaning S) (start state : S) (texts lines : List (List ℕ)) (tail : List ℕ) →
    Lead means start texts state lines → All HasNoLineFeed texts → ((more : List ℕ) → IsPastLimit (tail ++ more)) →
    Decides means start texts lines tail (silently (too_long (length texts + 1)))
past_decides means start state texts lines tail lead whole past =
    too_long_decides means start state texts lines tail lead whole (λ more. long_by_bytes (length texts + 1) (tail ++ more) (past more))

pub most_decides : {S : Type 0} (means : S → List ℕ → Meaning S) (start state : S) (texts lines : List (List ℕ)) (tail : List ℕ) →
    Lead means start texts state lines → All HasNoLineFeed texts → most_lines < length texts + 1 → Decides means start texts lines tail (silently (too_long (length texts + 1)))
most_decides means start state texts lines tail lead whole most =
    too_long_decides means start state texts lines tail lead whole (λ more. long_by_number (length texts + 1) _ most)

-- the bytes end within a line that is short enough
pub rest_refused : {S : Type 0} (means : S → List ℕ → Meaning S) (start state : S) (texts lines : List (List ℕ)) (tail : List ℕ) →
    Lead means start texts state lines → All HasNoLineFeed texts → length texts + 1 ≤ most_lines → HasNoLineFeed tail → length tail ≤ line_limit →
    judged means start (seen_of texts tail) ≡ behind lines (silently (refused (length texts + 1) NoEnd))
rest_refused means start state texts lines tail lead whole few one short =
    let number = length texts + 1 in
    judged_behind means start state texts lines tail lead whole
    ∙ ap (λ (ls : List (List ℕ)). behind lines (judged_from means number state ls (unfinished_line tail))) (whole_lines-none tail one)
    ∙ ap (λ (bytes : List ℕ). behind lines (judged_from means number state [] bytes)) (unfinished_line-none tail one)
    ∙ ap (behind lines) (judged_last means number state tail)
    ∙ ap (λ (b : Bool). behind lines (silently (cond b (too_long number) (refused number NoEnd)))) (short_enough number tail few short)
