-- Lines that a reader gave, one after another.
use Rattle.std.proofs.Common.{◌≡◌, ℕ, List, [], ◌∷◌, ◌++◌, All, Option, Some, None, Result, Ok, Err, refl, sym, ap, ◌∙◌, subst}
use Rattle.std.specs.Io.KnownBytes.{IsAtEnd}
use Rattle.std.proofs.lemmas.List.{append_assoc, append-nil}
use Rattle.std.proofs.lemmas.List.Elements.{All-nil, All-push}
use Rattle.io_edge.specs.declared.got.Got.{Got}
use Rattle.io_edge.specs.declared.got.Got.TheVariants.{Line, Over}
use Rattle.io_edge.specs.declared.line_fault.LineFault.{LineFault}
use Rattle.io_edge.specs.declared.line_fault.LineFault.TheVariants.{Failed, TooLong, OutOfMemory}
use Rattle.io_edge.specs.Lines.{whole_lines, unfinished_line, ended_lines, CutsInto, FitsLine}
use Rattle.io_edge.specs.Told.{Gives}
use Rattle.io_edge.specs.Reading.{ReadsLine}
use Rattle.io_edge.proofs.LineLemmas.{whole_lines_are, unfinished_line_is, whole_lines-ended, unfinished_line-ended, ended_lines_push, clean_lines}
use Rattle.io_edge.proofs.ToldLemmas.{Gives-nothing, Gives-append, Gives-told}

-- From a moment on these lines were read, and these bytes are kept: the source gave both, and nothing else.
pub record HasReadLines (first now : Option (List ℕ)) (lines : List (List ℕ)) (kept : List ℕ) : Type 0 where
  pub gives : Gives first now (ended_lines lines ++ kept)
  pub each_fits : All FitsLine lines

-- the lines read after one answer more
abbrev pub lines_after : List (List ℕ) → Result Got LineFault → List (List ℕ)
lines_after lines (Ok (Line line)) = lines ++ line ∷ []
lines_after lines (Ok Over) = lines
lines_after lines (Err fault) = lines

-- no line is read yet
pub HasReadLines-none : (left : Option (List ℕ)) → HasReadLines left left [] []
HasReadLines-none left = record { gives = Gives-nothing left; each_fits = All-nil FitsLine }

seen_more : (first before after : Option (List ℕ)) (lines : List (List ℕ)) (kept taken : List ℕ) → HasReadLines first before lines kept → Gives before after taken → Gives first after (ended_lines lines ++ (kept ++ taken))
seen_more first before after lines kept taken read gives =
    subst (Gives first after) (append_assoc (ended_lines lines) kept taken) (Gives-append first before after (ended_lines lines ++ kept) taken read.gives gives)

same_lines : (first before after : Option (List ℕ)) (lines : List (List ℕ)) (kept taken left : List ℕ) → HasReadLines first before lines kept → Gives before after taken → left ≡ kept ++ taken → HasReadLines first after lines left
same_lines first before after lines kept taken left read gives is =
    rw is (record { gives = seen_more first before after lines kept taken read gives; each_fits = read.each_fits })

-- one answer more
pub HasReadLines-next : (first before after : Option (List ℕ)) (lines : List (List ℕ)) (kept left : List ℕ) (answer : Result Got LineFault) → HasReadLines first before lines kept → ReadsLine before after kept left answer → HasReadLines first after (lines_after lines answer) left
HasReadLines-next first before after lines kept left (Ok (Line line)) read next =
    let joined : ended_lines lines ++ (line ++ 10 ∷ left) ≡ ended_lines (lines ++ line ∷ []) ++ left =
    sym (ap (λ (xs : List ℕ). xs ++ left) (ended_lines_push lines line) ∙ simp append_assoc) in
    let seen = seen_more first before after lines kept next.taken read next.gives in
    let all : ended_lines lines ++ (kept ++ next.taken) ≡ ended_lines (lines ++ line ∷ []) ++ left = ap (λ (xs : List ℕ). ended_lines lines ++ xs) next.answer.1 ∙ joined in
    record { gives = subst (Gives first after) all seen; each_fits = All-push FitsLine lines line read.each_fits next.answer.0 }
HasReadLines-next first before after lines kept left (Ok Over) read next = same_lines first before after lines kept next.taken left read next.gives next.answer.1
HasReadLines-next first before after lines kept left (Err TooLong) read next = same_lines first before after lines kept next.taken left read next.gives next.answer.1
HasReadLines-next first before after lines kept left (Err Failed) read next = same_lines first before after lines kept next.taken left read next.gives next.answer.1
HasReadLines-next first before after lines kept left (Err OutOfMemory) read next = same_lines first before after lines kept next.taken left read next.gives next.answer.1

-- The lines read stand in front of the whole lines of all that was left at first, where it was told.
pub record BeginsWith (input : List ℕ) (lines : List (List ℕ)) (kept rest : List ℕ) : Type 0 where
  pub input_is : input ≡ ended_lines lines ++ (kept ++ rest)
  pub whole : whole_lines input ≡ lines ++ whole_lines (kept ++ rest)
  pub unfinished : unfinished_line input ≡ unfinished_line (kept ++ rest)

pub HasReadLines-told : (first now : Option (List ℕ)) (lines : List (List ℕ)) (kept input : List ℕ) → HasReadLines first now lines kept → first ≡ Some input → (rest : List ℕ) × (now ≡ Some rest) × BeginsWith input lines kept rest
HasReadLines-told first now lines kept input read told =
    let left = Gives-told first now input (ended_lines lines ++ kept) read.gives told in
    let clean = clean_lines lines read.each_fits in
    let is : input ≡ ended_lines lines ++ (kept ++ left.0) = left.2 ∙ append_assoc (ended_lines lines) kept left.0 in (
      left.0,
      left.1,
      record {
        input_is = is;
        whole = ap whole_lines is ∙ whole_lines-ended lines (kept ++ left.0) clean;
        unfinished = ap unfinished_line is ∙ unfinished_line-ended lines (kept ++ left.0) clean;
      },
    )

-- the whole lines of what was taken so far, where what is kept is a front of a line
pub lines_of_taken : (lines : List (List ℕ)) (kept : List ℕ) → All FitsLine lines → FitsLine kept → (whole_lines (ended_lines lines ++ kept) ≡ lines) × (unfinished_line (ended_lines lines ++ kept) ≡ kept)
lines_of_taken lines kept fit fits =
    let cut : CutsInto (ended_lines lines ++ kept) lines kept = record { joined = refl; each_one_line = clean_lines lines fit; rest_unfinished = fits.one_line } in
    (whole_lines_are _ lines kept cut, unfinished_line_is _ lines kept cut)

-- where the input is over, these are the whole lines of all of it
pub HasReadLines-over : (first now : Option (List ℕ)) (lines : List (List ℕ)) (kept input : List ℕ) → HasReadLines first now lines kept → first ≡ Some input → IsAtEnd now → FitsLine kept → (whole_lines input ≡ lines) × (unfinished_line input ≡ kept)
HasReadLines-over first None lines kept input read told over fits = absurd (HasReadLines-known first lines kept input read told)
  where
    HasReadLines-known : (first : Option (List ℕ)) (lines : List (List ℕ)) (kept input : List ℕ) → HasReadLines first None lines kept → first ≡ Some input → ⊥
    HasReadLines-known first lines kept input read told = let gives = read.gives in cc
HasReadLines-over first (Some rest) lines kept input read told over fits =
    let all = HasReadLines-told first (Some rest) lines kept input read told in
    let none : all.0 ≡ [] = cc in
    let same : input ≡ ended_lines lines ++ kept =
    all.2.input_is
    ∙ ap (λ (xs : List ℕ). ended_lines lines ++ (kept ++ xs)) none
    ∙ ap (λ (xs : List ℕ). ended_lines lines ++ xs) (append-nil kept) in
    let taken = lines_of_taken lines kept read.each_fits fits in
    (ap whole_lines same ∙ taken.0, ap unfinished_line same ∙ taken.1)
