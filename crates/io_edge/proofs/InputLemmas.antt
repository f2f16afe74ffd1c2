-- The answer to all that an input has left.
use Rattle.std.proofs.Common.{◌≡◌, ℕ, ◌<◌, ◌≤◌, List, ◌∷◌, ◌++◌, length, Option, Some, None, Result, Ok, Err, refl, sym, ap, ◌∙◌, subst, ⊎_elim}
use Rattle.std.specs.Prelude.{IfSome}
use Rattle.std.specs.List.{before_first, position_or_len}
use Rattle.std.proofs.lemmas.Bool.{cases_lt}
use Rattle.std.proofs.lemmas.List.{append_assoc, append-nil}
use Rattle.io_edge.specs.declared.got.Got.{Got}
use Rattle.io_edge.specs.declared.got.Got.TheVariants.{Line, Over}
use Rattle.io_edge.specs.declared.line_fault.LineFault.{LineFault}
use Rattle.io_edge.specs.declared.line_fault.LineFault.TheVariants.{Failed, TooLong, OutOfMemory}
use Rattle.io_edge.specs.Lines.{is_line_feed, line_limit, FitsLine, IsPastLimit}
use Rattle.io_edge.specs.Reading.{IsAnswer, ReadsLine, AnswersInput, IsOfInput}
use Rattle.io_edge.proofs.LineLemmas.{before_first-line, first_cut, HasNoLineFeed-before_first, HasNoLineFeed-not_found, before_first-none, FitsLine-not, IsPastLimit-not, IsPastLimit-not_line, IsPastLimit-append}
use Rattle.io_edge.proofs.ToldLemmas.{Gives-told}

Answered : List ℕ → Type 0
Answered input = (answer : Result Got LineFault) × IsOfInput answer × AnswersInput input answer

-- the line ends there, or nothing else stands behind it
short_answer : (input : List ℕ) → length (before_first is_line_feed input) ≤ line_limit → Answered input
unfolding Answered
short_answer input short = ⊎_elim (found input short) (not_found input short) (cases_lt (position_or_len is_line_feed input) (length input))
  where
    found : (input : List ℕ) → length (before_first is_line_feed input) ≤ line_limit → position_or_len is_line_feed input < length input → Answered input
    found input short there =
        (Ok (Line (before_first is_line_feed input)), tt, (record { one_line = HasNoLineFeed-before_first input; short = short }, (_, first_cut input there)))

    not_found : (input : List ℕ) → length (before_first is_line_feed input) ≤ line_limit → length input ≤ position_or_len is_line_feed input → Answered input
    not_found input short far =
        let clean = HasNoLineFeed-not_found input far in
        (Ok Over, tt, record { one_line = clean; short = subst (λ (xs : List ℕ). length xs ≤ line_limit) (before_first-none input clean) short })

pub answer_of : (input : List ℕ) → (answer : Result Got LineFault) × IsOfInput answer × AnswersInput input answer
unfolding Answered
answer_of input = ⊎_elim (λ past. (Err TooLong, tt, past)) (short_answer input) (cases_lt line_limit (length (before_first is_line_feed input)))

-- a line and the end exclude each other, and both exclude a line that is too long
pub one_answer : (input : List ℕ) (a b : Result Got LineFault) → IsOfInput a → IsOfInput b → AnswersInput input a → AnswersInput input b → a ≡ b
one_answer input (Ok (Line line)) (Ok (Line other)) _ _ first second =
    let same : line ≡ other =
    sym (before_first-line line first.1.0 first.0.one_line) ∙ ap (before_first is_line_feed) (sym first.1.1 ∙ second.1.1) ∙ before_first-line other second.1.0 second.0.one_line in
    ap (λ (xs : List ℕ). Ok (Line xs)) same
one_answer input (Ok (Line line)) (Ok Over) _ _ first second = absurd (FitsLine-not line first.1.0 (subst FitsLine first.1.1 second))
one_answer input (Ok (Line line)) (Err TooLong) _ _ first second = absurd (IsPastLimit-not_line line first.1.0 first.0 (subst IsPastLimit first.1.1 second))
one_answer input (Ok Over) (Ok (Line line)) _ _ first second = absurd (FitsLine-not line second.1.0 (subst FitsLine second.1.1 first))
one_answer input (Ok Over) (Ok Over) _ _ first second = refl
one_answer input (Ok Over) (Err TooLong) _ _ first second = absurd (IsPastLimit-not input first second)
one_answer input (Err TooLong) (Ok (Line line)) _ _ first second = absurd (IsPastLimit-not_line line second.1.0 second.0 (subst IsPastLimit second.1.1 first))
one_answer input (Err TooLong) (Ok Over) _ _ first second = absurd (IsPastLimit-not input second first)
one_answer input (Err TooLong) (Err TooLong) _ _ first second = refl
one_answer input a (Err Failed) _ never first second = absurd never
one_answer input a (Err OutOfMemory) _ never first second = absurd never
one_answer input (Err Failed) b never _ first second = absurd never
one_answer input (Err OutOfMemory) b never _ first second = absurd never

-- the answer to what was seen is that to it with what is left behind it
more_left : (seen more kept : List ℕ) (answer : Result Got LineFault) → IsAnswer seen kept (Some more) answer → AnswersInput (seen ++ more) answer
more_left seen more kept (Ok (Line line)) is = (is.0, (kept ++ more, ap (λ (xs : List ℕ). xs ++ more) is.1 ∙ append_assoc line (10 ∷ kept) more))
more_left seen more kept (Ok Over) is = subst FitsLine (sym (ap (λ (xs : List ℕ). seen ++ xs) is.2 ∙ append-nil seen)) is.0
more_left seen more kept (Err TooLong) is = IsPastLimit-append seen more is.0
more_left seen more kept (Err Failed) is = tt
more_left seen more kept (Err OutOfMemory) is = tt

pub ReadsLine-input : (before after : Option (List ℕ)) (kept left : List ℕ) (answer : Result Got LineFault) → ReadsLine before after kept left answer → IfSome before (λ input. AnswersInput (kept ++ input) answer)
ReadsLine-input None after kept left answer read = tt
ReadsLine-input (Some input) after kept left answer read =
    let told = Gives-told (Some input) after input read.taken read.gives refl in
    let all : kept ++ input ≡ (kept ++ read.taken) ++ told.0 = ap (λ (xs : List ℕ). kept ++ xs) told.2 ∙ sym (append_assoc kept read.taken told.0) in
    let is : IsAnswer (kept ++ read.taken) left (Some told.0) answer = subst (λ (known : Option (List ℕ)). IsAnswer (kept ++ read.taken) left known answer) told.1 read.answer in
    rw all (more_left (kept ++ read.taken) told.0 left answer is)
