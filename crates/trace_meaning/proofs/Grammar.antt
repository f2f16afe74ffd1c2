-- What the grammar says of a line that is read at a stage.
use Rattle.std.proofs.Common.{◌≡◌, ℕ, suc, ◌+◌, ◌-◌, ◌<◌, ◌≤◌, Bool, true, false, cond, eqb, leb, List, [], ◌∷◌, length, get_or, Option, Some, None, Result, Ok, Err, IfOk, refl, sym, ap, ◌∙◌, subst, arith, leb-true, leb-false, eqb-true}
use Rattle.std.specs.Prelude.{codes, bytes_eq}
use Rattle.std.specs.Option.{ok_or}
use Rattle.net_base.specs.Limits.{IsWithinLimits}
use Rattle.net_base.specs.Number.{number_of, number_up_to, up_to}
use Rattle.trace_text.specs.Lines.{version_of, first_line, second_line, setting_line, set_line, end_line, later_line, is_action_line, line_of}
use Rattle.trace_text.specs.Reading.{◌>>=◌, first_word, next_word, next_read, from_least, next_number, next_address, no_more, this_word}
use Rattle.trace_text.specs.Settings.{Setting, setting, settings_under, setting_from, setting_of}
use Rattle.trace_text.specs.Words.{Unread, words_of}
use Rattle.trace_text.specs.declared.line.HeadLine.{HeadLine}
use Rattle.trace_text.specs.declared.line.HeadLine.TheVariants.{Trace, Own, Set}
use Rattle.trace_text.specs.declared.line.Line.{Line}
use Rattle.trace_text.specs.declared.line.Line.TheVariants.{Head, Happen, Acted, End}
use Rattle.trace_text.specs.declared.line.LineRefusal.{LineRefusal}
use Rattle.trace_text.specs.declared.line.LineRefusal.TheVariants.{BadWord, BadNumber, OutOfOrder}
use Rattle.trace_text.specs.declared.stage.Stage.{Stage}
use Rattle.trace_text.proofs.ReadEvents.{event_line-is}
use Rattle.trace_meaning.specs.Heads.{setting_at, IsInRange}
use Rattle.trace_meaning.specs.Reading.{said_at}

-- ---- a chain of readings

pub IfOk-chain : {A B : Type 0} (P : B → Type 0) (r : Result A LineRefusal) (f : A → Result B LineRefusal) →
    ((x : A) → r ≡ Ok x → IfOk (f x) P) → IfOk (r >>= f) P
IfOk-chain P (Ok x) f h = h x refl
IfOk-chain P (Err refusal) f h = tt

-- a value that was read is read of some word
record IsRead {A : Type 0} (read : List ℕ → Option A) (value : A) : Type 0 where
  word : List ℕ
  reads : read word ≡ Some value

at_word : {A : Type 0} (read : List ℕ → Option A) (refused : LineRefusal) (rest : Unread) (word : List ℕ) (found : Option A) (value : A × Unread) →
    read word ≡ found → (ok_or found refused >>= (λ (x : A). Ok (x, rest))) ≡ Ok value → IsRead read value.0
at_word read refused rest word None value is e = absurd cc
at_word read refused rest word (Some x) value is e = record { word = word; reads = is ∙ ap (λ p. Some p) cc }

next_read-word : {A : Type 0} (read : List ℕ → Option A) (refused : ℕ → LineRefusal) (unread : Unread) (value : A × Unread) →
    next_read read refused unread ≡ Ok value → IsRead read value.0
next_read-word {A} read refused unread value e = in_words unread.words refl e
  where
    in_words : (words : List (List ℕ)) → unread.words ≡ words →
        (first_word unread.place words >>= (λ (w : List ℕ × Unread). ok_or (read w.0) (refused unread.place) >>= (λ (x : A). Ok (x, w.1)))) ≡ Ok value →
        IsRead read value.0
    in_words [] is e = absurd cc
    in_words (word ∷ words) is e = at_word read (refused unread.place) _ word (read word) value refl e

-- a number that was read in a range is in it
from_least-range : (least most : ℕ) (word : List ℕ) (value : ℕ) → from_least least (number_up_to most word) ≡ Some value → (least ≤ value) × (value ≤ most)
from_least-range least most word value e = in_number (number_of word) e
  where
    in_least : (n : ℕ) (b : Bool) → leb least n ≡ b → n ≤ most → cond b (Some n) None ≡ Some value → (least ≤ value) × (value ≤ most)
    in_least n true is below e = let same : n ≡ value = cc in (rw (← same) (leb-true least n is), rw (← same) below)
    in_least n false is below e = absurd cc

    in_most : (n : ℕ) (b : Bool) → leb n most ≡ b → from_least least (cond b (Some n) None) ≡ Some value → (least ≤ value) × (value ≤ most)
    in_most n true is e = in_least n (leb least n) refl (leb-true n most is) e
    in_most n false is e = absurd cc

    in_number : (found : Option ℕ) → from_least least (up_to most found) ≡ Some value → (least ≤ value) × (value ≤ most)
    in_number None e = absurd cc
    in_number (Some n) e = in_most n (leb n most) refl e

next_number-range : (least most : ℕ) (unread : Unread) (value : ℕ × Unread) → next_number least most unread ≡ Ok value → (least ≤ value.0) × (value.0 ≤ most)
next_number-range least most unread value e =
    let read = next_read-word (λ word. from_least least (number_up_to most word)) BadNumber unread value e in
    from_least-range least most read.word value.0 read.reads

-- ---- the head

setting_from-place : (n : ℕ) (name : List ℕ) (rows : List Setting) (found : ℕ × Setting) → setting_from n name rows ≡ Some found →
    (k : ℕ) × (k < length rows) × (found.0 ≡ n + k) × ((d : Setting) → found.1 ≡ get_or rows k d)
setting_from-place n name [] found e = absurd cc
setting_from-place n name (row ∷ rows) found e = at_row (bytes_eq row.name name) e (setting_from-place (n + 1) name rows found)
  where
    at_row : (b : Bool) → cond b (Some (n, row)) (setting_from (n + 1) name rows) ≡ Some found →
        (setting_from (n + 1) name rows ≡ Some found → (k : ℕ) × (k < length rows) × (found.0 ≡ (n + 1) + k) × ((d : Setting) → found.1 ≡ get_or rows k d)) →
        (k : ℕ) × (k < length (row ∷ rows)) × (found.0 ≡ n + k) × ((d : Setting) → found.1 ≡ get_or (row ∷ rows) k d)
    at_row true e later =
        let same : (n, row) ≡ found = cc in
        let at : n ≡ found.0 = ap (λ p. p.0) same in
        (0, omega arith, omega arith, λ d. sym (ap (λ p. p.1) same))
    at_row false e later = let rest = later e in (suc rest.0, omega arith, omega (arith, rest.2), rest.3)

setting_of-place : (hard : ℕ) (name : List ℕ) (found : ℕ × Setting) → setting_of hard name ≡ Some found →
    (1 ≤ found.0) × (found.0 ≤ 13) × (found.1 ≡ setting_at hard found.0)
unfolding setting_at
setting_of-place hard name found e =
    let at = setting_from-place 1 name (settings_under hard) found e in
    let place : found.0 - 1 ≡ at.0 = omega (arith, at.2) in
    (omega (arith, at.2), omega (arith, at.1, at.2), at.3 (setting [] 0 0) ∙ ap (λ k. get_or (settings_under hard) k (setting [] 0 0)) (sym place))

-- neither of the first two lines
pub record IsBehindHead (stage : Stage) : Type 0 where
  pub no_first : eqb stage.seen 0 ≡ false
  pub no_second : eqb stage.seen 1 ≡ false

pub record IsSetAt (stage : Stage) (place value : ℕ) : Type 0 where
  pub behind : IsBehindHead stage
  pub before_events : stage.events ≡ false
  pub later : stage.last < place
  pub in_range : IsInRange stage.hard place value

-- what a line of the head says, by the stage at which it is read
abbrev pub IsHeadAt : Stage → HeadLine → Type 0
IsHeadAt stage (Trace version) = (stage.seen ≡ 0) × (1 ≤ version) × (version ≤ 2)
IsHeadAt stage (Own address) = stage.seen ≡ 1
IsHeadAt stage (Set place value) = IsSetAt stage place value

abbrev pub IsLineAt : Stage → Line → Type 0
IsLineAt stage (Head head) = IsHeadAt stage head
IsLineAt stage (Happen event) = IsBehindHead stage × IsWithinLimits event
IsLineAt stage Acted = IsBehindHead stage
IsLineAt stage End = IsBehindHead stage

version_of-range : (word : List ℕ) (version : ℕ) → version_of word ≡ Some version → (1 ≤ version) × (version ≤ 2)
version_of-range word version e = in_one (bytes_eq word (codes "1")) (bytes_eq word (codes "2")) e
  where
    in_one : (one two : Bool) → cond one (Some 1) (cond two (Some 2) None) ≡ Some version → (1 ≤ version) × (version ≤ 2)
    in_one true two e = let same : 1 ≡ version = cc in (omega arith, omega arith)
    in_one false true e = let same : 2 ≡ version = cc in (omega arith, omega arith)
    in_one false false e = absurd cc

first_line-is : (stage : Stage) (unread : Unread) → stage.seen ≡ 0 → IfOk (first_line unread) (IsLineAt stage)
first_line-is stage unread at =
    IfOk-chain (IsLineAt stage) (next_read (this_word (codes "trace")) BadWord unread) _ (λ p _.
    IfOk-chain (IsLineAt stage) (next_read version_of BadWord p.1) _ (λ q e.
    IfOk-chain (IsLineAt stage) (no_more q.1) _ (λ _ _.
    let read = next_read-word version_of BadWord p.1 q e in
    let range = version_of-range read.word q.0 read.reads in
    (at, range.0, range.1))))

second_line-is : (stage : Stage) (unread : Unread) → stage.seen ≡ 1 → IfOk (second_line stage.version unread) (IsLineAt stage)
second_line-is stage unread at =
    IfOk-chain (IsLineAt stage) (next_read (this_word (codes "own")) BadWord unread) _ (λ p _.
    IfOk-chain (IsLineAt stage) (next_address stage.version p.1) _ (λ q _.
    IfOk-chain (IsLineAt stage) (no_more q.1) _ (λ _ _. at)))

setting_line-is : (stage : Stage) (place least most : ℕ) (unread : Unread) →
    ((value : ℕ) → (least ≤ value) × (value ≤ most) → IsSetAt stage place value) →
    IfOk (setting_line place least most unread) (IsLineAt stage)
setting_line-is stage place least most unread at =
    IfOk-chain (IsLineAt stage) (next_number least most unread) _ (λ p e.
    IfOk-chain (IsLineAt stage) (no_more p.1) _ (λ _ _. at p.0 (next_number-range least most unread p e)))

set_line-is : (stage : Stage) (unread : Unread) → IsBehindHead stage → IfOk (set_line stage unread) (IsLineAt stage)
set_line-is stage unread behind = in_events stage.events refl
  where
    in_order : (found : ℕ × Setting) (rest : Unread) → stage.events ≡ false → IsRead (setting_of stage.hard) found → (b : Bool) →
        leb found.0 stage.last ≡ b → IfOk (cond b (Err OutOfOrder) (setting_line found.0 found.1.least found.1.most rest)) (IsLineAt stage)
    in_order found rest early read true is = tt
    in_order found rest early read false is =
        let at = setting_of-place stage.hard read.word found read.reads in
        setting_line-is stage found.0 found.1.least found.1.most rest (λ value within. record {
          behind = behind;
          before_events = early;
          later = leb-false found.0 stage.last is;
          in_range = record {
            placed = at.0;
            known = at.1;
            least = rw (← at.2) within.0;
            most = rw (← at.2) within.1;
          };
        })

    in_events : (b : Bool) → stage.events ≡ b →
        IfOk (cond b (Err OutOfOrder) (next_read (setting_of stage.hard) BadWord unread >>= (λ (p : (ℕ × Setting) × Unread).
        cond (leb p.0.0 stage.last) (Err OutOfOrder) (setting_line p.0.0 p.0.1.least p.0.1.most p.1)))) (IsLineAt stage)
    in_events true is = tt
    in_events false is =
        IfOk-chain (IsLineAt stage) (next_read (setting_of stage.hard) BadWord unread) _ (λ p e.
        in_order p.0 p.1 is (next_read-word (setting_of stage.hard) BadWord unread p e) (leb p.0.0 stage.last) refl)

-- ---- the end

end_line-is : (stage : Stage) (unread : Unread) → IsBehindHead stage → IfOk (end_line unread) (IsLineAt stage)
end_line-is stage unread behind = IfOk-chain (IsLineAt stage) (no_more unread) _ (λ _ _. behind)

-- ---- a line by its stage

pub IfOk-cond : (P : Line → Type 0) (b : Bool) (r s : Result Line LineRefusal) → IfOk r P → IfOk s P → IfOk (cond b r s) P
IfOk-cond P true r s h k = h
IfOk-cond P false r s h k = k

later_line-is : (stage : Stage) (unread : Unread) → IsBehindHead stage → IfOk (later_line stage unread) (IsLineAt stage)
later_line-is stage unread behind =
    IfOk-chain (IsLineAt stage) (next_word unread) _ (λ p _.
    let P : Line → Type 0 = IsLineAt stage in
    let word = p.0 in
    IfOk-cond P (bytes_eq word (codes "set")) _ _ (set_line-is stage p.1 behind) (
    IfOk-cond P (bytes_eq word (codes "end")) _ _ (end_line-is stage p.1 behind) (
    event_line-is stage.version p.1 P (λ _ limits. (behind, limits)) word)))

line_of-is : (stage : Stage) (line : List ℕ) → IfOk (line_of stage line) (IsLineAt stage)
line_of-is stage line = in_first (eqb stage.seen 0) refl
  where
    in_later : (b : Bool) → IsBehindHead stage → IfOk (cond b (Ok Acted) (later_line stage (words_of line))) (IsLineAt stage)
    in_later true behind = behind
    in_later false behind = later_line-is stage (words_of line) behind

    in_second : (b : Bool) → eqb stage.seen 0 ≡ false → eqb stage.seen 1 ≡ b →
        IfOk (cond b (second_line stage.version (words_of line)) (cond (is_action_line line) (Ok Acted) (later_line stage (words_of line)))) (IsLineAt stage)
    in_second true other is = second_line-is stage (words_of line) (eqb-true stage.seen 1 is)
    in_second false other is = in_later (is_action_line line) (record { no_first = other; no_second = is })

    in_first : (b : Bool) → eqb stage.seen 0 ≡ b →
        IfOk (cond b (first_line (words_of line)) (cond (eqb stage.seen 1) (second_line stage.version (words_of line))
        (cond (is_action_line line) (Ok Acted) (later_line stage (words_of line))))) (IsLineAt stage)
    in_first true is = first_line-is stage (words_of line) (eqb-true stage.seen 0 is)
    in_first false is = in_second (eqb stage.seen 1) is refl

-- a line that is read is one of its stage
pub said_at-is : (stage : Stage) (text : List ℕ) (line : Line) → said_at stage text ≡ Ok line → IsLineAt stage line
unfolding said_at
said_at-is stage text line e = subst (λ r. IfOk r (IsLineAt stage)) e (line_of-is stage text)
