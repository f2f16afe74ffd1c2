-- What is written for the bytes of an input, and which line of it decides.
use Rattle.std.specs.Prelude.{◌≡◌, ℕ, ◌+◌, nat_lt, Bool, ◌||◌, List, [], ◌∷◌, ◌++◌, length, if◌then◌else◌}
use Rattle.io_edge.specs.Lines.{whole_lines, unfinished_line, ended_lines, line_limit}
use Rattle.net_base.specs.declared.refusal.RefusalKind.{RefusalKind}
use Rattle.net_base.specs.declared.refusal.RefusalKind.TheVariants.{NoEnd}
use Rattle.line_run.specs.Meaning.{Meaning, goes_on, ends, differs, is_refused, is_too_many}

-- how many lines an input may have
abbrev pub most_lines : ℕ
most_lines = 4000000

-- how an input ends, and at which line
pub data Verdict : Type 0 where
  ended : Verdict
  differed : ℕ → Verdict
  refused : ℕ → RefusalKind → Verdict
  too_long : ℕ → Verdict

-- the lines that are written, and what the line that decides comes to
pub record Judgement : Type 0 where
  pub lines : List (List ℕ)
  pub verdict : Verdict

abbrev pub silently : Verdict → Judgement
silently verdict = record { lines = []; verdict = verdict }

-- these lines are written in front
abbrev pub behind : List (List ℕ) → Judgement → Judgement
behind lines j = record { lines = lines ++ j.lines; verdict = j.verdict }

-- a line is too long by its bytes or by its number
abbrev pub is_too_long : ℕ → List ℕ → Bool
is_too_long number text = nat_lt most_lines number || nat_lt line_limit (length text)

-- what a line with a number means for the whole, and the judgement of those behind it
abbrev pub judged_by : {S : Type 0} → ℕ → Meaning S → (S → Judgement) → Judgement
judged_by number (goes_on next lines) later = behind lines (later next)
judged_by number (ends lines) later = record { lines = lines; verdict = ended }
judged_by number (differs lines) later = record { lines = lines; verdict = differed number }
judged_by number (is_refused kind) later = silently (refused number kind)
judged_by number is_too_many later = silently (too_long number)

-- what it comes to where the bytes end inside a line, or before the last one
abbrev pub verdict_of_rest : ℕ → List ℕ → Verdict
verdict_of_rest number rest = if is_too_long number rest then too_long number else refused number NoEnd

-- Each line means what it does behind those before it, up to the first that decides; behind the last whole line the bytes
-- that are left decide. Lines are numbered from 1.
unfoldable pub judged_from : {S : Type 0} → (S → List ℕ → Meaning S) → ℕ → S → List (List ℕ) → List ℕ → Judgement
judged_from means number state [] rest = silently (verdict_of_rest number rest)
judged_from means number state (text ∷ texts) rest =
    if is_too_long number text then silently (too_long number)
    else judged_by number (means state text) (λ next. judged_from means (number + 1) next texts rest)

abbrev pub judged : {S : Type 0} → (S → List ℕ → Meaning S) → S → List ℕ → Judgement
judged means start bytes = judged_from means 1 start (whole_lines bytes) (unfinished_line bytes)

-- what is written for the bytes
abbrev pub output_of : {S : Type 0} → (S → List ℕ → Meaning S) → S → List ℕ → List ℕ
output_of means start bytes = ended_lines (judged means start bytes).lines

abbrev pub verdict_of : {S : Type 0} → (S → List ℕ → Meaning S) → S → List ℕ → Verdict
verdict_of means start bytes = (judged means start bytes).verdict

-- Lines lead to this interpreter, and these lines are written for them: whatever follows is judged from here.
abbrev pub Lead : {S : Type 0} → (S → List ℕ → Meaning S) → S → List (List ℕ) → S → List (List ℕ) → Type 0
Lead means start texts state lines = (more : List (List ℕ)) (rest : List ℕ) →
    judged_from means 1 start (texts ++ more) rest ≡ behind lines (judged_from means (length texts + 1) state more rest)
