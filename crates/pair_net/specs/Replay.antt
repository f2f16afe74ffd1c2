-- What each line of a pair means: the head says what the ends say of themselves, and each line behind it is a step.
use Rattle.std.specs.Prelude.{◌≡◌, ℕ, ◌+◌, nat_le, false, List, [], ◌∷◌, codes, map, take, if◌then◌else◌, Option, Result, Ok, Err}
use Rattle.io_edge.specs.Lines.{whole_lines}
use Rattle.line_run.specs.Inputs.{IsRunOver}
use Rattle.line_run.specs.Judgement.{Verdict, verdict_of}
use Rattle.line_run.specs.Runs.{Runs}
use Rattle.line_run.specs.declared.outcome.LineOutcome.{LineOutcome}
use Rattle.line_run.specs.Meaning.{Meaning, goes_on, ends, differs, is_refused, is_too_many, Says}
use Rattle.line_run.specs.Refusals.{if_read}
use Rattle.line_run.specs.declared.stop.Stop.{Stop}
use Rattle.line_run.specs.declared.stop.Stop.TheVariants as stop
use Rattle.trace_text.specs.Words.{words_of}
use Rattle.pair_net.specs.Law.{IsLawful}
use Rattle.pair_net.specs.Lines.{opening_line, info_line, later_line}
use Rattle.pair_net.specs.Pair.{PairState, fresh_pair}
use Rattle.pair_net.specs.Steps.{stepped}
use Rattle.pair_net.specs.Texts.{printed_note}
use Rattle.pair_net.specs.declared.pair_line.PairLine.{PairLine}
use Rattle.pair_net.specs.declared.pair_line.PairLine.TheVariants.{Step, Skipped, End}
use Rattle.pair_net.specs.declared.pair_replay.Progress.{Progress}
use Rattle.pair_net.specs.declared.pair_replay.Progress.TheVariants.{Opening, Left, Right, Steps}

-- how many steps a pair may have
abbrev pub most_steps : ℕ
most_steps = 1000000

-- a step is written as it was read, with what is told of it below
abbrev pub step_means : PairState → ℕ → List ℕ → PairLine → Meaning Progress
step_means pair count text (Step step) =
    if nat_le most_steps count then is_too_many
    else let turn = stepped step pair in goes_on (Steps turn.pair (count + 1)) (text ∷ map printed_note turn.notes)
step_means pair count text Skipped = goes_on (Steps pair count) []
step_means pair count text End = ends (text ∷ [])

abbrev pub line_means : Progress → List ℕ → Meaning Progress
line_means Opening text = if_read (opening_line (words_of text)) (λ _. goes_on Left (text ∷ []))
line_means Left text = if_read (info_line (codes "left") (words_of text)) (λ left. goes_on (Right left) (text ∷ []))
line_means (Right left) text = if_read (info_line (codes "right") (words_of text)) (λ right. goes_on (Steps (fresh_pair left right) 0) (text ∷ []))
line_means (Steps pair count) text = if_read (later_line text) (step_means pair count text)

-- what the left end says of itself is no mere question
abbrev pub IsOffered : Progress → Type 0
IsOffered Opening = Unit {0}
IsOffered Left = Unit {0}
IsOffered (Right left) = left.query ≡ false
IsOffered (Steps pair count) = Unit {0}

-- A line was interpreted, with what is pending before and after it: it leads so far, or it ends the input, is refused or is
-- one too many. Where memory is wanting nothing is said.
abbrev pub IsMeant : Meaning Progress → List ℕ → List ℕ → Result Progress Stop → Type 0
IsMeant meaning before after (Ok next) = (lines : List (List ℕ)) × (meaning ≡ goes_on next lines) × Says before after lines
IsMeant meaning before after (Err stop.Ended) = (lines : List (List ℕ)) × (meaning ≡ ends lines) × Says before after lines
IsMeant meaning before after (Err stop.Differs) = (lines : List (List ℕ)) × (meaning ≡ differs lines) × Says before after lines
IsMeant meaning before after (Err (stop.Refused kind)) = (meaning ≡ is_refused kind) × (after ≡ before)
IsMeant meaning before after (Err stop.TooMany) = (meaning ≡ is_too_many) × (after ≡ before)
IsMeant meaning before after (Err stop.OutOfMemory) = after ≡ before

-- ---- a whole input

-- no line was read yet
abbrev pub pair_start : Progress
pair_start = Opening

-- What a run over the lines of a pair has read and written, by its outcome.
abbrev pub PairRuns : Option (List ℕ) → Option (List ℕ) → Option (List ℕ) → Option (List ℕ) → LineOutcome → Type 0
PairRuns = Runs line_means pair_start

-- The same in terms of an input that the source tells.
abbrev pub IsPairOver : List ℕ → LineOutcome → Option (List ℕ) → Option (List ℕ) → Option (List ℕ) → Type 0
IsPairOver = IsRunOver line_means pair_start

-- how an input ends, and at which line
abbrev pub pair_verdict : List ℕ → Verdict
pair_verdict = verdict_of line_means pair_start

-- ---- the pair on the way

-- where a line goes on, and else it stays
abbrev pub led_by : Meaning Progress → Progress → Progress
led_by (goes_on next lines) progress = next
led_by (ends lines) progress = progress
led_by (differs lines) progress = progress
led_by (is_refused kind) progress = progress
led_by is_too_many progress = progress

abbrev pub led_through : List (List ℕ) → Progress → Progress
led_through [] progress = progress
led_through (text ∷ texts) progress = led_through texts (led_by (line_means progress text) progress)

-- how far so many lines of an input lead
abbrev pub progress_after : ℕ → List ℕ → Progress
progress_after count input = led_through (take count (whole_lines input)) pair_start

-- every law holds of the pair, once there is one
abbrev pub IsLawfulSoFar : Progress → Type 0
IsLawfulSoFar Opening = Unit {0}
IsLawfulSoFar Left = Unit {0}
IsLawfulSoFar (Right left) = Unit {0}
IsLawfulSoFar (Steps pair count) = IsLawful pair

-- every law holds of the pair behind any number of lines of an input
abbrev pub LedAreLawful : Type 0
LedAreLawful = (input : List ℕ) (count : ℕ) → IsLawfulSoFar (progress_after count input)
