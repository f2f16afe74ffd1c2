-- What lines of a pair come to.
use Rattle.std.proofs.Common.{◌≡◌, ℕ, ◌+◌, ◌<◌, Bool, true, false, cond, leb, List, [], ◌∷◌, ◌++◌, map, Result, Ok, sym, ap, ◌∙◌}
use Rattle.std.specs.Prelude.{codes}
use Rattle.std.proofs.lemmas.Bool.{lt-leb}
use Rattle.io_edge.specs.Lines.{ended_lines}
use Rattle.line_run.specs.Meaning.{Meaning, goes_on, differs, is_too_many}
use Rattle.line_run.specs.Refusals.{if_read}
use Rattle.line_run.proofs.Meant.{says_line, read_never_differs}
use Rattle.line_run.proofs.Differing.{NeverDiffers}
use Rattle.trace_text.specs.Words.{words_of}
use Rattle.trace_text.specs.declared.line.LineRefusal.{LineRefusal}
use Rattle.pair_net.specs.Lines.{opening_line, info_line, later_line}
use Rattle.pair_net.specs.Pair.{PairState, fresh_pair}
use Rattle.pair_net.specs.Replay.{most_steps, step_means, line_means, IsMeant}
use Rattle.pair_net.specs.Steps.{IsTurn, stepped}
use Rattle.pair_net.specs.Texts.{printed_note}
use Rattle.pair_net.specs.declared.note.PairNote.{PairNote}
use Rattle.pair_net.specs.declared.pair_line.PairLine.{PairLine}
use Rattle.pair_net.specs.declared.pair_line.PairLine.TheVariants.{Step, Skipped, End}
use Rattle.pair_net.specs.declared.pair_step.PairStep.{PairStep}
use Rattle.pair_net.specs.declared.pair_replay.Progress.{Progress}
use Rattle.pair_net.specs.declared.pair_replay.Progress.TheVariants.{Opening, Left, Right, Steps}

-- a line that is written as it was read, and leads on
pub line_meant : {A : Type 0} (read : Result A LineRefusal) (value : A) (meaning : A → Meaning Progress) (next : Progress) (text before after : List ℕ) → read ≡ Ok value →
    meaning value ≡ goes_on next (text ∷ []) → after ≡ before ++ (text ++ 10 ∷ []) → IsMeant (if_read read meaning) before after (Ok next)
line_meant {A} read value meaning next text before after is leads said =
    (text ∷ [], ap (λ (r : Result A LineRefusal). if_read r meaning) is ∙ leads, says_line before after text said)

-- a step is taken
pub step_meant : (pair next : PairState) (count : ℕ) (text : List ℕ) (step : PairStep) (notes : List PairNote) (before after : List ℕ) → count < most_steps →
    IsTurn (stepped step pair) next notes → after ≡ before ++ ended_lines (text ∷ map printed_note notes) →
    IsMeant (step_means pair count text (Step step)) before after (Ok (Steps next (count + 1)))
step_meant pair next count text step notes before after few turn said =
    let early : leb most_steps count ≡ false = lt-leb most_steps count few in
    let turned = stepped step pair in
    let leads : goes_on (Steps turned.pair (count + 1)) (text ∷ map printed_note turned.notes) ≡ goes_on (Steps next (count + 1)) (text ∷ map printed_note notes) =
    ap (λ (p : PairState). goes_on (Steps p (count + 1)) (text ∷ map printed_note turned.notes)) (sym turn.pair-is)
    ∙ ap (λ (ns : List PairNote). goes_on (Steps next (count + 1)) (text ∷ map printed_note ns)) (sym turn.notes-are) in (
      text ∷ map printed_note notes,
      ap (λ (b : Bool). cond b is_too_many (goes_on (Steps turned.pair (count + 1)) (text ∷ map printed_note turned.notes))) early ∙ leads,
      said,
    )

-- no line differs
pub line_never_differs : NeverDiffers line_means
line_never_differs Opening text lines = read_never_differs (opening_line (words_of text)) (λ _. goes_on Left (text ∷ [])) Opening lines (λ value e. absurd cc)
line_never_differs Left text lines = read_never_differs (info_line (codes "left") (words_of text)) (λ left. goes_on (Right left) (text ∷ [])) Left lines (λ value e. absurd cc)
line_never_differs (Right left) text lines =
    read_never_differs (info_line (codes "right") (words_of text)) (λ right. goes_on (Steps (fresh_pair left right) 0) (text ∷ [])) (Right left) lines (λ value e. absurd cc)
line_never_differs (Steps pair count) text lines = read_never_differs (later_line text) (step_means pair count text) (Steps pair count) lines by_line
  where
    by_many : (b : Bool) (turned : Progress) (said : List (List ℕ)) → cond b is_too_many (goes_on turned said) ≡ differs lines → ⊥
    by_many true turned said e = absurd cc
    by_many false turned said e = absurd cc

    by_line : (line : PairLine) → step_means pair count text line ≡ differs lines → ⊥
    by_line (Step step) e = by_many (leb most_steps count) _ _ e
    by_line Skipped e = absurd cc
    by_line End e = absurd cc
