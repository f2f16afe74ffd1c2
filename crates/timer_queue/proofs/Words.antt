-- Rows of words, after a change.
use Rattle.std.proofs.Common.{Bool, true, false, cond, List, [], ◌∷◌, inl, inr}
use Rattle.std.proofs.lemmas.Bool.{cases_Bool}
use Rattle.timer_queue.specs.Kept.{IsOfWords, AreOfWords, those_in}
use Rattle.timer_queue.specs.Rows.{with_row, with_new_row}
use Rattle.timer_queue.specs.Timers.{same_cid, cid_below}
use Rattle.timer_queue.specs.declared.rows.Row.{Row}

pub words-with_row : (new : Row) (rows : List Row) → IsOfWords new → AreOfWords rows → AreOfWords (with_row new rows)
words-with_row new [] of_new words = tt
words-with_row new (r ∷ rs) of_new words = elim (cases_Bool (same_cid r.cid new.cid)) [
  | inl here ↦ rw here (of_new, words-with_row new rs of_new words.1)
  | inr other ↦ rw other (words.0, words-with_row new rs of_new words.1)
]

pub words-with_new_row : (new : Row) (rows : List Row) → IsOfWords new → AreOfWords rows → AreOfWords (with_new_row new rows)
words-with_new_row new [] of_new words = (of_new, tt)
words-with_new_row new (r ∷ rs) of_new words = elim (cases_Bool (cid_below r.cid new.cid)) [
  | inl under ↦ rw under (words.0, words-with_new_row new rs of_new words.1)
  | inr over ↦ rw over (of_new, words)
]

pub words-dropped : (rows : List Row) → AreOfWords rows → AreOfWords (those_in rows)
words-dropped [] words = tt
words-dropped (r ∷ rs) words = chosen r.enrolled (words-dropped rs words.1)
  where
    chosen : (b : Bool) → AreOfWords (those_in rs) → AreOfWords (cond b (r ∷ those_in rs) (those_in rs))
    chosen true rest = (words.0, rest)
    chosen false rest = rest
