-- The rows of those that have left are dropped.
use Rattle.std.proofs.Common.{◌≡◌, Bool, true, false, cond, List, [], ◌∷◌, ◌++◌, refl, ap, sym, ◌∙◌}
use Rattle.timer_queue.specs.Kept.{AreRising, AreIdle, those_in, timers_in, all_timers}
use Rattle.timer_queue.specs.Rows.{no_moments}
use Rattle.timer_queue.specs.Timers.{same_cid, cid_below}
use Rattle.timer_queue.specs.declared.rows.Row.{Row}
use Rattle.timer_queue.proofs.Orders.{cid_order}
use Rattle.timer_queue.proofs.Rising.{IsRising-filter}

pub rise-dropped : (rows : List Row) → AreRising rows → AreRising (those_in rows)
rise-dropped rows rises = IsRising-filter cid_below same_cid cid_order (λ r. r.cid) (λ r. r.enrolled) rows rises

pub idle-dropped : (rows : List Row) → AreIdle rows → AreIdle (those_in rows)
idle-dropped [] idle = tt
idle-dropped (r ∷ rs) idle = chosen r.enrolled (idle-dropped rs idle.1)
  where
    chosen : (b : Bool) → AreIdle (those_in rs) → AreIdle (cond b (r ∷ those_in rs) (those_in rs))
    chosen true rest = (idle.0, rest)
    chosen false rest = rest

pub those-again : (rows : List Row) → those_in (those_in rows) ≡ those_in rows
those-again [] = refl
those-again (r ∷ rs) = chosen r.enrolled refl (those-again rs)
  where
    chosen : (b : Bool) → r.enrolled ≡ b → those_in (those_in rs) ≡ those_in rs →
        those_in (cond b (r ∷ those_in rs) (those_in rs)) ≡ cond b (r ∷ those_in rs) (those_in rs)
    chosen true is rest = ap (λ b. cond b (r ∷ those_in (those_in rs)) (those_in (those_in rs))) is ∙ ap (λ l. r ∷ l) rest
    chosen false left rest = rest

no_timers : (row : Row) → row.moments ≡ no_moments → timers_in row ≡ []
no_timers row none = ap (λ m. timers_in (record row { moments = m })) none

pub timers-dropped : (rows : List Row) → AreIdle rows → all_timers (those_in rows) ≡ all_timers rows
timers-dropped [] idle = refl
timers-dropped (r ∷ rs) idle = chosen r.enrolled refl (timers-dropped rs idle.1)
  where
    chosen : (b : Bool) → r.enrolled ≡ b → all_timers (those_in rs) ≡ all_timers rs →
        all_timers (cond b (r ∷ those_in rs) (those_in rs)) ≡ timers_in r ++ all_timers rs
    chosen true is rest = ap (λ l. timers_in r ++ l) rest
    chosen false left rest = rest ∙ ap (λ l. l ++ all_timers rs) (sym (no_timers r (idle.0 left)))
