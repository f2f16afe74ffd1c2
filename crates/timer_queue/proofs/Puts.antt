-- The timers, after a row is put in place of the one of its id.
use Rattle.std.proofs.Common.{◌≡◌, ℕ, true, false, List, Option, Some, None, is_some, refl, ap, ◌∙◌}
use Rattle.std.proofs.lemmas.Bool.{false≢true}
use Rattle.net_base.specs.declared.connection.Cid.{Cid}
use Rattle.net_base.specs.declared.timer.Kind.{Kind}
use Rattle.net_base.specs.declared.timer.Kind.TheVariants.{Handshake, Grace, TimeWait, Reply2, Reply8, Reply10}
use Rattle.timer_queue.specs.Kept.{AreRising, AreIdle, all_timers}
use Rattle.timer_queue.specs.Rows.{row_at, with_moment, no_moments, with_at, with_row, empty_row, gone_row}
use Rattle.timer_queue.specs.Timers.{timer, put_in, without_kind, without_cid}
use Rattle.timer_queue.specs.declared.rows.Row.{Row}
use Rattle.timer_queue.proofs.Agreement.{Agree-set, Agree-cleared, Agree-left, Agree-again, cleared}
use Rattle.timer_queue.proofs.Enrolled.{enrolled_in, idle-row}
use Rattle.timer_queue.proofs.Lines.{IsInOrder-put_in, IsInOrder-filter}
use Rattle.timer_queue.proofs.RowEdits.{AreRising-with_row}
use Rattle.timer_queue.proofs.TimersOf.{timers_of, timers_are, agreeing, in_order-rises}

pub timers-set : (row : Row) (kind : Kind) (at : ℕ) (rows : List Row) → AreRising rows → row_at row.cid rows ≡ Some row →
    timers_of (with_row (with_at kind (Some at) row) rows) ≡ put_in (timer row.cid kind at) (without_kind row.cid kind (timers_of rows))
timers-set row kind at rows rises found =
    let there = in_order-rises (all_timers rows) in
    timers_are (with_row (with_at kind (Some at) row) rows) (put_in (timer row.cid kind at) (without_kind row.cid kind (timers_of rows)))
    (AreRising-with_row (with_at kind (Some at) row) rows rises)
    (IsInOrder-put_in (timer row.cid kind at) (without_kind row.cid kind (timers_of rows)) (IsInOrder-filter _ (timers_of rows) there)
    (cleared row.cid kind at (timers_of rows)))
    (Agree-set row kind at rows (timers_of rows) found there (agreeing rows rises))

pub timers-cleared : (row : Row) (kind : Kind) (rows : List Row) → AreRising rows → row_at row.cid rows ≡ Some row →
    timers_of (with_row (with_at kind None row) rows) ≡ without_kind row.cid kind (timers_of rows)
timers-cleared row kind rows rises found =
    timers_are (with_row (with_at kind None row) rows) (without_kind row.cid kind (timers_of rows))
    (AreRising-with_row (with_at kind None row) rows rises) (IsInOrder-filter _ (timers_of rows) (in_order-rises (all_timers rows)))
    (Agree-cleared row kind rows (timers_of rows) found (agreeing rows rises))

pub timers-left : (cid : Cid) (rows : List Row) → AreRising rows → is_some (row_at cid rows) ≡ true →
    timers_of (with_row (gone_row cid) rows) ≡ without_cid cid (timers_of rows)
timers-left cid rows rises there =
    timers_are (with_row (gone_row cid) rows) (without_cid cid (timers_of rows))
    (AreRising-with_row (gone_row cid) rows rises) (IsInOrder-filter _ (timers_of rows) (in_order-rises (all_timers rows)))
    (Agree-left cid rows (timers_of rows) there (agreeing rows rises))

pub timers-again : (row : Row) (rows : List Row) → AreRising rows → row_at row.cid rows ≡ Some row → row.moments ≡ no_moments →
    timers_of (with_row (empty_row row.cid) rows) ≡ timers_of rows
timers-again row rows rises found none =
    timers_are (with_row (empty_row row.cid) rows) (timers_of rows)
    (AreRising-with_row (empty_row row.cid) rows rises) (in_order-rises (all_timers rows))
    (Agree-again row rows (timers_of rows) found none (agreeing rows rises))

-- ---- whether it is enrolled

pub there_if : (o : Option Row) → enrolled_in o ≡ true → is_some o ≡ true
there_if None h = absurd (false≢true h)
there_if (Some row) h = refl

none_cleared : (kind : Kind) → with_moment kind None no_moments ≡ no_moments
none_cleared Handshake = refl
none_cleared Grace = refl
none_cleared TimeWait = refl
none_cleared Reply2 = refl
none_cleared Reply8 = refl
none_cleared Reply10 = refl

pub idle-cleared : (row : Row) (kind : Kind) (rows : List Row) → AreIdle rows → row_at row.cid rows ≡ Some row → row.enrolled ≡ false →
    with_moment kind None row.moments ≡ no_moments
idle-cleared row kind rows idle found left = ap (with_moment kind None) (idle-row row.cid row rows idle found left) ∙ none_cleared kind
