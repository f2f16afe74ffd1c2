-- What holds of every queue, and what that gives.
use Rattle.std.proofs.Common.{◌≡◌, ℕ, ◌&&◌, ◌||◌, true, false, not, List, Option, Some, None, refl, sym, ap, ◌∙◌, inl, inr, arith}
use Rattle.std.proofs.lemmas.Bool.{cases_Bool, and_left, and_right, and_from, false≢true, true≢false, false_from_ne_true}
use Rattle.std.proofs.lemmas.Bool.Decides.{nat_tests}
use Rattle.net_base.specs.Timer.{deadline_before}
use Rattle.net_base.specs.declared.connection.Cid.{Cid}
use Rattle.net_base.specs.declared.timer.Deadline.{Deadline}
use Rattle.net_base.specs.declared.timer.Kind.{Kind}
use Rattle.timer_queue.specs.Kept.{IsKept, AreIdle, all_timers, queue_of}
use Rattle.timer_queue.specs.Queue.{Queue, IsOrderly, is_enrolled, with_enrolled, with_timer, without_timer, without_connection}
use Rattle.timer_queue.specs.Rows.{row_at, moment, moment_of, moment_at, no_moments, is_set_at}
use Rattle.timer_queue.specs.Timers.{same_cid, cid_below, same_kind, same_timer, has_timer, is_of, is_timer_of, without_kind}
use Rattle.timer_queue.specs.declared.kept.Kept.{Kept}
use Rattle.timer_queue.specs.declared.rows.Row.{Row}
use Rattle.timer_queue.proofs.Agreement.{Agree, has-put_in}
use Rattle.timer_queue.proofs.Enrolled.{enrolled_in, enrolled-is, ids-rise, idle-row}
use Rattle.timer_queue.proofs.Lines.{IsInOrder-filter}
use Rattle.timer_queue.proofs.Orders.{timer_order, cid_order, same_cid-is, same_kind-itself}
use Rattle.timer_queue.proofs.Rising.{between-there, filter-all, has-filter}
use Rattle.timer_queue.proofs.RowEdits.{none_of}
use Rattle.timer_queue.proofs.TimersOf.{timers_of, agreeing, in_order-rises}

-- ---- from what is kept

same_moment : (o : Option ℕ) (m n : ℕ) → is_set_at m o ≡ true → is_set_at n o ≡ true → m ≡ n
same_moment None m n h k = absurd (false≢true h)
same_moment (Some at) m n h k = grind (arith, nat_tests)

one_each : (rows : List Row) (line : List Deadline) → Agree rows line → (a b : Deadline) → has_timer a line ≡ true → has_timer b line ≡ true →
    a.cid ≡ b.cid → a.kind ≡ b.kind → a ≡ b
one_each rows line agree a b ha hb cids kinds =
    let one : moment_at b.cid b.kind rows ≡ moment_at a.cid a.kind rows =
    ap (λ i. moment_at i b.kind rows) (sym cids) ∙ ap (λ k. moment_at a.cid k rows) (sym kinds) in
    let moments = same_moment (moment_at a.cid a.kind rows) a.at b.at (sym (agree a) ∙ ha) (sym (ap (is_set_at b.at) one) ∙ (sym (agree b) ∙ hb)) in
    λ i. record { at = moments i; cid = cids i; kind = kinds i }

-- a row of one that has left has no timers
abbrev OfGone : Option Row → Type 0
OfGone None = Unit {0}
OfGone (Some row) = row.enrolled ≡ false → row.moments ≡ no_moments

of_gone : (cid : Cid) (rows : List Row) → AreIdle rows → OfGone (row_at cid rows)
of_gone cid rows idle = by (row_at cid rows) refl
  where
    by : (o : Option Row) → row_at cid rows ≡ o → OfGone o
    by None e = tt
    by (Some row) e = idle-row cid row rows idle e

set_somewhere : (at : ℕ) (kind : Kind) (o : Option Row) → (OfGone o) → is_set_at at (moment_of kind o) ≡ true → enrolled_in o ≡ true
set_somewhere at kind None idle h = absurd (false≢true h)
set_somewhere at kind (Some row) idle h = elim (cases_Bool row.enrolled) [
  | inl is ↦ is
  | inr left ↦ absurd (false≢true (sym (ap (is_set_at at) (ap (moment kind) (idle left) ∙ none_of kind)) ∙ h))
]

pub orderly_when_kept : (kept : Kept) → IsKept kept → IsOrderly (queue_of kept)
orderly_when_kept kept h =
    let rows : List Row = kept.rows.items in
    let agree = agreeing rows h.rise in record {
      ids_rise = ids-rise rows h.rise;
      in_order = in_order-rises (all_timers rows);
      one_each = one_each rows (timers_of rows) agree;
      of_enrolled = λ d there.
          enrolled-is d.cid rows h.rise ∙ set_somewhere d.at d.kind (row_at d.cid rows) (of_gone d.cid rows h.idle) (sym (agree d) ∙ there);
    }

-- ---- changes that change nothing

pub enrolled_already : (cid : Cid) (queue : Queue) → IsOrderly queue → is_enrolled cid queue ≡ true → with_enrolled cid queue ≡ queue
enrolled_already cid queue h there =
    ap (λ ids. record queue { enrolled = ids }) (between-there cid_below same_cid cid_order cid queue.enrolled h.ids_rise there)

-- a timer of another connection
of_another : (cid : Cid) (queue : Queue) (d : Deadline) → IsOrderly queue → is_enrolled cid queue ≡ false → has_timer d queue.timers ≡ true →
    is_of cid d ≡ false
of_another cid queue d h absent there = false_from_ne_true (is_of cid d) (λ its.
    true≢false (sym (h.of_enrolled d there) ∙ (ap (λ c. is_enrolled c queue) (same_cid-is d.cid cid its) ∙ absent)))

pub nothing_to_clear : (cid : Cid) (kind : Kind) (queue : Queue) → IsOrderly queue → is_enrolled cid queue ≡ false → without_timer cid kind queue ≡ queue
nothing_to_clear cid kind queue h absent =
    ap (λ ts. record queue { timers = ts }) (filter-all deadline_before same_timer timer_order (λ d. not (is_timer_of cid kind d)) queue.timers
    (λ d there. ap not (and_left (is_of cid d) _ (of_another cid queue d h absent there))))

pub nobody_leaves : (cid : Cid) (queue : Queue) → IsOrderly queue → is_enrolled cid queue ≡ false → without_connection cid queue ≡ queue
nobody_leaves cid queue h absent =
    let timers = filter-all deadline_before same_timer timer_order (λ d. not (is_of cid d)) queue.timers
    (λ d there. ap not (of_another cid queue d h absent there)) in
    let ids = filter-all cid_below same_cid cid_order (λ c. not (same_cid c cid)) queue.enrolled
    (λ c there. ap not (false_from_ne_true (same_cid c cid) (λ same.
    true≢false (sym there ∙ (ap (λ i. is_enrolled i queue) (same_cid-is c cid same) ∙ absent))))) in
    λ i. record { enrolled = ids i; timers = timers i }

-- ---- timers after a change

pub has-with_timer : (d e : Deadline) (queue : Queue) → IsOrderly queue →
    has_timer e (with_timer d queue).timers ≡ (same_timer d e || (has_timer e queue.timers && not (is_timer_of d.cid d.kind e)))
has-with_timer d e queue h =
    let itself : is_timer_of d.cid d.kind d ≡ true =
    and_from (same_cid d.cid d.cid) (same_kind d.kind d.kind) (cid_order.same_itself d.cid) (same_kind-itself d.kind) in
    let left : has_timer d (without_kind d.cid d.kind queue.timers) ≡ false =
    has-filter deadline_before same_timer timer_order (λ f. not (is_timer_of d.cid d.kind f)) d queue.timers
    ∙ and_right (has_timer d queue.timers) _ (ap not itself) in
    has-put_in d e (without_kind d.cid d.kind queue.timers) (IsInOrder-filter _ queue.timers h.in_order) left
    ∙ ap (λ b. same_timer d e || b) (has-filter deadline_before same_timer timer_order (λ f. not (is_timer_of d.cid d.kind f)) e queue.timers)
