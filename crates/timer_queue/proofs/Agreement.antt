-- The rows and the line agree: what that gives, and that it is kept by each change.
use Rattle.std.proofs.Common.{◌≡◌, ℕ, ◌==◌, ◌&&◌, ◌||◌, Bool, true, false, not, cond, is_some, List, Some, None, refl, sym, ap, ◌∙◌, inl, inr}
use Rattle.std.proofs.lemmas.Bool.{cases_Bool, and_parts, and_right, and_from}
use Rattle.net_base.specs.Timer.{deadline_before}
use Rattle.net_base.specs.declared.connection.Cid.{Cid}
use Rattle.net_base.specs.declared.timer.Deadline.{Deadline}
use Rattle.net_base.specs.declared.timer.Kind.{Kind}
use Rattle.timer_queue.specs.Rows.{AreMomentsOf, IsMomentOf, row_at, moment, moment_of, moment_at, is_set_at, with_at, no_moments, empty_row, gone_row, with_row, with_new_row}
use Rattle.timer_queue.specs.Timers.{timer, same_cid, same_kind, same_timer, has_timer, IsInOrder, is_of, is_timer_of, without_kind, without_cid, put_in}
use Rattle.timer_queue.specs.declared.rows.Row.{Row}
use Rattle.timer_queue.proofs.Orders.{timer_order, cid_order, same_cid-is, same_kind-is, same_cid-turned, same_kind-turned, same_kind-itself}
use Rattle.timer_queue.proofs.Lines.{IsInOrder-filter}
use Rattle.timer_queue.proofs.Rising.{any-put_in, put_in-between, has-filter}
use Rattle.timer_queue.proofs.RowEdits.{moment_at-with_row, moment_at-with_new_row, moment_at-emptied, none_of}

abbrev pub Agree : List Row → List Deadline → Type 0
Agree rows line = (d : Deadline) → has_timer d line ≡ is_set_at d.at (moment_at d.cid d.kind rows)

pub and_true : (b : Bool) → (b && true) ≡ b
and_true true = refl
and_true false = refl

pub or_false : (b : Bool) → (b || false) ≡ b
or_false true = refl
or_false false = refl

pub of_turned : (cid : Cid) (kind : Kind) (d : Deadline) → (same_cid cid d.cid && same_kind kind d.kind) ≡ is_timer_of cid kind d
of_turned cid kind d =
    ap (λ b. b && same_kind kind d.kind) (same_cid-turned cid d.cid) ∙ ap (λ b. same_cid d.cid cid && b) (same_kind-turned kind d.kind)

-- the moment of a timer of an id and a kind
at_its_moment : (cid : Cid) (kind : Kind) (rows : List Row) (d : Deadline) → is_timer_of cid kind d ≡ true →
    moment_at d.cid d.kind rows ≡ moment_at cid kind rows
at_its_moment cid kind rows d of_it =
    let parts = and_parts (same_cid d.cid cid) (same_kind d.kind kind) of_it in
    ap (λ i. moment_at i d.kind rows) (same_cid-is d.cid cid parts.0)
    ∙ ap (λ k. moment_at cid k rows) (same_kind-is d.kind kind parts.1)

-- what the line has of an id and a kind is what is set
pub has-of : (cid : Cid) (kind : Kind) (rows : List Row) (line : List Deadline) → Agree rows line →
    IsMomentOf cid kind (moment_at cid kind rows) line
has-of cid kind rows line agree d of_it = agree d ∙ ap (is_set_at d.at) (at_its_moment cid kind rows d of_it)

pub are_moments : (row : Row) (rows : List Row) (line : List Deadline) → row_at row.cid rows ≡ Some row → Agree rows line →
    AreMomentsOf row.cid row.moments line
are_moments row rows line found agree kind d of_it =
    has-of row.cid kind rows line agree d of_it ∙ ap (is_set_at d.at) (ap (moment_of kind) found)

its : (cid : Cid) (kind : Kind) → (same_cid cid cid && same_kind kind kind) ≡ true
its cid kind = and_from (same_cid cid cid) (same_kind kind kind) (cid_order.same_itself cid) (same_kind-itself kind)

-- ---- clearing

pub cleared : (cid : Cid) (kind : Kind) (at : ℕ) (line : List Deadline) → has_timer (timer cid kind at) (without_kind cid kind line) ≡ false
cleared cid kind at line =
    has-filter deadline_before same_timer timer_order (λ d. not (is_timer_of cid kind d)) (timer cid kind at) line
    ∙ and_right (has_timer (timer cid kind at) line) _ (ap not (its cid kind))

pub Agree-cleared : (row : Row) (kind : Kind) (rows : List Row) (line : List Deadline) → row_at row.cid rows ≡ Some row → Agree rows line →
    Agree (with_row (with_at kind None row) rows) (without_kind row.cid kind line)
Agree-cleared row kind rows line found agree d =
    has-filter deadline_before same_timer timer_order (λ e. not (is_timer_of row.cid kind e)) d line
    ∙ (between ∙ sym (ap (is_set_at d.at) (moment_at-with_row d.cid d.kind kind None row rows found)))
  where
    between : (has_timer d line && not (is_timer_of row.cid kind d)) ≡ is_set_at d.at (cond (is_timer_of row.cid kind d) None (moment_at d.cid d.kind rows))
    between = elim (cases_Bool (is_timer_of row.cid kind d)) [
      | inl of_it ↦ rw of_it (and_right (has_timer d line) false refl)
      | inr other ↦ rw other (and_true (has_timer d line) ∙ agree d)
    ]

-- ---- setting

pub has-put_in : (new d : Deadline) (line : List Deadline) → IsInOrder line → has_timer new line ≡ false →
    has_timer d (put_in new line) ≡ (same_timer new d || has_timer d line)
has-put_in new d line rises absent =
    ap (has_timer d) (sym (put_in-between deadline_before same_timer timer_order (λ e. e) new line rises absent))
    ∙ any-put_in deadline_before same_timer timer_order (λ e. e) (λ e. same_timer e d) new line

-- one more of a timer that it has is no other
pub has-again : (new : Deadline) (line : List Deadline) → has_timer new line ≡ true → (d : Deadline) →
    has_timer d line ≡ (same_timer new d || has_timer d line)
has-again new line there d = elim (cases_Bool (same_timer new d)) [
  | inl same ↦ ap (λ e. has_timer e line) (sym (timer_order.same_is new d same)) ∙ (there ∙ sym (ap (λ b. b || has_timer d line) same))
  | inr other ↦ sym (ap (λ b. b || has_timer d line) other)
]

-- what the line has once a timer is set in place of the one of its id and kind
has-set : (cid : Cid) (kind : Kind) (at : ℕ) (line : List Deadline) (d : Deadline) → IsInOrder line →
    has_timer d (put_in (timer cid kind at) (without_kind cid kind line)) ≡ cond (is_timer_of cid kind d) (at == d.at) (has_timer d line)
has-set cid kind at line d rises =
    has-put_in (timer cid kind at) d (without_kind cid kind line) (IsInOrder-filter _ line rises) (cleared cid kind at line)
    ∙ (ap (λ b. same_timer (timer cid kind at) d || b) (has-filter deadline_before same_timer timer_order (λ e. not (is_timer_of cid kind e)) d line)
    ∙ either)
  where
    either : (same_timer (timer cid kind at) d || (has_timer d line && not (is_timer_of cid kind d))) ≡ cond (is_timer_of cid kind d) (at == d.at) (has_timer d line)
    either = elim (cases_Bool (is_timer_of cid kind d)) [
      | inl of_it ↦
          let at_it : same_timer (timer cid kind at) d ≡ (at == d.at) = ap (λ b. at == d.at && b) (of_turned cid kind d ∙ of_it) ∙ and_true (at == d.at) in
          rw (at_it, of_it) (ap (λ b. (at == d.at) || b) (and_right (has_timer d line) false refl) ∙ or_false (at == d.at))
      | inr other ↦
          let apart : same_timer (timer cid kind at) d ≡ false = and_right (at == d.at) _ (of_turned cid kind d ∙ other) in
          rw (apart, other) (and_true (has_timer d line))
    ]

pub Agree-set : (row : Row) (kind : Kind) (at : ℕ) (rows : List Row) (line : List Deadline) → row_at row.cid rows ≡ Some row →
    IsInOrder line → Agree rows line →
    Agree (with_row (with_at kind (Some at) row) rows) (put_in (timer row.cid kind at) (without_kind row.cid kind line))
Agree-set row kind at rows line found rises agree d =
    has-set row.cid kind at line d rises
    ∙ (ap (cond (is_timer_of row.cid kind d) (at == d.at)) (agree d)
    ∙ (inside (is_timer_of row.cid kind d) ∙ sym (ap (is_set_at d.at) (moment_at-with_row d.cid d.kind kind (Some at) row rows found))))
  where
    inside : (b : Bool) → cond b (at == d.at) (is_set_at d.at (moment_at d.cid d.kind rows)) ≡ is_set_at d.at (cond b (Some at) (moment_at d.cid d.kind rows))
    inside true = refl
    inside false = refl

-- ---- a connection comes or goes

pub Agree-admitted : (cid : Cid) (rows : List Row) (line : List Deadline) → row_at cid rows ≡ None → Agree rows line →
    Agree (with_new_row (empty_row cid) rows) line
Agree-admitted cid rows line none agree d = agree d ∙ ap (is_set_at d.at) (sym (moment_at-with_new_row d.cid d.kind cid rows none))

pub Agree-left : (cid : Cid) (rows : List Row) (line : List Deadline) → is_some (row_at cid rows) ≡ true → Agree rows line →
    Agree (with_row (gone_row cid) rows) (without_cid cid line)
Agree-left cid rows line there agree d =
    has-filter deadline_before same_timer timer_order (λ e. not (is_of cid e)) d line
    ∙ (between ∙ sym (ap (is_set_at d.at) (moment_at-emptied d.cid d.kind (gone_row cid) rows refl there)))
  where
    between : (has_timer d line && not (is_of cid d)) ≡ is_set_at d.at (cond (is_of cid d) None (moment_at d.cid d.kind rows))
    between = elim (cases_Bool (is_of cid d)) [
      | inl of_it ↦ rw of_it (and_right (has_timer d line) false refl)
      | inr other ↦ rw other (and_true (has_timer d line) ∙ agree d)
    ]

-- one that has left comes again
pub Agree-again : (row : Row) (rows : List Row) (line : List Deadline) → row_at row.cid rows ≡ Some row → row.moments ≡ no_moments → Agree rows line →
    Agree (with_row (empty_row row.cid) rows) line
Agree-again row rows line found none agree d =
    agree d ∙ sym (ap (is_set_at d.at) (moment_at-emptied d.cid d.kind (empty_row row.cid) rows refl (ap is_some found) ∙ same))
  where
    same : cond (same_cid d.cid row.cid) None (moment_at d.cid d.kind rows) ≡ moment_at d.cid d.kind rows
    same = elim (cases_Bool (same_cid d.cid row.cid)) [
      | inl here ↦ rw here (sym (ap (λ i. moment_at i d.kind rows) (same_cid-is d.cid row.cid here)
          ∙ (ap (moment_of d.kind) found ∙ (ap (moment d.kind) none ∙ none_of d.kind))))
      | inr other ↦ rw other refl
    ]
