-- The connections that are enrolled: those of the rows that have not left.
use Rattle.std.proofs.Common.{◌≡◌, ◌&&◌, ◌||◌, Bool, true, false, not, cond, List, [], ◌∷◌, map, Option, Some, None, is_some, refl, sym, ap, subst, ◌∙◌, inl, inr}
use Rattle.std.specs.List.{list_any, filter}
use Rattle.std.proofs.lemmas.Bool.{cases_Bool, and_right}
use Rattle.net_base.specs.declared.connection.Cid.{Cid}
use Rattle.timer_queue.specs.Kept.{AreRising, AreIdle, those_in}
use Rattle.timer_queue.specs.Order.{IsRising}
use Rattle.timer_queue.specs.Queue.{with_id}
use Rattle.timer_queue.specs.Rows.{row_at, no_moments, with_row, with_new_row, empty_row, gone_row}
use Rattle.timer_queue.specs.Timers.{same_cid, cid_below}
use Rattle.timer_queue.specs.declared.rows.Row.{Row}
use Rattle.timer_queue.proofs.Agreement.{and_true}
use Rattle.timer_queue.proofs.Orders.{cid_order, same_cid-is, same_cid-turned}
use Rattle.timer_queue.proofs.Rising.{find-above, above_when_same, any-put_in, put_in, put_in-between, has-filter, rising_is_one, find-put_in, find-replaced, find-replaced_other, IsRising-map, IsRising-filter, IsRising-put_in, any-find}
use Rattle.timer_queue.proofs.RowEdits.{cid_of, has_row, AreRising-with_row, AreRising-with_new_row}

abbrev pub enrolled_in : Option Row → Bool
enrolled_in None = false
enrolled_in (Some row) = row.enrolled

abbrev pub ids_of : List Row → List Cid
ids_of rows = map cid_of (those_in rows)

abbrev has : Cid → List Cid → Bool
has cid ids = list_any (λ c. same_cid c cid) ids

pub enrolled-is : (cid : Cid) (rows : List Row) → AreRising rows → has cid (ids_of rows) ≡ enrolled_in (row_at cid rows)
enrolled-is cid [] rises = refl
enrolled-is cid (r ∷ rs) rises = elim (cases_Bool (same_cid r.cid cid)) [
  | inl here ↦ elim (cases_Bool r.enrolled) [
    | inl is ↦ rw (here, is, here) refl
    | inr left ↦
        let none : row_at cid rs ≡ None = find-above cid_below same_cid cid_order cid_of cid rs
        (above_when_same cid_below same_cid cid_order cid_of cid r rs here rises.0) in
        rw (here, left) (enrolled-is cid rs rises.1 ∙ ap enrolled_in none)
  ]
  | inr other ↦ elim (cases_Bool r.enrolled) [
    | inl is ↦ rw (other, is, other) (enrolled-is cid rs rises.1)
    | inr left ↦ rw (other, left) (enrolled-is cid rs rises.1)
  ]
]

pub ids-rise : (rows : List Row) → AreRising rows → IsRising cid_below (λ c. c) (ids_of rows)
ids-rise rows rises = IsRising-map cid_below same_cid cid_order cid_of (those_in rows) (IsRising-filter cid_below same_cid cid_order cid_of (λ r. r.enrolled) rows rises)

ids_are : (rows : List Row) (ids : List Cid) → AreRising rows → IsRising cid_below (λ c. c) ids →
    ((c : Cid) → has c ids ≡ enrolled_in (row_at c rows)) → ids_of rows ≡ ids
ids_are rows ids rises in_ids told =
    rising_is_one cid_below same_cid cid_order (ids_of rows) ids (ids-rise rows rises) in_ids (λ c. enrolled-is c rows rises ∙ sym (told c))

-- ---- another row in place of one

put-enrolled : (c : Cid) (new : Row) (rows : List Row) → is_some (row_at new.cid rows) ≡ true →
    enrolled_in (row_at c (with_row new rows)) ≡ cond (same_cid c new.cid) new.enrolled (enrolled_in (row_at c rows))
put-enrolled c new rows there = elim (cases_Bool (same_cid c new.cid)) [
  | inl here ↦
      let put : row_at new.cid (with_row new rows) ≡ Some new =
      find-replaced cid_below same_cid cid_order cid_of new.cid new rows (cid_order.same_itself new.cid) (has_row new.cid rows there) in
      rw here (ap (λ i. enrolled_in (row_at i (with_row new rows))) (same_cid-is c new.cid here) ∙ ap enrolled_in put)
  | inr other ↦ rw other (ap enrolled_in
      (find-replaced_other cid_below same_cid cid_order cid_of new.cid c new rows (same_cid-turned new.cid c ∙ other) (cid_order.same_itself new.cid)))
]

-- as it was
pub ids-same : (row new : Row) (rows : List Row) → AreRising rows → row_at new.cid rows ≡ Some row → new.enrolled ≡ row.enrolled → ids_of (with_row new rows) ≡ ids_of rows
ids-same row new rows rises found as_was =
    ids_are (with_row new rows) (ids_of rows) (AreRising-with_row new rows rises) (ids-rise rows rises)
    (λ c. enrolled-is c rows rises ∙ (same c ∙ sym (put-enrolled c new rows (ap is_some found))))
  where
    same : (c : Cid) → enrolled_in (row_at c rows) ≡ cond (same_cid c new.cid) new.enrolled (enrolled_in (row_at c rows))
    same c = elim (cases_Bool (same_cid c new.cid)) [
      | inl here ↦ sym (rw here (as_was ∙ sym (ap (λ i. enrolled_in (row_at i rows)) (same_cid-is c new.cid here) ∙ ap enrolled_in found)))
      | inr other ↦ sym (rw other refl)
    ]

pub ids-left : (cid : Cid) (rows : List Row) → AreRising rows → is_some (row_at cid rows) ≡ true →
    ids_of (with_row (gone_row cid) rows) ≡ filter (λ c. not (same_cid c cid)) (ids_of rows)
ids-left cid rows rises there =
    ids_are (with_row (gone_row cid) rows) (filter (λ c. not (same_cid c cid)) (ids_of rows)) (AreRising-with_row (gone_row cid) rows rises)
    (IsRising-filter cid_below same_cid cid_order (λ c. c) (λ c. not (same_cid c cid)) (ids_of rows) (ids-rise rows rises))
    (λ c. has-filter cid_below same_cid cid_order (λ i. not (same_cid i cid)) c (ids_of rows)
    ∙ (ap (λ b. b && not (same_cid c cid)) (enrolled-is c rows rises) ∙ (same c (same_cid c cid) ∙ sym (put-enrolled c (gone_row cid) rows there))))
  where
    same : (c : Cid) (b : Bool) → (enrolled_in (row_at c rows) && not b) ≡ cond b false (enrolled_in (row_at c rows))
    same c true = and_right (enrolled_in (row_at c rows)) false refl
    same c false = and_true (enrolled_in (row_at c rows))

-- ---- one comes

ids-come : (cid : Cid) (rows new : List Row) → AreRising rows → AreRising new → enrolled_in (row_at cid rows) ≡ false →
    ((c : Cid) → enrolled_in (row_at c new) ≡ (same_cid cid c || enrolled_in (row_at c rows))) → ids_of new ≡ with_id cid (ids_of rows)
ids-come cid rows new rises new_rise absent told =
    ids_are new (with_id cid (ids_of rows)) new_rise
    (subst (IsRising cid_below (λ c. c)) between (IsRising-put_in cid_below same_cid cid_order (λ c. c) cid (ids_of rows) (ids-rise rows rises) none))
    (λ c. ap (has c) (sym between) ∙ (any-put_in cid_below same_cid cid_order (λ i. i) (λ i. same_cid i c) cid (ids_of rows)
    ∙ (ap (λ b. same_cid cid c || b) (enrolled-is c rows rises) ∙ sym (told c))))
  where
    none : has cid (ids_of rows) ≡ false
    none = enrolled-is cid rows rises ∙ absent

    between : put_in cid_below same_cid cid_order (λ c. c) cid (ids_of rows) ≡ with_id cid (ids_of rows)
    between = put_in-between cid_below same_cid cid_order (λ c. c) cid (ids_of rows) (ids-rise rows rises) none

pub ids-again : (cid : Cid) (rows : List Row) → AreRising rows → is_some (row_at cid rows) ≡ true → enrolled_in (row_at cid rows) ≡ false →
    ids_of (with_row (empty_row cid) rows) ≡ with_id cid (ids_of rows)
ids-again cid rows rises there absent =
    ids-come cid rows (with_row (empty_row cid) rows) rises (AreRising-with_row (empty_row cid) rows rises) absent
    (λ c. put-enrolled c (empty_row cid) rows there ∙ (chosen (same_cid c cid) (enrolled_in (row_at c rows))
    ∙ ap (λ b. b || enrolled_in (row_at c rows)) (same_cid-turned c cid)))
  where
    chosen : (b rest : Bool) → cond b true rest ≡ (b || rest)
    chosen true rest = refl
    chosen false rest = refl

pub ids-new : (cid : Cid) (rows : List Row) → AreRising rows → row_at cid rows ≡ None →
    ids_of (with_new_row (empty_row cid) rows) ≡ with_id cid (ids_of rows)
ids-new cid rows rises none =
    ids-come cid rows (with_new_row (empty_row cid) rows) rises (AreRising-with_new_row (empty_row cid) rows rises none) (ap enrolled_in none)
    (λ c. ap enrolled_in (find-put_in cid_below same_cid cid_order cid_of c (empty_row cid) rows stands)
    ∙ chosen (same_cid cid c) (row_at c rows))
  where
    stands : list_any (λ r. same_cid r.cid cid) rows ≡ false
    stands = sym (any-find cid_below same_cid cid_order cid_of cid rows) ∙ ap is_some none

    chosen : (b : Bool) (o : Option Row) → enrolled_in (cond b (Some (empty_row cid)) o) ≡ (b || enrolled_in o)
    chosen true o = refl
    chosen false o = refl

-- ---- whoever has left has no timers

pub idle-row : (cid : Cid) (row : Row) (rows : List Row) → AreIdle rows → row_at cid rows ≡ Some row → row.enrolled ≡ false → row.moments ≡ no_moments
idle-row cid row [] idle found = cc
idle-row cid row (r ∷ rs) idle found = elim (cases_Bool (same_cid r.cid cid)) [
  | inl here ↦ let is : Some r ≡ Some row = rw here at found in
      subst (λ (o : Option Row). OfRow o) is idle.0
  | inr other ↦ idle-row cid row rs idle.1 (rw other at found)
]
  where
    OfRow : Option Row → Type 0
    OfRow None = Unit {0}
    OfRow (Some x) = x.enrolled ≡ false → x.moments ≡ no_moments

pub idle-with_row : (new : Row) (rows : List Row) → (new.enrolled ≡ false → new.moments ≡ no_moments) → AreIdle rows → AreIdle (with_row new rows)
idle-with_row new [] of_new idle = tt
idle-with_row new (r ∷ rs) of_new idle = elim (cases_Bool (same_cid r.cid new.cid)) [
  | inl here ↦ rw here (of_new, idle-with_row new rs of_new idle.1)
  | inr other ↦ rw other (idle.0, idle-with_row new rs of_new idle.1)
]

pub idle-with_new_row : (new : Row) (rows : List Row) → (new.enrolled ≡ false → new.moments ≡ no_moments) → AreIdle rows → AreIdle (with_new_row new rows)
idle-with_new_row new [] of_new idle = (of_new, tt)
idle-with_new_row new (r ∷ rs) of_new idle = elim (cases_Bool (cid_below r.cid new.cid)) [
  | inl under ↦ rw under (idle.0, idle-with_new_row new rs of_new idle.1)
  | inr over ↦ rw over (of_new, idle)
]
