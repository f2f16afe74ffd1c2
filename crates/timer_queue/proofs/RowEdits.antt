-- The rows, after an edit.
use Rattle.std.proofs.Common.{◌≡◌, ℕ, ◌+◌, ◌-◌, ◌<◌, ◌&&◌, Bool, true, false, cond, List, [], ◌∷◌, length, set, slice_get, map, Option, Some, None, is_some, refl, sym, ap, subst, ◌∙◌, inl, inr, arith}
use Rattle.std.specs.List.{insert, list_any}
use Rattle.std.specs.Bool.{then_some}
use Rattle.std.proofs.lemmas.Bool.{cases_Bool, false≢true}
use Rattle.std.proofs.lemmas.Option.{get_or_from_slice_get}
use Rattle.net_base.specs.declared.connection.Cid.{Cid}
use Rattle.net_base.specs.declared.timer.Kind.{Kind}
use Rattle.net_base.specs.declared.timer.Kind.TheVariants.{Handshake, Grace, TimeWait, Reply2, Reply8, Reply10}
use Rattle.timer_queue.specs.Kept.{AreRising}
use Rattle.timer_queue.specs.Order.{IsRising}
use Rattle.timer_queue.specs.Rows.{moment, with_moment, no_moments, empty_row, with_at, row_at, found_at, moment_of, moment_at, place_at, with_new_row, with_row}
use Rattle.timer_queue.specs.Timers.{same_cid, cid_below, same_kind}
use Rattle.timer_queue.specs.declared.moments.Moments.{Moments}
use Rattle.timer_queue.specs.declared.rows.Row.{Row}
use Rattle.timer_queue.proofs.Orders.{cid_order, same_cid-is, same_cid-turned}
use Rattle.timer_queue.proofs.Rising.{is_under, partitioned, place_is, find-place, any-find, map-replaced, length-put_in, IsRising-map, IsRising-from_map, IsRising-put_in, insert-place, set-place, place-inside, find-put_in, find-replaced, find-replaced_other}

abbrev pub cid_of : Row → Cid
cid_of r = r.cid

is_found : (x old : Row) → Some x ≡ Some old → x ≡ old
is_found x old e = cc

-- ---- at a place

pub insert-place_at : (new : Row) (rows : List Row) (n : ℕ) → n ≡ place_at new.cid rows → insert rows n new ≡ with_new_row new rows
insert-place_at new rows n e = ap (λ m. insert rows m new) e ∙ insert-place cid_below same_cid cid_order cid_of new rows

pub has_row : (cid : Cid) (rows : List Row) → is_some (row_at cid rows) ≡ true →
    list_any (λ r. same_cid r.cid cid) rows ≡ true
has_row cid rows there = sym (any-find cid_below same_cid cid_order cid_of cid rows) ∙ there

pub set-place_at : (new : Row) (rows : List Row) (n : ℕ) → AreRising rows → is_some (row_at new.cid rows) ≡ true →
    n ≡ place_at new.cid rows → set rows n new ≡ with_row new rows
set-place_at new rows n rises there e =
    ap (λ m. set rows m new) e ∙ set-place cid_below same_cid cid_order cid_of new.cid new rows rises (has_row new.cid rows there)

-- ---- the row that is found

pub row_at-has : (cid : Cid) (row : Row) (rows : List Row) → row_at cid rows ≡ Some row → row.cid ≡ cid
row_at-has cid row [] found = cc
row_at-has cid row (r ∷ rs) found = elim (cases_Bool (same_cid r.cid cid)) [
  | inl here ↦ let is : r ≡ row = is_found r row (rw here at found) in ap cid_of (sym is) ∙ same_cid-is r.cid cid here
  | inr gone ↦ row_at-has cid row rs (rw gone at found)
]

from_found : (cid : Cid) (row : Row) (o : Option Row) → found_at cid o ≡ Some row → o ≡ Some row
from_found cid row None e = cc
from_found cid row (Some r) e = chosen (same_cid r.cid cid) e
  where
    chosen : (b : Bool) → cond b (Some r) None ≡ Some row → Some r ≡ Some row
    chosen true e = e
    chosen false e = cc

-- the row of an id, and where it stands
pub record StandsAt (cid : Cid) (rows : List Row) (place : ℕ) : Type 0 where
  pub row : Row
  pub here : slice_get rows place ≡ Some row
  pub its : row.cid ≡ cid
  pub there : row_at cid rows ≡ Some row
  pub found : row_at row.cid rows ≡ Some row
  pub at : place ≡ place_at row.cid rows

pub stands_at : (cid : Cid) (rows : List Row) (place : ℕ) → AreRising rows → is_some (row_at cid rows) ≡ true →
    place ≡ place_at cid rows → StandsAt cid rows place
stands_at cid rows place rises there at = known (row_at cid rows) refl there
  where
    known : (o : Option Row) → row_at cid rows ≡ o → is_some o ≡ true → StandsAt cid rows place
    known None e none = absurd (false≢true none)
    known (Some row) e some =
        let found = ap (λ n. found_at cid (slice_get rows n)) at ∙ (sym (find-place cid_below same_cid cid_order cid_of cid rows rises) ∙ e) in
        let id : row.cid ≡ cid = row_at-has cid row rows e in
        record {
          row = row;
          here = from_found cid row (slice_get rows place) found;
          its = id;
          there = e;
          found = ap (λ i. row_at i rows) id ∙ e;
          at = at ∙ ap (λ i. place_at i rows) (sym id);
        }

-- as `place_in` answers
pub place_found : (o : Option Row) (m n : ℕ) → then_some (is_some o) m ≡ Some n → (is_some o ≡ true) × (n ≡ m)
place_found None m n e = cc
place_found (Some row) m n e = (refl, λ i. number m (sym e i))
  where
    number : ℕ → Option ℕ → ℕ
    number d None = d
    number d (Some k) = k

pub place_missing : (o : Option Row) (m : ℕ) → then_some (is_some o) m ≡ None → o ≡ None
place_missing None m e = refl
place_missing (Some row) m e = cc

-- ---- order afterwards

ids_stay : (new : Row) (rows : List Row) → map cid_of (with_row new rows) ≡ map cid_of rows
ids_stay new rows = map-replaced cid_below same_cid cid_order cid_of new.cid new rows refl

pub AreRising-with_row : (new : Row) (rows : List Row) → AreRising rows → AreRising (with_row new rows)
AreRising-with_row new rows rises =
    IsRising-from_map cid_below same_cid cid_order cid_of (with_row new rows)
    (subst (IsRising cid_below (λ c. c)) (sym (ids_stay new rows)) (IsRising-map cid_below same_cid cid_order cid_of rows rises))

pub AreRising-with_new_row : (new : Row) (rows : List Row) → AreRising rows → row_at new.cid rows ≡ None → AreRising (with_new_row new rows)
AreRising-with_new_row new rows rises absent =
    IsRising-put_in cid_below same_cid cid_order cid_of new rows rises
    (sym (any-find cid_below same_cid cid_order cid_of new.cid rows) ∙ ap is_some absent)

pub length-with_new_row : (new : Row) (rows : List Row) → length (with_new_row new rows) ≡ length rows + 1
length-with_new_row new rows = length-put_in cid_below same_cid cid_order cid_of new rows ∙ omega arith

-- ---- the moments afterwards

pub moment-with_moment : (k kind : Kind) (at : Option ℕ) (m : Moments) → moment k (with_moment kind at m) ≡ cond (same_kind k kind) at (moment k m)
moment-with_moment Handshake Handshake at m = refl
moment-with_moment Handshake kind at m = refl
moment-with_moment Grace Grace at m = refl
moment-with_moment Grace kind at m = refl
moment-with_moment TimeWait TimeWait at m = refl
moment-with_moment TimeWait kind at m = refl
moment-with_moment Reply2 Reply2 at m = refl
moment-with_moment Reply2 kind at m = refl
moment-with_moment Reply8 Reply8 at m = refl
moment-with_moment Reply8 kind at m = refl
moment-with_moment Reply10 Reply10 at m = refl
moment-with_moment Reply10 kind at m = refl

pub moment_at-with_row : (cid : Cid) (k kind : Kind) (at : Option ℕ) (row : Row) (rows : List Row) → row_at row.cid rows ≡ Some row →
    moment_at cid k (with_row (with_at kind at row) rows) ≡ cond (same_cid cid row.cid && same_kind k kind) at (moment_at cid k rows)
moment_at-with_row cid k kind at row rows found = elim (cases_Bool (same_cid cid row.cid)) [
  | inl here ↦
      let e : cid ≡ row.cid = same_cid-is cid row.cid here in
      let there = has_row row.cid rows (ap is_some found) in
      let new : row_at row.cid (with_row (with_at kind at row) rows) ≡ Some (with_at kind at row) =
      find-replaced cid_below same_cid cid_order cid_of row.cid (with_at kind at row) rows (cid_order.same_itself row.cid) there in
      let new_here : moment_at cid k (with_row (with_at kind at row) rows) ≡ moment k (with_moment kind at row.moments) =
      ap (λ i. moment_at i k (with_row (with_at kind at row) rows)) e ∙ ap (moment_of k) new in
      let old_here : moment_at cid k rows ≡ moment k row.moments = ap (λ i. moment_at i k rows) e ∙ ap (moment_of k) found in
      rw here (new_here ∙ (moment-with_moment k kind at row.moments ∙ ap (λ o. cond (same_kind k kind) at o) (sym old_here)))
  | inr other ↦ rw other (ap (moment_of k)
      (find-replaced_other cid_below same_cid cid_order cid_of row.cid cid (with_at kind at row) rows (same_cid-turned row.cid cid ∙ other) (cid_order.same_itself row.cid)))
]

-- a row without timers tells no moment
pub moment_at-with_new_row : (cid : Cid) (k : Kind) (new : Cid) (rows : List Row) → row_at new rows ≡ None →
    moment_at cid k (with_new_row (empty_row new) rows) ≡ moment_at cid k rows
moment_at-with_new_row cid k new rows absent =
    let none = sym (any-find cid_below same_cid cid_order cid_of new rows) ∙ ap is_some absent in
    ap (moment_of k) (find-put_in cid_below same_cid cid_order cid_of cid (empty_row new) rows none)
    ∙ nothing (same_cid new cid) (same_cid-is new cid)
  where
    none_at : (k : Kind) → moment_of k (Some (empty_row new)) ≡ None
    none_at Handshake = refl
    none_at k = refl

    nothing : (b : Bool) → (b ≡ true → new ≡ cid) → moment_of k (cond b (Some (empty_row new)) (row_at cid rows)) ≡ moment_of k (row_at cid rows)
    nothing false e = refl
    nothing true e = none_at k ∙ sym (ap (λ i. moment_of k (row_at i rows)) (sym (e refl)) ∙ ap (moment_of k) absent)

pub none_of : (k : Kind) → moment k no_moments ≡ None
none_of Handshake = refl
none_of k = refl

-- a row in place of the one of its id
pub moment_at-put : (cid : Cid) (k : Kind) (new : Row) (rows : List Row) → is_some (row_at new.cid rows) ≡ true →
    moment_at cid k (with_row new rows) ≡ cond (same_cid cid new.cid) (moment k new.moments) (moment_at cid k rows)
moment_at-put cid k new rows there = elim (cases_Bool (same_cid cid new.cid)) [
  | inl here ↦
      let put : row_at new.cid (with_row new rows) ≡ Some new =
      find-replaced cid_below same_cid cid_order cid_of new.cid new rows (cid_order.same_itself new.cid) (has_row new.cid rows there) in
      rw here (ap (λ i. moment_at i k (with_row new rows)) (same_cid-is cid new.cid here) ∙ ap (moment_of k) put)
  | inr other ↦ rw other (ap (moment_of k)
      (find-replaced_other cid_below same_cid cid_order cid_of new.cid cid new rows (same_cid-turned new.cid cid ∙ other) (cid_order.same_itself new.cid)))
]

-- and one without timers
pub moment_at-emptied : (cid : Cid) (k : Kind) (new : Row) (rows : List Row) → new.moments ≡ no_moments → is_some (row_at new.cid rows) ≡ true →
    moment_at cid k (with_row new rows) ≡ cond (same_cid cid new.cid) None (moment_at cid k rows)
moment_at-emptied cid k new rows empty there =
    moment_at-put cid k new rows there ∙ ap (λ o. cond (same_cid cid new.cid) o (moment_at cid k rows)) (ap (moment k) empty ∙ none_of k)

pub inside_rows : (cid : Cid) (rows : List Row) (place : ℕ) → AreRising rows → is_some (row_at cid rows) ≡ true → place ≡ place_at cid rows →
    place < length rows
inside_rows cid rows place rises there at =
    subst (λ n. n < length rows) (sym at) (place-inside cid_below same_cid cid_order cid_of cid rows rises (has_row cid rows there))

-- as `place_in` answers of the rows that it sees
pub stands_as_found : (cid : Cid) (rows seen : List Row) (place : ℕ) (answer : Option ℕ) → AreRising rows → seen ≡ rows →
    answer ≡ then_some (is_some (row_at cid seen)) (place_at cid seen) → answer ≡ Some place → StandsAt cid rows place
stands_as_found cid rows seen place answer rises same told some =
    let told_of : answer ≡ then_some (is_some (row_at cid rows)) (place_at cid rows) =
    told ∙ ap (λ rs. then_some (is_some (row_at cid rs)) (place_at cid rs)) same in
    let found = place_found (row_at cid rows) (place_at cid rows) place (sym told_of ∙ some) in
    stands_at cid rows place rises found.0 found.1

pub missing : (cid : Cid) (rows seen : List Row) (answer : Option ℕ) → seen ≡ rows →
    answer ≡ then_some (is_some (row_at cid seen)) (place_at cid seen) → answer ≡ None → row_at cid rows ≡ None
missing cid rows seen answer same told none =
    place_missing (row_at cid rows) (place_at cid rows)
    (sym (told ∙ ap (λ rs. then_some (is_some (row_at cid rs)) (place_at cid rs)) same) ∙ none)

-- an id above that of the last is above all
pub all_under : (cid : Cid) (last : Row) (rows : List Row) → AreRising rows → slice_get rows (length rows - 1) ≡ Some last →
    cid_below last.cid cid ≡ true → place_at cid rows ≡ length rows
all_under cid last rows rises here under =
    sym (place_is (is_under cid_below same_cid cid_order cid_of cid) rows (length rows) (omega arith) (
      λ k d low inside. partitioned cid_below same_cid cid_order cid_of cid rows rises k (length rows - 1) d (omega (arith, inside)) (omega (arith, inside))
          (ap (λ (r : Row). cid_below r.cid cid) (get_or_from_slice_get rows (length rows - 1) last d here) ∙ under),
      λ k d above inside. absurd (omega (arith, above, inside)),
    ))
