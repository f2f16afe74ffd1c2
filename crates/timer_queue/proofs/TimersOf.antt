-- The timers of the rows: what has each, that they are in order, and which is the least.
use Rattle.std.proofs.Common.{◌≡◌, ℕ, ◌==◌, ◌&&◌, ◌||◌, Bool, true, false, cond, List, [], ◌∷◌, Option, Some, None, refl, sym, ap, subst, ◌∙◌, inl, inr}
use Rattle.std.specs.List.{cons_option}
use Rattle.std.proofs.lemmas.Bool.{cases_Bool}
use Rattle.std.proofs.lemmas.List.Folds.{list_any-append}
use Rattle.net_base.specs.Timer.{deadline_before}
use Rattle.net_base.specs.declared.connection.Cid.{Cid}
use Rattle.net_base.specs.declared.timer.Deadline.{Deadline}
use Rattle.net_base.specs.declared.timer.Kind.{Kind}
use Rattle.net_base.specs.declared.timer.Kind.TheVariants.{Handshake, Grace, TimeWait, Reply2, Reply8, Reply10}
use Rattle.timer_queue.specs.Kept.{AreRising, timers_in, all_timers, in_order}
use Rattle.timer_queue.specs.Rows.{moment, moment_of, row_at, is_set_at, timer_at}
use Rattle.timer_queue.specs.Timers.{same_cid, cid_below, same_kind, same_timer, has_timer, IsInOrder, is_timer_of, put_in, least}
use Rattle.timer_queue.specs.Trees.{timer_in}
use Rattle.timer_queue.specs.declared.rows.Row.{Row}
use Rattle.timer_queue.proofs.Agreement.{Agree, has-put_in, has-again, of_turned, or_false}
use Rattle.timer_queue.proofs.Firsts.{least-same}
use Rattle.timer_queue.proofs.Lines.{IsInOrder-put_in}
use Rattle.timer_queue.proofs.Orders.{timer_order, cid_order, same_cid-turned}
use Rattle.timer_queue.proofs.Rising.{between-there, find-above, above_when_same, rising_is_one}

abbrev pub timers_of : List Row → List Deadline
timers_of rows = in_order (all_timers rows)

-- ---- put in order

again : (new : Deadline) (line : List Deadline) → IsInOrder line → has_timer new line ≡ true → put_in new line ≡ line
again new line rises there = between-there deadline_before same_timer timer_order new line rises there

put_in-rises : (new : Deadline) (line : List Deadline) → IsInOrder line → IsInOrder (put_in new line)
put_in-rises new line rises = elim (cases_Bool (has_timer new line)) [
  | inl there ↦ subst IsInOrder (sym (again new line rises there)) rises
  | inr absent ↦ IsInOrder-put_in new line rises absent
]

has-put : (new d : Deadline) (line : List Deadline) → IsInOrder line → has_timer d (put_in new line) ≡ (same_timer new d || has_timer d line)
has-put new d line rises = elim (cases_Bool (has_timer new line)) [
  | inl there ↦ ap (has_timer d) (again new line rises there) ∙ has-again new line there d
  | inr absent ↦ has-put_in new d line rises absent
]

pub in_order-rises : (ds : List Deadline) → IsInOrder (in_order ds)
in_order-rises [] = tt
in_order-rises (d ∷ ds) = put_in-rises d (in_order ds) (in_order-rises ds)

in_order-same : (ds : List Deadline) (d : Deadline) → has_timer d (in_order ds) ≡ has_timer d ds
in_order-same [] d = refl
in_order-same (e ∷ ds) d = has-put e d (in_order ds) (in_order-rises ds) ∙ ap (λ b. same_timer e d || b) (in_order-same ds d)

pub least-in_order : (ds : List Deadline) → least (in_order ds) ≡ least ds
least-in_order ds = least-same (in_order ds) ds (in_order-same ds)

-- ---- of one row

and_turned : (a b : Bool) → (a && b) ≡ (b && a)
and_turned true true = refl
and_turned true false = refl
and_turned false true = refl
and_turned false false = refl

nothing_or : (a b : Bool) → b ≡ ((a && false) || b)
nothing_or true b = refl
nothing_or false b = refl

has-cons : (cid : Cid) (kind : Kind) (o : Option ℕ) (ds : List Deadline) (d : Deadline) →
    has_timer d (cons_option (timer_at cid kind o) ds) ≡ ((is_timer_of cid kind d && is_set_at d.at o) || has_timer d ds)
has-cons cid kind None ds d = nothing_or (is_timer_of cid kind d) (has_timer d ds)
has-cons cid kind (Some at) ds d =
    ap (λ b. b || has_timer d ds) (ap (λ b. at == d.at && b) (of_turned cid kind d) ∙ and_turned (at == d.at) (is_timer_of cid kind d))

pick : (its : Bool) (set : Kind → Bool) (k : Kind) →
    (((its && same_kind k Handshake) && set Handshake) || (((its && same_kind k Grace) && set Grace) || (((its && same_kind k TimeWait) && set TimeWait)
    || (((its && same_kind k Reply2) && set Reply2) || (((its && same_kind k Reply8) && set Reply8) || (((its && same_kind k Reply10) && set Reply10) || false))))))
    ≡ (its && set k)
pick false set k = refl
pick true set Handshake = or_false (set Handshake)
pick true set Grace = or_false (set Grace)
pick true set TimeWait = or_false (set TimeWait)
pick true set Reply2 = or_false (set Reply2)
pick true set Reply8 = or_false (set Reply8)
pick true set Reply10 = or_false (set Reply10)

pub has-timers_in : (d : Deadline) (row : Row) → has_timer d (timers_in row) ≡ (same_cid d.cid row.cid && is_set_at d.at (moment d.kind row.moments))
has-timers_in d row =
    one Handshake _
    ∙ (ap (λ b. told Handshake || b) (one Grace _
    ∙ ap (λ b. told Grace || b) (one TimeWait _
    ∙ ap (λ b. told TimeWait || b) (one Reply2 _
    ∙ ap (λ b. told Reply2 || b) (one Reply8 _
    ∙ ap (λ b. told Reply8 || b) (one Reply10 [])))))
    ∙ pick (same_cid d.cid row.cid) (λ k. is_set_at d.at (moment k row.moments)) d.kind)
  where
    told : Kind → Bool
    told k = is_timer_of row.cid k d && is_set_at d.at (moment k row.moments)

    one : (k : Kind) (ds : List Deadline) → has_timer d (cons_option (timer_in row k) ds) ≡ (told k || has_timer d ds)
    one k ds = has-cons row.cid k (moment k row.moments) ds d

-- ---- of all

all-agree : (rows : List Row) → AreRising rows → Agree rows (all_timers rows)
all-agree [] rises d = refl
all-agree (r ∷ rs) rises d =
    list_any-append (λ e. same_timer e d) (timers_in r) (all_timers rs)
    ∙ (ap (λ b. b || has_timer d (all_timers rs)) (has-timers_in d r) ∙ elim (cases_Bool (same_cid r.cid d.cid)) [
      | inl here ↦
          let none : row_at d.cid rs ≡ None = find-above cid_below same_cid cid_order (λ r. r.cid) d.cid rs
          (above_when_same cid_below same_cid cid_order (λ r. r.cid) d.cid r rs here rises.0) in
          let rest : has_timer d (all_timers rs) ≡ false = all-agree rs rises.1 d ∙ ap (λ o. is_set_at d.at (moment_of d.kind o)) none in
          ap (λ b. (same_cid d.cid r.cid && set) || b) rest
          ∙ (or_false (same_cid d.cid r.cid && set)
          ∙ (ap (λ b. b && set) (same_cid-turned d.cid r.cid ∙ here)
          ∙ sym (ap (λ b. is_set_at d.at (moment_of d.kind (cond b (Some r) (row_at d.cid rs)))) here)))
      | inr other ↦
          ap (λ b. (b && set) || has_timer d (all_timers rs)) (same_cid-turned d.cid r.cid ∙ other)
          ∙ (all-agree rs rises.1 d ∙ sym (ap (λ b. is_set_at d.at (moment_of d.kind (cond b (Some r) (row_at d.cid rs)))) other))
    ])
  where
    set : Bool
    set = is_set_at d.at (moment d.kind r.moments)

pub agreeing : (rows : List Row) → AreRising rows → Agree rows (timers_of rows)
agreeing rows rises d = in_order-same (all_timers rows) d ∙ all-agree rows rises d

-- a list in order that the rows tell is that of their timers
pub timers_are : (rows : List Row) (line : List Deadline) → AreRising rows → IsInOrder line → Agree rows line → timers_of rows ≡ line
timers_are rows line rises in_line agree =
    rising_is_one deadline_before same_timer timer_order (timers_of rows) line (in_order-rises (all_timers rows)) in_line
    (λ d. agreeing rows rises d ∙ sym (agree d))
