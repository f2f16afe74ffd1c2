-- The least key names the row of the timer that fires first.
use Rattle.std.proofs.Common.{◌≡◌, ℕ, ◌-◌, ◌%◌, ◌^◌, ◌<◌, ◌≤◌, ◌==◌, nat_lt, min, true, false, List, [], ◌∷◌, length, Option, Some, None, IfSome, refl, sym, ap, subst, ◌∙◌, inl, inr, arith}
use Rattle.std.proofs.lemmas.Bool.{cases_Bool, cases_order, and_parts, or_cases, ltb-true, eqb-true}
use Rattle.std.proofs.lemmas.Bool.Decides.{nat_tests}
use Rattle.least_tree.specs.Keys.{key}
use Rattle.least_tree.specs.Numbers.{none, least_of}
use Rattle.least_tree.proofs.KeyOrder.{first_lower, second_is, upto_none}
use Rattle.least_tree.proofs.Sums.{least-with_room}
use Rattle.net_base.specs.Timer.{deadline_before}
use Rattle.net_base.specs.declared.connection.Cid.{Cid}
use Rattle.net_base.specs.declared.timer.Deadline.{Deadline}
use Rattle.net_base.specs.declared.timer.Kind.{Kind}
use Rattle.net_base.specs.declared.timer.Kind.TheVariants.{Handshake, Grace, TimeWait, Reply2, Reply8, Reply10}
use Rattle.timer_queue.specs.Keys.{earlier_moment, first_moment, key_at, key_in, keys_in}
use Rattle.timer_queue.specs.Kept.{AreRising, IsWord, IsOfWords, AreOfWords, IsOver, all_timers}
use Rattle.timer_queue.specs.Rows.{moment, row_at, timer_at}
use Rattle.timer_queue.specs.Timers.{same_cid, cid_below, earlier, least}
use Rattle.timer_queue.specs.Trees.{sooner, timer_in, first_in}
use Rattle.timer_queue.specs.declared.rows.Row.{Row}
use Rattle.timer_queue.proofs.Firsts.{before-at}
use Rattle.timer_queue.proofs.Joins.{least-rows}
use Rattle.timer_queue.proofs.Orders.{cid_order}
use Rattle.timer_queue.proofs.Rising.{find-above, above_when_same}

-- ---- the first timer of a row

-- a timer at a moment, of one connection
abbrev IsAt : Cid → Option ℕ → Option Deadline → Type 0
IsAt cid None None = Unit {0}
IsAt cid None (Some d) = ⊥
IsAt cid (Some at) None = ⊥
IsAt cid (Some at) (Some d) = (d.at ≡ at) × (d.cid ≡ cid)

timer-is : (cid : Cid) (kind : Kind) (at : Option ℕ) → IsAt cid at (timer_at cid kind at)
timer-is cid kind None = tt
timer-is cid kind (Some at) = (refl, refl)

not_before-at : (a b : Deadline) → deadline_before a b ≡ false → b.at ≤ a.at
not_before-at a b h = grind (arith, nat_tests)

both : (cid : Cid) (m n : Option ℕ) (o p : Option Deadline) → IsAt cid m o → IsAt cid n p → IsAt cid (earlier_moment m n) (sooner o p)
both cid None n None p h k = k
both cid (Some m) None (Some d) None h k = h
both cid (Some m) (Some n) (Some d) (Some e) h k = elim (cases_Bool (deadline_before e d)) [
  | inl before ↦ rw before (omega (arith, before-at e d before, h.0, k.0), k.1)
  | inr behind ↦ rw behind (omega (arith, not_before-at e d behind, h.0, k.0), h.1)
]
both cid None n (Some d) p h k = absurd h
both cid (Some m) n None p h k = absurd h
both cid (Some m) None (Some d) (Some e) h k = absurd k
both cid (Some m) (Some n) (Some d) None h k = absurd k

first-is : (row : Row) → IsAt row.cid (first_moment row.moments) (first_in row)
first-is row =
    let cid : Cid = row.cid in
    let of : (kind : Kind) → IsAt cid (moment kind row.moments) (timer_in row kind) = λ kind. timer-is cid kind (moment kind row.moments) in
    both cid _ _ _ _ (of Handshake) (both cid _ _ _ _ (of Grace) (both cid _ _ _ _ (of TimeWait)
    (both cid _ _ _ _ (of Reply2) (both cid _ _ _ _ (of Reply8) (of Reply10)))))

-- ---- as numbers

abbrev key_of : Option Deadline → ℕ
key_of None = none
key_of (Some d) = key d.at d.cid.0

abbrev IsWordy : Option Deadline → Type 0
IsWordy o = IfSome o (λ d. (d.at < 2 ^ 64) × (d.cid.0 < 2 ^ 64))

key-first : (row : Row) → key_in row ≡ key_of (first_in row)
key-first row = by (first_moment row.moments) (first_in row) (first-is row)
  where
    by : (m : Option ℕ) (o : Option Deadline) → IsAt row.cid m o → key_at row.cid m ≡ key_of o
    by None None h = refl
    by (Some at) (Some d) h = ap (λ n. key n row.cid.0) (sym h.0) ∙ ap (λ (c : Cid). key d.at c.0) (sym h.1)
    by None (Some d) h = absurd h
    by (Some at) None h = absurd h

words-first : (row : Row) → IsOfWords row → IsWordy (first_in row)
words-first row words = by (first_moment row.moments) (first_in row) (first-is row) words.first
  where
    by : (m : Option ℕ) (o : Option Deadline) → IsAt row.cid m o → IsWord m → IsWordy o
    by None None h w = tt
    by (Some at) (Some d) h w = (omega (arith, h.0, w), omega (arith, ap (λ (c : Cid). c.0) h.1, words.id))
    by None (Some d) h w = absurd h
    by (Some at) None h w = absurd h

words-sooner : (o p : Option Deadline) → IsWordy o → IsWordy p → IsWordy (sooner o p)
words-sooner None p h k = k
words-sooner (Some d) None h k = h
words-sooner (Some d) (Some e) h k = elim (cases_Bool (deadline_before e d)) [
  | inl before ↦ rw before k
  | inr behind ↦ rw behind h
]

before-key : (a b : Deadline) → deadline_before a b ≡ true → a.cid.0 < 2 ^ 64 → key a.at a.cid.0 ≤ key b.at b.cid.0
before-key a b before fits = elim (or_cases (nat_lt a.at b.at) _ before) [
  | inl lower ↦ omega (arith, first_lower a.at a.cid.0 b.at b.cid.0 fits (ltb-true a.at b.at lower))
  | inr tied ↦
      let parts = and_parts (a.at == b.at) _ tied in
      let same : a.at ≡ b.at = eqb-true a.at b.at parts.0 in
      elim (or_cases (nat_lt a.cid.0 b.cid.0) _ parts.1) [
        | inl lower ↦ omega (arith, same, ltb-true a.cid.0 b.cid.0 lower)
        | inr also ↦ omega (arith, same, eqb-true a.cid.0 b.cid.0 (and_parts (a.cid.0 == b.cid.0) _ also).0)
      ]
]

not_before-key : (a b : Deadline) → deadline_before a b ≡ false → b.cid.0 < 2 ^ 64 → key b.at b.cid.0 ≤ key a.at a.cid.0
not_before-key a b behind fits = elim (cases_order b.at a.at) [
  | inl same ↦
      let low : b.cid.0 ≤ a.cid.0 = grind (arith, nat_tests, behind, same) in
      omega (arith, same, low)
  | inr apart ↦ elim apart [
    | inl lower ↦ omega (arith, first_lower b.at b.cid.0 a.at a.cid.0 fits lower)
    | inr higher ↦ absurd (omega (arith, higher, not_before-at a b behind))
  ]
]

key-sooner : (o p : Option Deadline) → IsWordy o → IsWordy p → key_of (sooner o p) ≡ min (key_of o) (key_of p)
key-sooner None None h k = refl
key-sooner None (Some e) h k = omega (arith, upto_none e.at e.cid.0 k.0 k.1)
key-sooner (Some d) None h k = omega (arith, upto_none d.at d.cid.0 h.0 h.1)
key-sooner (Some d) (Some e) h k = elim (cases_Bool (deadline_before e d)) [
  | inl before ↦ rw before (omega (arith, before-key e d before k.1))
  | inr behind ↦ rw behind (omega (arith, not_before-key e d behind h.1))
]

words-least : (rows : List Row) → AreOfWords rows → IsWordy (least (all_timers rows))
words-least [] words = tt
words-least (r ∷ rs) words =
    subst IsWordy (sym (least-rows r rs)) (words-sooner (first_in r) (least (all_timers rs)) (words-first r words.0) (words-least rs words.1))

key-least : (rows : List Row) → AreOfWords rows → least_of (keys_in rows) ≡ key_of (least (all_timers rows))
key-least [] words = refl
key-least (r ∷ rs) words =
    ap (min (key_in r)) (key-least rs words.1)
    ∙ (ap (λ n. min n (key_of (least (all_timers rs)))) (key-first r)
    ∙ (sym (key-sooner (first_in r) (least (all_timers rs)) (words-first r words.0) (words-least rs words.1)) ∙ ap key_of (sym (least-rows r rs))))

-- ---- the row that it names

abbrev pub first_of : Option Row → Option Deadline
first_of None = None
first_of (Some row) = first_in row

-- a timer is the first of the row of its id, and where there is none no row has one
abbrev Names : List Row → Option Deadline → Type 0
Names rows None = (cid : Cid) → first_of (row_at cid rows) ≡ None
Names rows (Some d) = first_of (row_at d.cid rows) ≡ Some d

least-names : (rows : List Row) → AreRising rows → Names rows (least (all_timers rows))
least-names [] rises = λ cid. refl
least-names (r ∷ rs) rises =
    subst (Names (r ∷ rs)) (sym (least-rows r rs)) (by (first_moment r.moments) (first_in r) refl (first-is r) (least (all_timers rs)) (least-names rs rises.1))
  where
    own : (d : Deadline) → first_in r ≡ Some d → d.cid ≡ r.cid → first_of (row_at d.cid (r ∷ rs)) ≡ Some d
    own d is e = subst (λ (c : Cid). first_of (row_at c (r ∷ rs)) ≡ Some d) (sym e) (rw (cid_order.same_itself r.cid) is)

    behind : (d : Deadline) → first_of (row_at d.cid rs) ≡ Some d → first_of (row_at d.cid (r ∷ rs)) ≡ Some d
    behind d is = elim (cases_Bool (same_cid r.cid d.cid)) [
      | inl here ↦
          let gone : row_at d.cid rs ≡ None = find-above cid_below same_cid cid_order (λ x. x.cid) d.cid rs
          (above_when_same cid_below same_cid cid_order (λ x. x.cid) d.cid r rs here rises.0) in
          let clash : None ≡ Some d = sym (ap first_of gone) ∙ is in cc
      | inr other ↦ rw other is
    ]

    by : (m : Option ℕ) (o : Option Deadline) → first_in r ≡ o → IsAt r.cid m o → (p : Option Deadline) → Names rs p → Names (r ∷ rs) (sooner o p)
    by None None is h None names = λ cid. elim (cases_Bool (same_cid r.cid cid)) [
      | inl here ↦ rw here is
      | inr other ↦ rw other (names cid)
    ]
    by None None is h (Some e) names = behind e names
    by (Some m) (Some d) is h None names = own d is h.1
    by (Some m) (Some d) is h (Some e) names = elim (cases_Bool (deadline_before e d)) [
      | inl before ↦
          let it : earlier d (Some e) ≡ e = rw before refl in
          subst (λ (x : Deadline). Names (r ∷ rs) (Some x)) (sym it) (behind e names)
      | inr after ↦
          let it : earlier d (Some e) ≡ d = rw after refl in
          subst (λ (x : Deadline). Names (r ∷ rs) (Some x)) (sym it) (own d is h.1)
    ]
    by None (Some d) is h p names = absurd h
    by (Some m) None is h p names = absurd h

-- the row of the id in the least key has the timer that fires first, where there is one
pub least-found : (rows : List Row) (keys : List ℕ) → AreRising rows → AreOfWords rows → IsOver rows keys →
    first_of (row_at (record { 0 = least_of keys % 2 ^ 64 }) rows) ≡ least (all_timers rows)
least-found rows keys rises words over =
    by (least (all_timers rows)) (ap least_of over ∙ (least-with_room (keys_in rows) (length keys - length rows) ∙ key-least rows words))
    (words-least rows words) (least-names rows rises)
  where
    by : (o : Option Deadline) → least_of keys ≡ key_of o → IsWordy o → Names rows o → first_of (row_at (record { 0 = least_of keys % 2 ^ 64 }) rows) ≡ o
    by None is w names = names (record { 0 = least_of keys % 2 ^ 64 })
    by (Some d) is w names =
        let id : least_of keys % 2 ^ 64 ≡ d.cid.0 = ap (λ n. n % 2 ^ 64) is ∙ second_is d.at d.cid.0 w.1 in
        ap (λ n. first_of (row_at (record { 0 = n }) rows)) id ∙ names
