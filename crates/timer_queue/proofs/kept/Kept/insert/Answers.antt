use Rattle.std.proofs.Common.{◌≡◌, ℕ, ◌≤◌, cond, List, length, refl, subst, sym, ap, arith, ◌∙◌}
use Rattle.std.specs.List.{insert}
use Rattle.timer_queue.specs.Keys.{key_in}
use Rattle.timer_queue.specs.Kept.{AreRising, AreIdle, AreOfWords, IsOver, all_timers}
use Rattle.timer_queue.specs.Queue.{with_id}
use Rattle.timer_queue.specs.Rows.{empty_row, with_new_row, place_at}
use Rattle.timer_queue.specs.declared.rows.Row.{Row}
use Rattle.timer_queue.proofs.Agreement.{Agree-admitted}
use Rattle.timer_queue.proofs.Enrolled.{ids_of, ids-new, idle-with_new_row}
use Rattle.least_tree.proofs.Over.{over-insert, over-behind, length-put_among}
use Rattle.timer_queue.proofs.Words.{words-with_new_row}
use Rattle.least_tree.specs.Numbers.{none}
use Rattle.timer_queue.proofs.RowEdits.{AreRising-with_new_row, insert-place_at, length-with_new_row}
use Rattle.timer_queue.proofs.TimersOf.{timers_of, timers_are, agreeing, in_order-rises}
use Rattle.timer_queue.proofs.kept.Kept.insert.Goals.{After-insert}
use Rattle.timer_queue.proofs.kept.Kept.insert.Goals as goal

abbrev before : After-insert → List Row
before c = c.args.self.now.rows.items

place_is : (c : After-insert) → c.place_of-place.result ≡ place_at c.args.cid (before c)
place_is c = c.place_of-place.ensures.value ∙ ap (place_at c.args.cid) c.deref.ensures.value

put : (c : After-insert) → c.insert.new.self.items ≡ insert (before c) c.place_of-place.result (empty_row c.args.cid)
put c =
    let rows = before c in
    let place = c.place_of-place.result in
    let went = c.insert.ensures.succeeds (omega (arith, c.requires.room, c.requires.kept.memory, c.args.self.now.rows.ok)) in
    c.insert.ensures.items ∙ (ap (λ b. cond b (insert rows place c.empty.result) rows) went ∙ ap (insert rows place) c.empty.ensures)

items : (c : After-insert) → c.insert.new.self.items ≡ with_new_row (empty_row c.args.cid) (before c)
items c = put c ∙ insert-place_at (empty_row c.args.cid) (before c) c.place_of-place.result (place_is c)

rise : (c : After-insert) → AreRising c.insert.new.self.items
rise c = subst AreRising (sym (items c)) (AreRising-with_new_row (empty_row c.args.cid) (before c) c.requires.kept.rise c.requires.absent)

idle : (c : After-insert) → AreIdle c.insert.new.self.items
idle c = subst AreIdle (sym (items c)) (idle-with_new_row (empty_row c.args.cid) (before c) (λ e. refl) c.requires.kept.idle)

ids : (c : After-insert) → ids_of c.insert.new.self.items ≡ with_id c.args.cid (ids_of (before c))
ids c = ap ids_of (items c) ∙ ids-new c.args.cid (before c) c.requires.kept.rise c.requires.absent

timers : (c : After-insert) → timers_of c.insert.new.self.items ≡ timers_of (before c)
timers c =
    let rows = before c in
    let kept = c.requires.kept in
    ap timers_of (items c)
    ∙ timers_are (with_new_row (empty_row c.args.cid) rows) (timers_of rows) (AreRising-with_new_row (empty_row c.args.cid) rows kept.rise c.requires.absent)
    (in_order-rises (all_timers rows)) (Agree-admitted c.args.cid rows (timers_of rows) c.requires.absent (agreeing rows kept.rise))

words : (c : After-insert) → AreOfWords c.insert.new.self.items
words c = subst AreOfWords (sym (items c)) (words-with_new_row (empty_row c.args.cid) (before c) record { id = omega arith; first = tt } c.requires.kept.words)

longer : (c : After-insert) → length c.insert.new.self.items ≤ length c.args.self.now.keys
longer c = omega (arith, ap length (items c), length-with_new_row (empty_row c.args.cid) (before c), c.requires.room)

pub returns-then-not-is_last-clause-kept : goal.returns-then-not-is_last-clause-kept
returns-then-not-is_last-clause-kept c =
    let d = (goal.at.returns-then-not-is_last-clause-kept c).After-insert in
    let rows = before d in
    let old : List ℕ = c.args.self.now.keys in
    let place = c.place_of-place.result in
    let long = length-put_among old place none in
    record {
      rise = rise d;
      idle = idle d;
      words = words d;
      fit = omega (arith, longer d, ap length c.insert-then-not-is_last.ensures, long);
      memory = omega (arith, c.insert.ensures.capacity, ap length c.insert-then-not-is_last.ensures, long, c.requires.kept.memory);
      keys = subst (λ rs. IsOver rs c.insert-then-not-is_last.new.self) (sym (put d))
          (over-insert key_in rows old place (empty_row c.args.cid) c.insert-then-not-is_last.new.self (omega (arith, c.place_of-place.ensures.bound, ap length c.deref.ensures.value)) c.requires.room c.requires.kept.keys c.insert-then-not-is_last.ensures);
    }

pub returns-then-not-is_last-clause-queue : goal.returns-then-not-is_last-clause-queue
returns-then-not-is_last-clause-queue c =
    let d = (goal.at.returns-then-not-is_last-clause-queue c).After-insert in
    λ i. record { enrolled = ids d i; timers = timers d i }

pub returns-else-not-is_last-clause-kept : goal.returns-else-not-is_last-clause-kept
returns-else-not-is_last-clause-kept c =
    let d = (goal.at.returns-else-not-is_last-clause-kept c).After-insert in
    let keys : List ℕ = c.args.self.now.keys in
    record {
      rise = rise d;
      idle = idle d;
      words = words d;
      fit = longer d;
      memory = omega (arith, c.insert.ensures.capacity, c.requires.kept.memory);
      keys = subst (λ rs. IsOver rs keys) (sym (put d))
          (over-behind key_in (before d) keys c.place_of-place.result (empty_row c.args.cid) refl (omega (arith, c.if-not-is_last.false, c.len.ensures, c.args.self.now.rows.ok)) c.requires.room c.requires.kept.keys);
    }

pub returns-else-not-is_last-clause-queue : goal.returns-else-not-is_last-clause-queue
returns-else-not-is_last-clause-queue c =
    let d = (goal.at.returns-else-not-is_last-clause-queue c).After-insert in
    λ i. record { enrolled = ids d i; timers = timers d i }
