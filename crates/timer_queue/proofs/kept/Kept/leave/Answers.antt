use Rattle.std.proofs.Common.{◌≡◌, List, is_some, ap, sym, ◌∙◌}
use Rattle.timer_queue.specs.Kept.{queue_of}
use Rattle.timer_queue.specs.Rows.{gone_row, with_row}
use Rattle.timer_queue.specs.declared.rows.Row.{Row}
use Rattle.timer_queue.proofs.Enrolled.{enrolled_in, enrolled-is, ids_of, ids-left}
use Rattle.timer_queue.proofs.Orderly.{nobody_leaves, orderly_when_kept}
use Rattle.timer_queue.proofs.Puts.{timers-left}
use Rattle.timer_queue.proofs.RowEdits.{StandsAt, stands_as_found, missing}
use Rattle.timer_queue.proofs.TimersOf.{timers_of}
use Rattle.timer_queue.proofs.kept.Kept.leave.Goals.{After-put_row}
use Rattle.timer_queue.proofs.kept.Kept.leave.Goals as goal

pub returns-in_default-clause-queue : goal.returns-in_default-clause-queue
returns-in_default-clause-queue c =
    let kept = c.args.self.now in
    let rows : List Row = kept.rows.items in
    let none = missing c.args.cid rows c.deref.result.now c.place_in.result c.deref.ensures.value c.place_in.ensures c.in_default.is in
    sym (nobody_leaves c.args.cid (queue_of kept) (orderly_when_kept kept c.requires)
    (enrolled-is c.args.cid rows c.requires.rise ∙ ap enrolled_in none))

abbrev before : After-put_row → List Row
before c = c.args.self.now.rows.items

stands : (c : After-put_row) → StandsAt c.args.cid (before c) c.in-Some.place
stands c =
    stands_as_found c.args.cid (before c) c.deref.result.now c.in-Some.place c.place_in.result c.requires.rise c.deref.ensures.value c.place_in.ensures c.in-Some.is

items : (c : After-put_row) → c.put_row.new.self.rows.items ≡ with_row (gone_row c.args.cid) (before c)
items c = c.put_row.ensures.rows ∙ ap (λ r. with_row r (before c)) c.gone.ensures

pub returns-clause-queue : goal.returns-clause-queue
returns-clause-queue c =
    let rows = before c in
    let there = ap is_some (stands c).there in
    let ids = ap ids_of (items c) ∙ ids-left c.args.cid rows c.requires.rise there in
    let timers = ap timers_of (items c) ∙ timers-left c.args.cid rows c.requires.rise there in
    λ i. record { enrolled = ids i; timers = timers i }
