use Rattle.std.proofs.Common.{◌≡◌, List, false, is_some, ap, sym, subst, ◌∙◌}
use Rattle.net_base.specs.declared.connection.Cid.{Cid}
use Rattle.timer_queue.specs.Rows.{row_at, empty_row, with_row}
use Rattle.timer_queue.specs.declared.rows.Row.{Row}
use Rattle.timer_queue.proofs.Enrolled.{enrolled_in, enrolled-is, ids_of, ids-again, idle-row}
use Rattle.timer_queue.proofs.Puts.{timers-again}
use Rattle.timer_queue.proofs.RowEdits.{StandsAt, stands_as_found}
use Rattle.timer_queue.proofs.TimersOf.{timers_of}
use Rattle.timer_queue.proofs.kept.Kept.admit.Goals.{After-put_row}
use Rattle.timer_queue.proofs.kept.Kept.admit.Goals as goal

abbrev before : After-put_row → List Row
before c = c.args.self.now.rows.items

stands : (c : After-put_row) → StandsAt c.args.cid (before c) c.in-Some.place
stands c =
    stands_as_found c.args.cid (before c) c.deref.result.now c.in-Some.place c.place_in.result c.requires.kept.rise c.deref.ensures.value
    c.place_in.ensures c.in-Some.is

items : (c : After-put_row) → c.put_row.new.self.rows.items ≡ with_row (empty_row c.args.cid) (before c)
items c = c.put_row.ensures.rows ∙ ap (λ r. with_row r (before c)) c.empty.ensures

pub returns-in-Some-clause-queue : goal.returns-in-Some-clause-queue
returns-in-Some-clause-queue c =
    let rows = before c in
    let kept = c.requires.kept in
    let s = stands c in
    let absent : enrolled_in (row_at c.args.cid rows) ≡ false = sym (enrolled-is c.args.cid rows kept.rise) ∙ c.requires.absent in
    let none = idle-row c.args.cid s.row rows kept.idle s.there (sym (ap enrolled_in s.there) ∙ absent) in
    let ids = ap ids_of (items c) ∙ ids-again c.args.cid rows kept.rise (ap is_some s.there) absent in
    let timers = ap timers_of (items c)
    ∙ subst (λ (i : Cid). timers_of (with_row (empty_row i) rows) ≡ timers_of rows) s.its (timers-again s.row rows kept.rise s.found none) in
    λ i. record { enrolled = ids i; timers = timers i }
