use Rattle.std.proofs.Common.{◌≡◌, List, None, IfSome, IsSomeAnd, ap, sym, subst, ◌∙◌}
use Rattle.net_base.specs.declared.connection.Cid.{Cid}
use Rattle.timer_queue.specs.Kept.{IsIdle, queue_of}
use Rattle.timer_queue.specs.Rows.{with_at, with_row}
use Rattle.timer_queue.specs.Timers.{without_kind}
use Rattle.timer_queue.specs.declared.rows.Row.{Row}
use Rattle.timer_queue.proofs.Enrolled.{enrolled_in, enrolled-is, ids_of, ids-same}
use Rattle.timer_queue.proofs.Orderly.{nothing_to_clear, orderly_when_kept}
use Rattle.timer_queue.proofs.Puts.{timers-cleared, idle-cleared}
use Rattle.timer_queue.proofs.RowEdits.{StandsAt, stands_as_found, missing}
use Rattle.timer_queue.proofs.TimersOf.{timers_of}
use Rattle.timer_queue.proofs.kept.Kept.clear.Goals.{In-Some}
use Rattle.timer_queue.proofs.kept.Kept.clear.Goals as goal

pub returns-in_default-clause-queue : goal.returns-in_default-clause-queue
returns-in_default-clause-queue c =
    let kept = c.args.self.now in
    let rows : List Row = kept.rows.items in
    let none = missing c.args.cid rows c.deref.result.now c.place_in.result c.deref.ensures.value c.place_in.ensures c.in_default.is in
    sym (nothing_to_clear c.args.cid c.args.kind (queue_of kept) (orderly_when_kept kept c.requires)
    (enrolled-is c.args.cid rows c.requires.rise ∙ ap enrolled_in none))

abbrev before : In-Some → List Row
before c = c.args.self.now.rows.items

stands : (c : In-Some) → StandsAt c.args.cid (before c) c.in-Some.place
stands c =
    stands_as_found c.args.cid (before c) c.deref.result.now c.in-Some.place c.place_in.result c.requires.rise c.deref.ensures.value c.place_in.ensures c.in-Some.is

pub put_moment-requires-clause-idle : goal.put_moment-requires-clause-idle
put_moment-requires-clause-idle c =
    let s = stands (goal.at.put_moment-requires-clause-idle c).In-Some in
    subst (λ o. IsSomeAnd o (λ row. IsIdle (with_at c.args.kind None row))) (sym s.there)
    (idle-cleared s.row c.args.kind c.args.self.now.rows.items c.requires.idle s.found)

pub returns-clause-queue : goal.returns-clause-queue
returns-clause-queue c =
    let d = (goal.at.returns-clause-queue c).In-Some in
    let rows : List Row = c.args.self.now.rows.items in
    let s = stands d in
    let new : Row = with_at c.args.kind None s.row in
    let is : c.put_moment.new.self.rows.items ≡ with_row new rows =
    subst (λ o. IfSome o (λ row. c.put_moment.new.self.rows.items ≡ with_row (with_at c.args.kind None row) rows)) s.there c.put_moment.ensures.rows in
    let rise = c.requires.rise in
    let ids = ap ids_of is ∙ ids-same s.row new rows rise s.found (λ i. s.row.enrolled) in
    let timers = ap timers_of is
    ∙ subst (λ (i : Cid). timers_of (with_row new rows) ≡ without_kind i c.args.kind (timers_of rows)) s.its
    (timers-cleared s.row c.args.kind rows rise s.found) in
    λ i. record { enrolled = ids i; timers = timers i }
