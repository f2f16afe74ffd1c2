use Rattle.std.proofs.Common.{◌≡◌, List, true, Some, IfSome, IsSomeAnd, ap, sym, subst, ◌∙◌}
use Rattle.std.proofs.lemmas.Bool.{true≢false}
use Rattle.net_base.specs.declared.connection.Cid.{Cid}
use Rattle.timer_queue.specs.Kept.{IsIdle}
use Rattle.timer_queue.specs.Rows.{row_at, place_at, with_at, with_row}
use Rattle.timer_queue.specs.Timers.{timer, put_in, without_kind}
use Rattle.timer_queue.specs.declared.rows.Row.{Row}
use Rattle.timer_queue.proofs.Enrolled.{enrolled_in, enrolled-is, ids_of, ids-same}
use Rattle.timer_queue.proofs.Puts.{timers-set, there_if}
use Rattle.timer_queue.proofs.RowEdits.{StandsAt, stands_at}
use Rattle.timer_queue.proofs.TimersOf.{timers_of}
use Rattle.timer_queue.proofs.kept.Kept.set.Goals.{After-place_of-place}
use Rattle.timer_queue.proofs.kept.Kept.set.Goals as goal

abbrev before : After-place_of-place → List Row
before c = c.args.self.now.rows.items

told : (c : After-place_of-place) → enrolled_in (row_at c.args.cid (before c)) ≡ true
told c = sym (enrolled-is c.args.cid (before c) c.requires.kept.rise) ∙ c.requires.enrolled

stands : (c : After-place_of-place) → StandsAt c.args.cid (before c) c.place_of-place.result
stands c =
    stands_at c.args.cid (before c) c.place_of-place.result c.requires.kept.rise (there_if (row_at c.args.cid (before c)) (told c))
    (c.place_of-place.ensures.value ∙ ap (place_at c.args.cid) c.deref.ensures.value)

pub put_moment-requires-clause-idle : goal.put_moment-requires-clause-idle
put_moment-requires-clause-idle c =
    let d = (goal.at.put_moment-requires-clause-idle c).After-place_of-place in
    let s = stands d in
    let enrolled : s.row.enrolled ≡ true = sym (ap enrolled_in s.there) ∙ told d in
    subst (λ o. IsSomeAnd o (λ row. IsIdle (with_at c.args.kind (Some c.args.at) row))) (sym s.there) (λ left. absurd (true≢false (sym enrolled ∙ left)))

pub returns-clause-queue : goal.returns-clause-queue
returns-clause-queue c =
    let d = (goal.at.returns-clause-queue c).After-place_of-place in
    let rows : List Row = c.args.self.now.rows.items in
    let s = stands d in
    let new : Row = with_at c.args.kind (Some c.args.at) s.row in
    let is : c.put_moment.new.self.rows.items ≡ with_row new rows =
    subst (λ o. IfSome o (λ row. c.put_moment.new.self.rows.items ≡ with_row (with_at c.args.kind (Some c.args.at) row) rows)) s.there c.put_moment.ensures.rows in
    let rise = c.requires.kept.rise in
    let kind = c.args.kind in
    let ids = ap ids_of is ∙ ids-same s.row new rows rise s.found (λ i. s.row.enrolled) in
    let timers = ap timers_of is
    ∙ subst (λ (i : Cid). timers_of (with_row new rows) ≡ put_in (timer i kind c.args.at) (without_kind i kind (timers_of rows))) s.its
    (timers-set s.row kind c.args.at rows rise s.found) in
    λ i. record { enrolled = ids i; timers = timers i }
