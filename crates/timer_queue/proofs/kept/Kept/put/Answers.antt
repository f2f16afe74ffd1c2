use Rattle.std.proofs.Common.{◌≡◌, ◌++◌, List, true, ap, sym, subst, ◌∙◌, arith}
use Rattle.std.proofs.lemmas.Option.{slice_get_within, get_or_from_slice_get}
use Rattle.net_base.specs.declared.connection.Cid.{Cid}
use Rattle.net_base.specs.declared.timer.Deadline.{Deadline}
use Rattle.timer_queue.specs.Kept.{all_timers, in_order}
use Rattle.timer_queue.specs.Rows.{row_at, place_at, timers_of}
use Rattle.timer_queue.specs.Timers.{HaveSame, without_cid}
use Rattle.timer_queue.specs.declared.moments.Moments.{Moments}
use Rattle.timer_queue.specs.declared.rows.Row.{Row}
use Rattle.timer_queue.proofs.Enrolled.{enrolled_in, enrolled-is, ids_of, ids-same}
use Rattle.timer_queue.proofs.PutTimers.{timers-put, timers-had, same_moments}
use Rattle.timer_queue.proofs.Puts.{there_if}
use Rattle.timer_queue.proofs.RowEdits.{StandsAt, stands_at}
use Rattle.timer_queue.proofs.kept.Kept.put.Goals.{After-place_of-place}
use Rattle.timer_queue.proofs.kept.Kept.put.Goals as goal

abbrev before : After-place_of-place → List Row
before c = c.args.self.now.rows.items

told : (c : After-place_of-place) → enrolled_in (row_at c.args.cid (before c)) ≡ true
told c = sym (enrolled-is c.args.cid (before c) c.requires.kept.rise) ∙ c.requires.enrolled

stands : (c : After-place_of-place) → StandsAt c.args.cid (before c) c.place_of-place.result
stands c =
    stands_at c.args.cid (before c) c.place_of-place.result c.requires.kept.rise (there_if (row_at c.args.cid (before c)) (told c))
    (c.place_of-place.ensures.value ∙ ap (place_at c.args.cid) c.deref.ensures.value)

pub index-requires : goal.index-requires
index-requires c =
    let s = stands (goal.at.index-requires c).After-place_of-place in
    omega (arith, c.args.self.now.rows.ok, slice_get_within c.args.self.now.rows.items c.place_of-place.result s.row s.here)

pub put_row-requires-clause-there : goal.put_row-requires-clause-there
put_row-requires-clause-there c =
    let d = (goal.at.put_row-requires-clause-there c).After-place_of-place in
    there_if (row_at c.args.cid (before d)) (told d)

pub returns-then-eq-clause-timers : goal.returns-then-eq-clause-timers
returns-then-eq-clause-timers c =
    let d = (goal.at.returns-then-eq-clause-timers c).After-place_of-place in
    let rows : List Row = c.args.self.now.rows.items in
    let line : List Deadline = in_order (all_timers rows) in
    let s = stands d in
    let its : c.index.result.now ≡ s.row = c.index.ensures ∙ get_or_from_slice_get rows c.place_of-place.result s.row c.index.result.now s.here in
    let same : s.row.moments ≡ c.args.moments.now = sym (ap (λ (r : Row). r.moments) its) ∙ same_moments c.index.result.now.moments c.args.moments.now (sym c.eq.ensures ∙ c.if-eq.true) in
    subst (λ (m : Moments). HaveSame line (timers_of c.args.cid m ++ without_cid c.args.cid line)) same
    (subst (λ (i : Cid). HaveSame line (timers_of i s.row.moments ++ without_cid i line)) s.its (timers-had s.row rows c.requires.kept.rise s.found))

pub returns-clause-enrolled : goal.returns-clause-enrolled
returns-clause-enrolled c =
    let d = (goal.at.returns-clause-enrolled c).After-place_of-place in
    let rows : List Row = c.args.self.now.rows.items in
    let s = stands d in
    let new : Row = record { cid = c.args.cid; enrolled = true; moments = c.args.moments.now } in
    ap ids_of c.put_row.ensures.rows
    ∙ ids-same s.row new rows c.requires.kept.rise s.there (sym (sym (ap enrolled_in s.there) ∙ told d))

pub returns-clause-timers : goal.returns-clause-timers
returns-clause-timers c =
    let d = (goal.at.returns-clause-timers c).After-place_of-place in
    let rows : List Row = c.args.self.now.rows.items in
    let new : Row = record { cid = c.args.cid; enrolled = true; moments = c.args.moments.now } in
    subst (λ rs. HaveSame (in_order (all_timers rs)) (timers_of c.args.cid c.args.moments.now ++ without_cid c.args.cid (in_order (all_timers rows))))
    (sym c.put_row.ensures.rows) (timers-put new rows c.requires.kept.rise (there_if (row_at c.args.cid rows) (told d)))
