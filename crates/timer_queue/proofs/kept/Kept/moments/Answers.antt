use Rattle.std.proofs.Common.{◌≡◌, List, None, sym, ap, subst, ◌∙◌, arith}
use Rattle.std.proofs.lemmas.Option.{slice_get_within, get_or_from_slice_get}
use Rattle.net_base.specs.declared.connection.Cid.{Cid}
use Rattle.net_base.specs.declared.timer.Deadline.{Deadline}
use Rattle.timer_queue.specs.Rows.{AreMomentsOf, IsMomentOf, moment, moment_of}
use Rattle.timer_queue.specs.declared.rows.Row.{Row}
use Rattle.timer_queue.proofs.Agreement.{are_moments, has-of}
use Rattle.timer_queue.proofs.RowEdits.{stands_as_found, missing, none_of}
use Rattle.timer_queue.proofs.TimersOf.{timers_of, agreeing}
use Rattle.timer_queue.proofs.kept.Kept.moments.Goals as goal

pub index-requires : goal.index-requires
index-requires c =
    let rows = c.args.self.now.rows.items in
    let s = stands_as_found c.args.cid rows c.deref.result.now c.in-Some.place c.place_in.result c.requires.rise c.deref.ensures.value c.place_in.ensures c.in-Some.is in
    omega (arith, c.args.self.now.rows.ok, slice_get_within rows c.in-Some.place s.row s.here)

pub returns-in-None : goal.returns-in-None
returns-in-None c kind =
    let rows : List Row = c.args.self.now.rows.items in
    let timers : List Deadline = timers_of rows in
    let none = missing c.args.cid rows c.deref.result.now c.place_in.result c.deref.ensures.value c.place_in.ensures c.in-None.is in
    let told : IsMomentOf c.args.cid kind None timers = subst (λ o. IsMomentOf c.args.cid kind o timers) (ap (moment_of kind) none)
    (has-of c.args.cid kind rows timers (agreeing rows c.requires.rise)) in
    subst (λ o. IsMomentOf c.args.cid kind o timers) (sym (ap (moment kind) c.none.ensures ∙ none_of kind)) told

pub returns-in-Some : goal.returns-in-Some
returns-in-Some c =
    let rows : List Row = c.args.self.now.rows.items in
    let timers : List Deadline = timers_of rows in
    let s = stands_as_found c.args.cid rows c.deref.result.now c.in-Some.place c.place_in.result c.requires.rise c.deref.ensures.value c.place_in.ensures c.in-Some.is in
    let its : c.index.result.now ≡ s.row = c.index.ensures ∙ get_or_from_slice_get rows c.in-Some.place s.row c.index.result.now s.here in
    let found = subst (λ (i : Cid). AreMomentsOf i s.row.moments timers) s.its (are_moments s.row rows timers s.found (agreeing rows c.requires.rise)) in
    subst (λ (r : Row). AreMomentsOf c.args.cid r.moments timers) (sym its) found
