use Rattle.std.proofs.Common.{◌≡◌, ap, sym, ◌∙◌, arith}
use Rattle.std.proofs.lemmas.Option.{slice_get_within, get_or_from_slice_get}
use Rattle.timer_queue.specs.declared.rows.Row.{Row}
use Rattle.timer_queue.proofs.Enrolled.{enrolled_in, enrolled-is}
use Rattle.timer_queue.proofs.RowEdits.{stands_as_found, missing}
use Rattle.timer_queue.proofs.kept.Kept.has.Goals as goal

pub index-requires : goal.index-requires
index-requires c =
    let rows = c.args.self.now.rows.items in
    let s = stands_as_found c.args.cid rows c.deref.result.now c.in-Some.place c.place_in.result c.requires.rise c.deref.ensures.value c.place_in.ensures c.in-Some.is in
    omega (arith, c.args.self.now.rows.ok, slice_get_within rows c.in-Some.place s.row s.here)

pub returns-in-Some : goal.returns-in-Some
returns-in-Some c =
    let rows = c.args.self.now.rows.items in
    let s = stands_as_found c.args.cid rows c.deref.result.now c.in-Some.place c.place_in.result c.requires.rise c.deref.ensures.value c.place_in.ensures c.in-Some.is in
    let its : c.index.result.now ≡ s.row = c.index.ensures ∙ get_or_from_slice_get rows c.in-Some.place s.row c.index.result.now s.here in
    ap (λ (r : Row). r.enrolled) its ∙ sym (enrolled-is c.args.cid rows c.requires.rise ∙ ap enrolled_in s.there)

pub returns-in-None : goal.returns-in-None
returns-in-None c =
    let rows = c.args.self.now.rows.items in
    let none = missing c.args.cid rows c.deref.result.now c.place_in.result c.deref.ensures.value c.place_in.ensures c.in-None.is in
    sym (enrolled-is c.args.cid rows c.requires.rise ∙ ap enrolled_in none)
