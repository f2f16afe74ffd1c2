use Rattle.std.proofs.Common.{◌≡◌, ℕ, Bool, Bor, true, false, cond, List, Some, None, length, option_map, slice_get, refl, sym, ap, ◌∙◌}
use Rattle.std.specs.Bool.{then_some}
use Rattle.std.proofs.lemmas.Option.{slice_get_past, slice_get_read}
use Rattle.net_base.specs.declared.connection.Cid.{Cid}
use Rattle.timer_queue.specs.Kept.{AreRising}
use Rattle.timer_queue.specs.Rows.{found_at, place_at, row_at}
use Rattle.timer_queue.specs.Timers.{cid_below, same_cid}
use Rattle.timer_queue.specs.declared.rows.Row.{Row}
use Rattle.timer_queue.proofs.Orders.{cid_order}
use Rattle.timer_queue.proofs.Rising.{find-place}
use Rattle.timer_queue.proofs.rows.find.row_in.Goals as goal

-- the row at the place of an id, where it is that of the id, is what is found of it
found : (rows : List Row) (cid : Cid) (place : ℕ) → AreRising rows → place ≡ place_at cid rows → row_at cid rows ≡ found_at cid (slice_get rows place)
found rows cid place rises e =
    find-place cid_below same_cid cid_order (λ r. r.cid) cid rows rises ∙ sym (ap (λ n. found_at cid (slice_get rows n)) e)

pub returns-in_err-row : goal.returns-in_err-row
returns-in_err-row c =
    let rows : List Row = c.args.rows.now in
    let cid : Cid = c.args.cid in
    let none : slice_get rows c.place_of.result ≡ None = slice_get_past rows c.place_of.result c.in_err-row.ensures.lookup.3 in
    ap (option_map (λ r. r.now)) c.from_residual.ensures
    ∙ sym (found rows cid c.place_of.result c.requires c.place_of.ensures.value ∙ ap (found_at cid) none)

chosen : (b : Bool) (row : Bor Row) → option_map (λ r. r.now) (then_some b row) ≡ cond b (Some row.now) None
chosen true row = refl
chosen false row = refl

pub returns : goal.returns
returns c =
    let rows : List Row = c.args.rows.now in
    let cid : Cid = c.args.cid in
    let row : Row = c.in_ok-row.row.now in
    let lookup = c.in_ok-row.ensures.lookup in
    let here : slice_get rows c.place_of.result ≡ Some row = slice_get_read rows (length rows) c.place_of.result row refl lookup.3.0 lookup.1 in
    ap (option_map (λ r. r.now)) (c.then_some.ensures ∙ ap (λ b. then_some b c.in_ok-row.row) c.eq.ensures)
    ∙ (chosen (same_cid row.cid cid) c.in_ok-row.row
    ∙ sym (found rows cid c.place_of.result c.requires c.place_of.ensures.value ∙ ap (found_at cid) here))
