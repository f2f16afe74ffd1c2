use Rattle.std.proofs.Common.{is_some, slice_get, sym, ap, ◌∙◌}
use Rattle.std.specs.Bool.{then_some}
use Rattle.timer_queue.specs.Rows.{found_at}
use Rattle.timer_queue.specs.Timers.{cid_below, same_cid}
use Rattle.timer_queue.proofs.Orders.{cid_order}
use Rattle.timer_queue.proofs.Rising.{find-place}
use Rattle.timer_queue.proofs.rows.find.place_in.Goals as goal

pub returns : goal.returns
returns c =
    let rows = c.args.rows.now in
    let there = c.is_at.ensures
    ∙ ap is_some (ap (λ n. found_at c.args.cid (slice_get rows n)) c.place_of-place.ensures.value
    ∙ sym (find-place cid_below same_cid cid_order (λ r. r.cid) c.args.cid rows c.requires)) in
    c.then_some.ensures ∙ (ap (λ b. then_some b c.place_of-place.result) there ∙ ap (then_some _) c.place_of-place.ensures.value)
