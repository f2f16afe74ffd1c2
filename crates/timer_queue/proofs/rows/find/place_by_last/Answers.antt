use Rattle.std.proofs.Common.{sym, ◌∙◌}
use Rattle.timer_queue.specs.Timers.{cid_below, same_cid}
use Rattle.timer_queue.proofs.Orders.{cid_order}
use Rattle.timer_queue.proofs.Rising.{place-found}
use Rattle.timer_queue.proofs.rows.find.place_by_last.Goals as goal

pub returns-then-is_at : goal.returns-then-is_at
returns-then-is_at c =
    place-found cid_below same_cid cid_order (λ r. r.cid) c.args.cid c.args.rows.now c.in_ok-place.place c.requires (sym c.is_at.ensures ∙ c.if-is_at.true)
