use Rattle.std.proofs.Common.{rules}
use Rattle.std.proofs.lemmas.List.Sorted.{IsPartitionPoint-from_clause}
use Rattle.timer_queue.specs.Timers.{cid_below, same_cid}
use Rattle.timer_queue.proofs.Orders.{cid_order}
use Rattle.timer_queue.proofs.Rising.{is_under, partitioned, place_is}
use Rattle.timer_queue.proofs.rows.find.place_of.Goals as goal

pub returns-in-None-clause-value : goal.returns-in-None-clause-value
returns-in-None-clause-value c =
    let p = is_under cid_below same_cid cid_order (λ r. r.cid) c.args.cid in
    place_is p c.args.rows.now c.partition_point.result c.partition_point.ensures.bound
    (IsPartitionPoint-from_clause p c.args.rows.now c.partition_point.result c.partition_point.ensures.partitioned
    (partitioned cid_below same_cid cid_order (λ r. r.cid) c.args.cid c.args.rows.now c.requires) (λ a r f k. search rules))
