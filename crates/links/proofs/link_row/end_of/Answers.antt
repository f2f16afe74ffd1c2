use Rattle.std.proofs.Common.{rules}
use Rattle.std.proofs.lemmas.List.Sorted.{IsPartitionPoint-from_clause}
use Rattle.timer_queue.proofs.Rising.{place_is}
use Rattle.links.proofs.LinkFinds.{is_up_to, parted}
use Rattle.links.proofs.link_row.end_of.Goals as goal

pub returns : goal.returns
returns c =
    let p = is_up_to c.args.addr in
    place_is p c.args.rows.now c.partition_point.result c.partition_point.ensures.bound
    (IsPartitionPoint-from_clause p c.args.rows.now c.partition_point.result c.partition_point.ensures.partitioned
    (parted c.args.addr c.args.rows.now c.requires) (λ a r f k. search rules))
