use Rattle.std.proofs.Common.{rules}
use Rattle.std.proofs.lemmas.List.Sorted.{IsPartitionPoint-from_clause}
use Rattle.conn_table.specs.Index.{placed_below, same_placed}
use Rattle.timer_queue.proofs.Rising.{is_under, partitioned, place_is}
use Rattle.links.specs.Link.{place_of}
use Rattle.links.proofs.LinkEdits.{placed_order}
use Rattle.links.proofs.link_row.place_near.Goals as goal

pub returns-clause-value : goal.returns-clause-value
returns-clause-value c =
    let p = is_under placed_below same_placed placed_order place_of c.args.placed in
    place_is p c.args.rows.now c.partition_point_near.result c.partition_point_near.ensures.bound
    (IsPartitionPoint-from_clause p c.args.rows.now c.partition_point_near.result c.partition_point_near.ensures.partitioned
    (partitioned placed_below same_placed placed_order place_of c.args.placed c.args.rows.now c.requires) (λ a r f k. search rules))
