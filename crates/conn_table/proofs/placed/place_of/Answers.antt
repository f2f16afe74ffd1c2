use Rattle.std.proofs.Common.{Bool, rules}
use Rattle.std.proofs.lemmas.List.Sorted.{IsPartitionPoint-from_clause}
use Rattle.conn_table.specs.Index.{placed_below}
use Rattle.conn_table.specs.declared.placed.Placed.{Placed}
use Rattle.conn_table.proofs.PlacedOrder.{placed_transitive}
use Rattle.conn_table.proofs.PlacedPlaces.{parted, place_is}
use Rattle.conn_table.proofs.placed.place_of.Goals as goal

pub returns : goal.returns
returns c =
    let under : Placed → Bool = λ p. placed_below p c.args.placed in
    place_is under c.args.items.now c.partition_point.result c.partition_point.ensures.bound
    (IsPartitionPoint-from_clause under c.args.items.now c.partition_point.result c.partition_point.ensures.partitioned
    (parted under (λ p q h k. placed_transitive p q c.args.placed h k) c.args.items.now c.requires) (λ a r f k. search rules))
