use Rattle.std.proofs.Common.{rules}
use Rattle.std.proofs.lemmas.List.Sorted.{IsPartitionPoint-from_clause}
use Rattle.conn_table.specs.Index.{up_to}
use Rattle.conn_table.proofs.LastAt.{up_to-earlier}
use Rattle.conn_table.proofs.PlacedPlaces.{parted, place_is}
use Rattle.conn_table.proofs.placed.end_of.Goals as goal

pub returns : goal.returns
returns c =
    place_is (up_to c.args.addr) c.args.items.now c.partition_point.result c.partition_point.ensures.bound
    (IsPartitionPoint-from_clause (up_to c.args.addr) c.args.items.now c.partition_point.result c.partition_point.ensures.partitioned
    (parted (up_to c.args.addr) (up_to-earlier c.args.addr) c.args.items.now c.requires) (λ a r f k. search rules))
