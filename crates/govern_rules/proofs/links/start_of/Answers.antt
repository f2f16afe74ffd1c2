use Rattle.std.proofs.Common.{rules}
use Rattle.std.proofs.lemmas.List.Sorted.{IsPartitionPoint-from_clause}
use Rattle.peer_book.proofs.Rising.{place_is}
use Rattle.govern_rules.specs.SortedLinks.{is_below}
use Rattle.govern_rules.proofs.ByAddress.{partitioned}
use Rattle.govern_rules.proofs.links.start_of.Goals as goal

pub returns : goal.returns
returns c =
    place_is (is_below c.args.addr.now) c.args.links.now c.partition_point.result c.partition_point.ensures.bound
    (IsPartitionPoint-from_clause (is_below c.args.addr.now) c.args.links.now c.partition_point.result c.partition_point.ensures.partitioned
    (partitioned c.args.addr.now c.args.links.now c.requires) (λ a r f k. search rules))
