use Rattle.std.proofs.Common.{nat_le, rules}
use Rattle.std.proofs.lemmas.List.Sorted.{IsPartitionPoint-from_clause}
use Rattle.chunked_list.proofs.first.begun_by.Goals as goal

pub returns-clause-partitioned : goal.returns-clause-partitioned
returns-clause-partitioned c parted =
    IsPartitionPoint-from_clause (λ f. nat_le f c.args.place) c.args.firsts.now c.partition_point.result c.partition_point.ensures.partitioned parted (λ a r f k. search rules)
