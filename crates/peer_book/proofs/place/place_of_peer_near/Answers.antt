use Rattle.std.proofs.Common.{rules}
use Rattle.std.proofs.lemmas.List.Sorted.{IsPartitionPoint-from_clause}
use Rattle.peer_book.proofs.Rising.{is_under, partitioned, place_is}
use Rattle.peer_book.proofs.place.place_of_peer_near.Goals as goal

pub returns : goal.returns
returns c =
    let p = is_under (λ p. p.addr) c.args.addr.now in
    place_is p c.args.peers.now c.partition_point_near.result c.partition_point_near.ensures.bound
    (IsPartitionPoint-from_clause p c.args.peers.now c.partition_point_near.result c.partition_point_near.ensures.partitioned
    (partitioned (λ p. p.addr) c.args.addr.now c.args.peers.now c.requires) (λ a r f k. search rules))
