use Rattle.std.proofs.Common.{◌∙◌, rules}
use Rattle.std.proofs.lemmas.List.Sorted.{IsPartitionPoint-from_clause}
use Rattle.conn_table.proofs.IdPlaces.{state_under, parted, id_place-map}
use Rattle.conn_table.specs.Rosters.{facts_kept}
use Rattle.conn_table.proofs.PlacedPlaces.{place_is}
use Rattle.conn_table.proofs.roster.Roster.place_by_id.Goals as goal

pub returns-in-None : goal.returns-in-None
returns-in-None c =
    let xs = c.args.self.now.states in
    place_is (state_under c.args.cid.0) xs c.partition_point.result c.partition_point.ensures.bound
    (IsPartitionPoint-from_clause (state_under c.args.cid.0) xs c.partition_point.result c.partition_point.ensures.partitioned
    (parted c.args.cid.0 0 c.args.self.now.given xs c.requires.ids_rise) (λ a r f k. search rules))
    ∙ id_place-map c.args.cid.0 xs
