use Rattle.std.proofs.Common.{sym, ◌∙◌}
use Rattle.clean_groups.proofs.Placing.{place_of-new}
use Rattle.clean_groups.proofs.groups.keep.Goals as goal

pub put-requires : goal.put-requires
put-requires c =
    place_of-new c.args.own c.args.addr c.args.places.now (sym c.is_taken.ensures ∙ c.if-is_taken.false)
