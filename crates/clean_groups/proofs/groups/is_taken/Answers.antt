use Rattle.std.proofs.Common.{sym, ◌∙◌}
use Rattle.clean_groups.proofs.Placing.{place_of-listed}
use Rattle.clean_groups.proofs.groups.is_taken.Goals as goal

pub returns-else-is_same : goal.returns-else-is_same
returns-else-is_same c =
    rw (sym c.is_same.ensures ∙ c.if-is_same.false) (c.has.ensures ∙ place_of-listed c.args.addr c.args.places.now)
