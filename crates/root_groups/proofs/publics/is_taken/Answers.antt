use Rattle.std.proofs.Common.{◌∙◌, sym}
use Rattle.root_groups.proofs.Listed.{listed-set}
use Rattle.root_groups.proofs.publics.is_taken.Goals as goal

pub returns-else-is_same : goal.returns-else-is_same
returns-else-is_same c =
    rw (sym c.is_same.ensures ∙ c.if-is_same.false) (c.contains.ensures ∙ listed-set c.args.addr c.args.sorted.now.keys)
