use Rattle.std.proofs.Common.{ap, ◌∙◌}
use Rattle.std.specs.List.{filter}
use Rattle.govern_rules.specs.Lent.{is_counted}
use Rattle.links.proofs.CountedLinks.{counted-twice}
use Rattle.links.proofs.linked.Links.counted_rows.Goals as goal

pub returns-then-self-clause-same : goal.returns-then-self-clause-same
returns-then-self-clause-same c =
    ap (filter is_counted) c.rows.ensures.value
    ∙ (counted-twice c.self.inside.all c.self.inside.counted (c.self.invariant c.if-self.true) ∙ ap (filter is_counted) c.self.view_is)
