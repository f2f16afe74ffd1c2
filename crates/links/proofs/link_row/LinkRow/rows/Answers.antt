use Rattle.std.proofs.Common.{subst}
use Rattle.govern_rules.specs.SortedLinks.{IsInOrder}
use Rattle.links.proofs.CountedLinks.{in_order_too}
use Rattle.links.proofs.link_row.LinkRow.rows.Goals as goal

pub returns-clause-ordered : goal.returns-clause-ordered
returns-clause-ordered c = subst IsInOrder c.self.view_is (in_order_too c.self.inside.rows c.self.invariant)
