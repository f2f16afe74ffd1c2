use Rattle.std.proofs.Common.{map, sym, subst}
use Rattle.govern_rules.specs.SortedLinks.{SaySame}
use Rattle.machine.specs.Govern.{link_of}
use Rattle.connections.specs.Kept.{standing}
use Rattle.connections.specs.Linked.{links_in}
use Rattle.connections.specs.Standing.{Standing}
use Rattle.connections.proofs.LinkedTurns.{says}
use Rattle.connections.proofs.connections.Connections.links.Goals as goal

pub returns : goal.returns
returns c =
    subst (λ (s : Standing). SaySame c.list.result (map link_of s.entries)) c.self.view_is
    (subst (λ l. SaySame l (links_in (standing c.self.inside.kept))) (sym c.list.ensures) (says (standing c.self.inside.kept) c.self.inside.links c.self.invariant.1.1))
