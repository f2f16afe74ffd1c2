use Rattle.std.proofs.Common.{sym, ap, subst, ◌∙◌}
use Rattle.std.specs.List.{list_any}
use Rattle.govern_rules.specs.Marks.{has_mark}
use Rattle.govern_rules.specs.SortedLinks.{links_of}
use Rattle.govern_rules.specs.Walks.{IsSpot}
use Rattle.govern_rules.proofs.links.LinkList.some_at.Goals as goal

pub some_at-requires-clause-spot : goal.some_at-requires-clause-spot
some_at-requires-clause-spot c =
    subst (λ l. IsSpot c.args.addr.now l c.args.spot.place c.args.spot.run.now) (sym c.self.view_is) c.requires

pub returns : goal.returns
returns c = c.some_at.ensures ∙ ap (λ l. list_any (has_mark c.args.mark) (links_of c.args.addr.now l)) c.self.view_is
