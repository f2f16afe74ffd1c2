use Rattle.std.proofs.Common.{◌≡◌, sym, ap, ◌∙◌}
use Rattle.std.specs.List.{filter}
use Rattle.govern_rules.specs.Lent.{is_counted}
use Rattle.links.specs.Link.{place_of}
use Rattle.links.specs.Rows.{stands_at, with_link}
use Rattle.links.proofs.CountedLinks.{counted-set}
use Rattle.links.proofs.linked.Links.set.Goals as goal

pub set-requires : goal.set-requires
set-requires c = ap (stands_at (place_of c.args.link)) c.self.view_is ∙ c.requires

pub invariant_of-self : goal.invariant_of-self
invariant_of-self c = λ whole.
    c.count_anew-has_all.ensures.counted whole
    ∙ (counted-set c.args.link c.self.inside.all c.self.inside.counted c.set.ensures.ordered
    (ap (stands_at (place_of c.args.link)) c.self.view_is ∙ c.requires) (c.self.invariant (c.count_anew-has_all.ensures.had whole))
    ∙ sym (ap (filter is_counted) c.set.ensures.put))

pub returns : goal.returns
returns c = c.set.ensures.put ∙ ap (with_link c.args.link) c.self.view_is
