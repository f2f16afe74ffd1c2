use Rattle.std.proofs.Common.{◌≡◌, sym, ap, ◌∙◌}
use Rattle.std.specs.List.{filter}
use Rattle.govern_rules.specs.Lent.{is_counted}
use Rattle.links.specs.Rows.{stands_at, without_link}
use Rattle.links.proofs.CountedLinks.{counted-left}
use Rattle.links.proofs.linked.Links.leave.Goals as goal

pub leave-requires : goal.leave-requires
leave-requires c = ap (stands_at c.args.placed) c.self.view_is ∙ c.requires

pub invariant_of-self : goal.invariant_of-self
invariant_of-self c = λ whole.
    c.drop_at.ensures
    ∙ (counted-left c.args.placed c.self.inside.all c.self.inside.counted (c.self.invariant whole) ∙ sym (ap (filter is_counted) c.leave.ensures))

pub returns : goal.returns
returns c = c.leave.ensures ∙ ap (without_link c.args.placed) c.self.view_is
