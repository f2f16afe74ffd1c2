use Rattle.std.proofs.Common.{ap, ◌∙◌}
use Rattle.root_groups.specs.Cleaned.{group_of}
use Rattle.root_groups.proofs.groups.Groups.group_of.Goals as goal

pub returns : goal.returns
returns c = c.get.ensures ∙ (c.self.invariant.noted c.args.addr ∙ ap (group_of c.args.addr) c.self.view_is)
