use Rattle.std.proofs.Common.{◌∙◌}
use Rattle.govern_rules.specs.Marks.{has_mark}
use Rattle.govern_rules.proofs.ByAddress.{own_say}
use Rattle.govern_rules.proofs.links.LinkList.some.Goals as goal

pub returns : goal.returns
returns c = c.some_at.ensures ∙ own_say (has_mark c.args.mark) c.args.addr.now c.args.self.now
