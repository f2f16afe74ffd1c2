use Rattle.std.proofs.Common.{refl, sym, ◌∙◌}
use Rattle.pick_policy.specs.Ordered.{scored_below}
use Rattle.pick_policy.proofs.OneMore.{least_by-none}
use Rattle.pick_policy.proofs.short_list.ShortList.new.Goals as goal

pub returns : goal.returns
returns c = (refl, c.in_ok-least.ensures.items ∙ sym (least_by-none scored_below c.args.most))
