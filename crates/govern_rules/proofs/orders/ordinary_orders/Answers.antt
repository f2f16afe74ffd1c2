use Rattle.std.proofs.Common.{sym, subst, ◌∙◌}
use Rattle.std.specs.List.{IsDistinct}
use Rattle.net_base.specs.Address.{same_address}
use Rattle.govern_rules.proofs.orders.ordinary_orders.Goals as goal

pub pick-requires : goal.pick-requires
pick-requires g c = subst (IsDistinct same_address) (sym (c.deref.ensures.value ∙ c.in_ok-addrs.ensures)) c.requires
