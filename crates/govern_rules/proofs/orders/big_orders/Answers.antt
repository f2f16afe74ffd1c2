use Rattle.std.proofs.Common.{sym, ap, subst, map, ◌∙◌}
use Rattle.std.specs.List.{IsDistinct}
use Rattle.net_base.specs.Address.{same_address}
use Rattle.pick_policy.specs.declared.rated.Rated.{Rated}
use Rattle.govern_rules.proofs.Picking.{addresses-rated}
use Rattle.govern_rules.proofs.orders.big_orders.Goals as goal

pub pick-requires : goal.pick-requires
pick-requires g c =
    subst (IsDistinct same_address) (sym (ap (map (λ (r : Rated). r.addr)) (c.deref.ensures.value ∙ c.in_ok-rated.ensures) ∙ addresses-rated _)) c.requires
