use Rattle.std.proofs.Common.{ap, sym, subst, ◌∙◌}
use Rattle.std.specs.List.{IsDistinct}
use Rattle.net_base.specs.Address.{same_address}
use Rattle.root_groups.specs.Cleaned.{members_of, group_of}
use Rattle.root_groups.specs.Places.{place_of}
use Rattle.root_groups.proofs.groups.Groups.new.Goals as goal

pub invariant_of-result : goal.invariant_of-result
unfolding IsDistinct
invariant_of-result c = record {
  noted = λ addr. ap (place_of addr) c.new-2.ensures ∙ ap (group_of addr) (sym c.new.ensures);
  distinct = subst (λ l. IsDistinct same_address (members_of l)) (sym c.new.ensures) tt;
}
