use Rattle.std.proofs.Common.{ap, sym, subst, ◌∙◌}
use Rattle.std.specs.List.{IsDistinct}
use Rattle.net_base.specs.Address.{same_address}
use Rattle.root_groups.specs.Cleaned.{members_of, group_of}
use Rattle.root_groups.proofs.Apart.{distinct_cleaned}
use Rattle.root_groups.proofs.groups.Groups.replace.Goals as goal

pub invariant_of-result : goal.invariant_of-result
invariant_of-result c = record {
  noted = λ addr. c.in_ok-places.ensures addr ∙ ap (group_of addr) c.as_slice.ensures;
  distinct = subst (λ l. IsDistinct same_address (members_of l)) (sym c.in_ok-list.ensures) (distinct_cleaned c.args.own c.args.groups.now);
}
