use Rattle.std.proofs.Common.{◌≡◌, sym, ap, subst, ◌∙◌}
use Rattle.std.specs.List.{filter}
use Rattle.govern_rules.specs.Lent.{is_counted}
use Rattle.govern_rules.specs.SortedLinks.{IsInOrder}
use Rattle.links.proofs.linked.Links.list.Goals as goal

pub lent-requires : goal.lent-requires
lent-requires c = record {
  ordered = subst IsInOrder (sym c.rows.ensures.value) c.rows.ensures.ordered;
  counted_ordered = c.counted_rows.ensures.ordered;
  same = c.counted_rows.ensures.same ∙ ap (filter is_counted) (sym c.self.view_is ∙ sym c.rows.ensures.value);
}
