use Rattle.std.proofs.Common.{◌≡◌, ◌<◌, length, sym, ap, subst, ◌∙◌}
use Rattle.links.specs.Rows.{AreInOrder, stands_at, without_link}
use Rattle.links.proofs.LinkEdits.{row-inside, remove-row, in_order-without}
use Rattle.links.proofs.link_row.LinkRow.leave.Goals.{After-remove}
use Rattle.links.proofs.link_row.LinkRow.leave.Goals as goal

pub remove-requires : goal.remove-requires
remove-requires c =
    subst (λ n. n < length c.self.inside.rows) (sym c.place_in-row.ensures.value)
    (row-inside c.args.placed c.self.inside.rows c.self.invariant (ap (stands_at c.args.placed) c.self.view_is ∙ c.requires))

taken : (c : After-remove) → c.remove.new.self ≡ without_link c.args.placed c.self.inside.rows
taken c =
    c.remove.ensures.items
    ∙ remove-row c.args.placed c.self.inside.rows c.place_in-row.result c.self.invariant
    (ap (stands_at c.args.placed) c.self.view_is ∙ c.requires) c.place_in-row.ensures.value

pub invariant_of-self : goal.invariant_of-self
invariant_of-self c = subst AreInOrder (sym (taken c)) (in_order-without c.args.placed c.self.inside.rows c.self.invariant)

pub returns : goal.returns
returns c = taken c ∙ ap (without_link c.args.placed) c.self.view_is
