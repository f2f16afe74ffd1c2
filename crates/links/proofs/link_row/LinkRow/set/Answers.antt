use Rattle.std.proofs.Common.{◌≡◌, ◌<◌, length, sym, ap, subst, ◌∙◌}
use Rattle.links.specs.Link.{place_of}
use Rattle.links.specs.Rows.{AreInOrder, stands_at, with_link}
use Rattle.links.proofs.LinkEdits.{row_of, row-inside, set-row, in_order-set}
use Rattle.links.proofs.link_row.LinkRow.set.Goals.{After-replace}
use Rattle.links.proofs.link_row.LinkRow.set.Goals as goal

pub replace-requires : goal.replace-requires
replace-requires c =
    let links = c.self.inside.rows in
    let at : c.place_in-row.result ≡ row_of (place_of c.args.link) links =
    c.place_in-row.ensures.value ∙ ap (λ p. row_of p links) c.place_of.ensures in
    subst (λ n. n < length links) (sym at)
    (row-inside (place_of c.args.link) links c.self.invariant (ap (stands_at (place_of c.args.link)) c.self.view_is ∙ c.requires))

put : (c : After-replace) → c.replace.new.self ≡ with_link c.args.link c.self.inside.rows
put c =
    let links = c.self.inside.rows in
    c.replace.ensures.items
    ∙ set-row c.args.link links c.place_in-row.result c.self.invariant (ap (stands_at (place_of c.args.link)) c.self.view_is ∙ c.requires)
    (c.place_in-row.ensures.value ∙ ap (λ p. row_of p links) c.place_of.ensures)

pub invariant_of-self : goal.invariant_of-self
invariant_of-self c = subst AreInOrder (sym (put c)) (in_order-set c.args.link c.self.inside.rows c.self.invariant)

pub returns-clause-put : goal.returns-clause-put
returns-clause-put c = put c ∙ ap (with_link c.args.link) c.self.view_is

pub returns-clause-ordered : goal.returns-clause-ordered
returns-clause-ordered c = subst AreInOrder c.self.view_is c.self.invariant
