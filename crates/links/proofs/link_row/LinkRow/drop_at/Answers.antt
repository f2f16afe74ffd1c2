use Rattle.std.proofs.Common.{◌≡◌, ◌<◌, true, false, length, sym, ap, subst, ◌∙◌, rules}
use Rattle.links.specs.Rows.{AreInOrder, stands_at, without_link}
use Rattle.links.proofs.CountedLinks.{found-in_row}
use Rattle.links.proofs.LinkEdits.{row-inside, remove-row, in_order-without, all_stay}
use Rattle.links.proofs.link_row.LinkRow.drop_at.Goals.{After-is_at, After-remove}
use Rattle.links.proofs.link_row.LinkRow.drop_at.Goals as goal

-- the look in its row tells whether it stands there
looked : (c : After-is_at) → stands_at c.args.placed c.self.inside.rows ≡ c.is_at.result
looked c =
    sym (found-in_row c.args.placed c.self.inside.rows c.place_in-row.result c.self.invariant c.place_in-row.ensures.value) ∙ sym c.is_at.ensures

pub remove-requires : goal.remove-requires
remove-requires c =
    let found : c.is_at.result ≡ true = search rules in
    subst (λ n. n < length c.self.inside.rows) (sym c.place_in-row.ensures.value)
    (row-inside c.args.placed c.self.inside.rows c.self.invariant (looked (goal.at.remove-requires c).After-is_at ∙ found))

taken : (c : After-remove) → c.remove.new.self ≡ without_link c.args.placed c.self.inside.rows
taken c =
    let found : c.is_at.result ≡ true = search rules in
    c.remove.ensures.items
    ∙ remove-row c.args.placed c.self.inside.rows c.place_in-row.result c.self.invariant (looked (goal.at.After-remove c).After-is_at ∙ found)
    c.place_in-row.ensures.value

pub invariant_of-self : goal.invariant_of-self
invariant_of-self c =
    subst AreInOrder (sym (taken (goal.at.invariant_of-self c).After-remove)) (in_order-without c.args.placed c.self.inside.rows c.self.invariant)

pub returns : goal.returns
returns c = taken (goal.at.returns c).After-remove ∙ ap (without_link c.args.placed) c.self.view_is

pub returns-then-not-is_at : goal.returns-then-not-is_at
returns-then-not-is_at c =
    let none : c.is_at.result ≡ false = search rules in
    sym c.self.view_is
    ∙ (sym (all_stay c.args.placed c.self.inside.rows (looked (goal.at.returns-then-not-is_at c).After-is_at ∙ none)) ∙ ap (without_link c.args.placed) c.self.view_is)
