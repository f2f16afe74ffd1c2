use Rattle.std.proofs.Common.{◌≡◌, ap, ◌∙◌}
use Rattle.std.specs.List.{insert}
use Rattle.std.proofs.lemmas.Result.{on_ok_weaker}
use Rattle.links.specs.Link.{place_of}
use Rattle.links.specs.Rows.{stands_at, with_new}
use Rattle.links.proofs.LinkEdits.{row_of, insert-row, in_order-tried}
use Rattle.links.proofs.link_row.LinkRow.enter.Goals.{After-insert}
use Rattle.links.proofs.link_row.LinkRow.enter.Goals as goal

put : (c : After-insert) → c.insert.new.self ≡ insert c.self.inside.rows c.place_near-row.result c.args.link →
    c.insert.new.self ≡ with_new c.args.link c.self.inside.rows
put c e =
    e
    ∙ insert-row c.args.link c.self.inside.rows c.place_near-row.result
    (c.place_near-row.ensures.value ∙ ap (λ p. row_of p c.self.inside.rows) c.place_of.ensures)

pub invariant_of-self : goal.invariant_of-self
invariant_of-self c =
    in_order-tried c.args.link c.self.inside.rows _ c.insert.result c.self.invariant
    (ap (stands_at (place_of c.args.link)) c.self.view_is ∙ c.requires) (on_ok_weaker c.insert.result (put c) c.insert.ensures.ok) c.insert.ensures.err

pub returns-clause-ok : goal.returns-clause-ok
returns-clause-ok c = on_ok_weaker c.insert.result (λ e. put c e ∙ ap (with_new c.args.link) c.self.view_is) c.insert.ensures.ok
