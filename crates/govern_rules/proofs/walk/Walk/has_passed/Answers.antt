use Rattle.std.proofs.Common.{◌≡◌, [], sym, subst, ◌∙◌}
use Rattle.govern_rules.specs.SortedLinks.{links_of}
use Rattle.govern_rules.proofs.Walking.{passed_by_all}
use Rattle.govern_rules.proofs.walk.Walk.has_passed.Goals as goal

pub returns-then-is_before_first : goal.returns-then-is_before_first
returns-then-is_before_first c = λ passed.
    subst (λ links. links_of c.args.addr.now links ≡ []) c.self.view_is
    (passed_by_all c.args.addr.now c.self.inside.links.now c.self.inside.last c.self.inside.place c.self.inside.run.now c.self.invariant
    (sym c.is_beyond.ensures ∙ passed) (sym c.is_before_first.ensures ∙ c.if-is_before_first.true))
