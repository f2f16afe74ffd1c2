use Rattle.std.proofs.Common.{◌≡◌, sym, ap, ◌∙◌, rules}
use Rattle.std.specs.List.{filter}
use Rattle.govern_rules.specs.Lent.{is_counted}
use Rattle.links.specs.Link.{place_of}
use Rattle.links.specs.Rows.{stands_at, with_new}
use Rattle.links.proofs.CountedLinks.{counted-absent, counted-entered, counted-passed}
use Rattle.links.proofs.linked.Links.enroll.Goals as goal

pub enter-requires : goal.enter-requires
enter-requires c = ap (stands_at (place_of c.args.link)) c.self.view_is ∙ c.requires

pub invariant_of-self : goal.invariant_of-self
invariant_of-self c = λ whole. c.self.invariant whole ∙ sym (ap (filter is_counted) c.in_err-enter.ensures.err)

pub enter-requires-then-is_counted : goal.enter-requires-then-is_counted
enter-requires-then-is_counted c =
    counted-absent (place_of c.args.link) c.self.inside.all c.self.inside.counted
    (ap (stands_at (place_of c.args.link)) c.self.view_is ∙ c.requires) (c.self.invariant c.if-self.true)

pub invariant_of-self-then-is_counted : goal.invariant_of-self-then-is_counted
invariant_of-self-then-is_counted c = λ entered.
    let is : c.enter-then-is_counted.new.self ≡ with_new c.args.link c.self.inside.counted = search rules in
    is
    ∙ (counted-entered c.args.link c.self.inside.all c.self.inside.counted c.enter.ensures.ordered (search rules) (c.self.invariant c.if-self.true)
    ∙ sym (ap (filter is_counted) c.in_ok-enter.ensures.ok))

pub invariant_of-self-else-is_counted : goal.invariant_of-self-else-is_counted
invariant_of-self-else-is_counted c = λ whole.
    counted-passed c.args.link c.self.inside.all c.self.inside.counted (search rules) (c.self.invariant whole)
    ∙ sym (ap (filter is_counted) c.in_ok-enter.ensures.ok)
