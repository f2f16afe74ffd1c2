use Rattle.std.proofs.Common.{◌≡◌, true, ap, subst, sym, ◌∙◌, inl, inr}
use Rattle.govern_rules.specs.Lent.{is_counted}
use Rattle.govern_rules.specs.Links.{some_link}
use Rattle.govern_rules.specs.Marks.{has_mark}
use Rattle.govern_rules.specs.declared.link.Link.{Link}
use Rattle.govern_rules.specs.declared.mark.Mark.{Mark}
use Rattle.govern_rules.proofs.Counting.{same_marked, pending-counts, owes2-counts, owes10-counts}
use Rattle.govern_rules.proofs.links.LinkList.marked.Goals as goal

pub returns-in-Pending-clause-same : goal.returns-in-Pending-clause-same
returns-in-Pending-clause-same c =
    let passes : Mark → Type 0 = λ m. (l : Link) → has_mark m l ≡ true → is_counted l ≡ true in
    let counts : passes c.args.mark = elim c.in-Pending.is [
      | inl e ↦ subst passes (sym e) pending-counts
      | inr others ↦ elim others [ inl e ↦ subst passes (sym e) owes2-counts | inr e ↦ subst passes (sym e) owes10-counts ]
    ] in
    λ addr.
    same_marked (has_mark c.args.mark) counts c.self.inside.all.now c.self.inside.counted.now c.self.invariant.same addr
    ∙ ap (λ l. some_link (has_mark c.args.mark) l addr) c.self.view_is
